use Rattle.std.proofs.Common.{◌≡◌, ◌∙◌, ap, sym, rules, arith}
use Rattle.std.proofs.lemmas.Grind.{common_steps}
use Rattle.sqltables.specs.Tables.{days_text}
use Rattle.sqlaudit.proofs.box_rules.days_of.Goals as goal

pub returns-then-ne : goal.returns-then-ne
returns-then-ne c days long is =
    let marks : c.in-Ok.marks.now ≡ c.args.text.now = search rules in
    let same : c.digits_of_days.result ≡ c.in-Ok.marks.now = c.digits_of_days.ensures.value ∙ ap days_text (c.days_told-days.ensures days (marks ∙ is)) ∙ sym (marks ∙ is) in
    let apart : c.digits_of_days.result ≡ c.in-Ok.marks.now → ⊥ = search rules in
    apart same

pub returns-in_default : goal.returns-in_default
returns-in_default c = grind (arith, common_steps)
