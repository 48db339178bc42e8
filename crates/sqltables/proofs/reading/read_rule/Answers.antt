use Rattle.std.proofs.Common.{◌≡◌, map, pos, sym, ap, ◌∙◌, rules, arith}
use Rattle.sqlite_value.specs.declared.value.Value.TheVariants.{Int}
use Rattle.sqltables.proofs.Readings.{ends_are}
use Rattle.sqltables.proofs.reading.read_rule.Goals as goal

pub returns-in_ok-cut_texts-in-1 : goal.returns-in_ok-cut_texts-in-1
returns-in_ok-cut_texts-in-1 c rule good kind text =
    let one : c.in_ok-get.field-0 ≡ pos 1 = search rules in
    ends_are rule (map (λ t. t.items) c.in_ok-cut_texts-in-1.field-0.items) c.in_ok-text.text.items good (sym (ap Int one) ∙ sym c.in_ok-get.ensures.ok.1 ∙ kind) (sym c.in_ok-text.ensures ∙ text) (search rules)

pub returns-in-0 : goal.returns-in-0
returns-in-0 c = grind arith

pub returns-in-2 : goal.returns-in-2
returns-in-2 c = grind arith
