use Rattle.std.proofs.Common.{◌∙◌, sym, refl}
use Rattle.std.proofs.lemmas.Bool.{false≢true}
use Rattle.sqlaudit.proofs.LimitEntries.{first_rules, no_rules, rules_line, rules_are}
use Rattle.sqlaudit.proofs.limit_rules.has_allowance.Goals as goal

pub returns-in_default : goal.returns-in_default
returns-in_default c = (
  λ t. absurd (false≢true t),
  λ o. absurd (no_rules c.args.lines.now (sym c.in_default.ensures.value ∙ refl) o.0 o.1),
)

pub returns-then-not-is_allowance : goal.returns-then-not-is_allowance
returns-then-not-is_allowance c = (
  λ t. absurd (false≢true t),
  λ o.
      let there = first_rules c.args.lines.now c.in-Some.first.now (sym c.in-Some.ensures.value) in
      let line = rules_line c.args.lines.now c.in-Some.first.now o.0 there o.1 in
      sym c.if-not-is_allowance.true ∙ c.is_allowance.ensures.1 (o.0, line.allowance_is, o.2),
)

pub returns : goal.returns
returns c =
    let there = first_rules c.args.lines.now c.in-Some.first.now (sym c.in-Some.ensures.value) in
    let told = c.is_allowance.ensures.0 c.if-not-is_allowance.false in (
      λ t. (told.0, rules_are c.args.lines.now c.in-Some.first.now told.0 there told.1 (c.are_rules_lines.ensures.0 t), told.2),
      λ o. c.are_rules_lines.ensures.1 (λ l h.
          let first = rules_line c.args.lines.now c.in-Some.first.now o.0 there o.1 in
          let line = rules_line c.args.lines.now l o.0 h o.1 in
          (line.id_is, line.allowance_is ∙ sym first.allowance_is)),
    )
