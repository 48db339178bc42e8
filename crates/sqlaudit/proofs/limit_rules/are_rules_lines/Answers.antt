use Rattle.std.proofs.Common.{◌≡◌, ◌∙◌, ℤ, pos, get_or, subst, sym, refl}
use Rattle.std.specs.Prelude.{Contains}
use Rattle.std.proofs.lemmas.Bool.{false≢true}
use Rattle.std.proofs.lemmas.List.{take_all}
use Rattle.sqlaudit.specs.declared.lines.RulesLine.{RulesLine}
use Rattle.sqlaudit.proofs.Entries.{each_more, none_before, has_at}
use Rattle.sqlaudit.proofs.LimitEntries.{no_rules_line, rules_again}
use Rattle.sqlaudit.proofs.limit_rules.are_rules_lines.Goals as goal

abbrev Tells : ℤ → RulesLine → Type 0
Tells allowance l = (l.id ≡ pos 1) × (l.allowance ≡ allowance)

pub loop-line-init : goal.loop-line-init
loop-line-init c = none_before (Tells c.args.first.now.allowance) c.args.lines.now

pub loop-line-preserved : goal.loop-line-preserved
loop-line-preserved c =
    each_more (Tells c.args.first.now.allowance) c.args.lines.now c.loop-line.line-index (get_or c.args.lines.now c.loop-line.line-index no_rules_line) c.loop-line.invariant c.loop-line-test.true (rules_again c.args.lines.now c.loop-line.line-index c.loop-line-test.true)
    (c.is_rules_line.ensures.0 c.if-not-is_rules_line.false)

pub returns-then-not-is_rules_line : goal.returns-then-not-is_rules_line
returns-then-not-is_rules_line c =
    let line = get_or c.args.lines.now c.loop-line.line-index no_rules_line in (
      λ t. absurd (false≢true t),
      λ all. sym c.if-not-is_rules_line.true ∙ c.is_rules_line.ensures.1 (all line (has_at c.args.lines.now c.loop-line.line-index line c.loop-line-test.true (rules_again c.args.lines.now c.loop-line.line-index c.loop-line-test.true))),
    )

pub returns : goal.returns
returns c = (
  λ t line there. c.loop-line.invariant line (subst (λ xs. Contains xs line) (sym (take_all c.loop-line.line-index c.args.lines.now c.loop-line-test.false)) there),
  λ all. refl,
)
