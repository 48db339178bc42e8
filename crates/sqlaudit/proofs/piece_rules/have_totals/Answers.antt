use Rattle.std.proofs.Common.{subst, sym, refl, ◌∙◌}
use Rattle.std.proofs.lemmas.Bool.{false≢true}
use Rattle.std.specs.Prelude.{Contains}
use Rattle.std.proofs.lemmas.List.{take_all}
use Rattle.sqlaudit.specs.Sorting.{HasTotals}
use Rattle.sqlaudit.proofs.Entries.{each_more, none_before, has_at}
use Rattle.sqlaudit.proofs.piece_rules.have_totals.Goals as goal

pub loop-line-init : goal.loop-line-init
loop-line-init c rs m hs = none_before (HasTotals rs m) c.args.lines.now

pub loop-line-preserved : goal.loop-line-preserved
loop-line-preserved c rs m hs =
    each_more (HasTotals rs m) c.args.lines.now c.loop-line.line-index c.line-item.result (c.loop-line.invariant rs m hs) c.loop-line-test.true (sym c.line-item.is)
    ((c.has_totals.ensures rs m hs).0 c.if-not-has_totals.false)

pub returns-then-not-has_totals : goal.returns-then-not-has_totals
returns-then-not-has_totals c rs m hs = (
  λ t. absurd (false≢true t),
  λ all. sym c.if-not-has_totals.true ∙ (c.has_totals.ensures rs m hs).1 (all c.line-item.result (has_at c.args.lines.now c.loop-line.line-index c.line-item.result c.loop-line-test.true (sym c.line-item.is))),
)

pub returns : goal.returns
returns c rs m hs = (
  λ t line there. c.loop-line.invariant rs m hs line (subst (λ xs. Contains xs line) (sym (take_all c.loop-line.line-index c.args.lines.now c.loop-line-test.false)) there),
  λ all. refl,
)
