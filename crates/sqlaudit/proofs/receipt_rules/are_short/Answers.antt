use Rattle.std.proofs.Common.{◌≤ℤ◌, pos, subst, sym, refl, ◌∙◌}
use Rattle.std.proofs.lemmas.Bool.{false≢true}
use Rattle.std.specs.Prelude.{Contains}
use Rattle.std.proofs.lemmas.List.{take_all}
use Rattle.sqlaudit.specs.declared.lines.ReceiptLine.{ReceiptLine}
use Rattle.sqlaudit.specs.Opened.{most_first_body}
use Rattle.sqlaudit.proofs.Entries.{each_more, none_before, has_at}
use Rattle.sqlaudit.proofs.receipt_rules.are_short.Goals as goal

abbrev IsShort : ReceiptLine → Type 0
IsShort l = l.length ≤ℤ pos most_first_body

pub loop-line-init : goal.loop-line-init
loop-line-init c = none_before IsShort c.args.lines.now

pub loop-line-preserved : goal.loop-line-preserved
loop-line-preserved c =
    each_more IsShort c.args.lines.now c.loop-line.line-index c.line-item.result c.loop-line.invariant c.loop-line-test.true (sym c.line-item.is)
    (c.is_short.ensures.0 c.if-not-is_short.false)

pub returns-then-not-is_short : goal.returns-then-not-is_short
returns-then-not-is_short c = (
  λ t. absurd (false≢true t),
  λ all. sym c.if-not-is_short.true ∙ c.is_short.ensures.1 (all c.line-item.result (has_at c.args.lines.now c.loop-line.line-index c.line-item.result c.loop-line-test.true (sym c.line-item.is))),
)

pub returns : goal.returns
returns c = (
  λ t line there. c.loop-line.invariant line (subst (λ xs. Contains xs line) (sym (take_all c.loop-line.line-index c.args.lines.now c.loop-line-test.false)) there),
  λ all. refl,
)
