use Rattle.std.proofs.Common.{◌∙◌, subst, sym, refl}
use Rattle.std.specs.Prelude.{Contains}
use Rattle.std.specs.FinMap.{FinMap}
use Rattle.std.proofs.lemmas.Bool.{false≢true}
use Rattle.std.proofs.lemmas.List.{take_all}
use Rattle.sigtext.specs.Bytes.{bytes_cmp}
use Rattle.boxes.specs.State.{Key}
use Rattle.sqltables.specs.Tables.{Box}
use Rattle.sqlaudit.specs.declared.lines.LimitLine.{LimitLine}
use Rattle.sqlaudit.specs.Outlines.{IsLimitRule}
use Rattle.sqlaudit.specs.Sorting.{limit_in}
use Rattle.sqlaudit.proofs.Entries.{each_more, none_before, has_at}
use Rattle.sqlaudit.proofs.limit_rules.are_limits.Goals as goal

abbrev Ruled : FinMap bytes_cmp Key → FinMap bytes_cmp Box → LimitLine → Type 0
Ruled ks bs line = IsLimitRule ks bs (limit_in line)

pub loop-line-init : goal.loop-line-init
loop-line-init c ks bs hk hb = none_before (Ruled ks bs) c.args.lines.now

pub loop-line-preserved : goal.loop-line-preserved
loop-line-preserved c ks bs hk hb =
    each_more (Ruled ks bs) c.args.lines.now c.loop-line.line-index c.line-item.result (c.loop-line.invariant ks bs hk hb) c.loop-line-test.true (sym c.line-item.is)
    ((c.is_limit.ensures ks bs hk hb).0 c.if-not-is_limit.false)

pub returns-then-not-is_limit : goal.returns-then-not-is_limit
returns-then-not-is_limit c ks bs hk hb = (
  λ t. absurd (false≢true t),
  λ all. sym c.if-not-is_limit.true ∙ (c.is_limit.ensures ks bs hk hb).1 (all c.line-item.result (has_at c.args.lines.now c.loop-line.line-index c.line-item.result c.loop-line-test.true (sym c.line-item.is))),
)

pub returns : goal.returns
returns c ks bs hk hb = (
  λ t line there. c.loop-line.invariant ks bs hk hb line (subst (λ xs. Contains xs line) (sym (take_all c.loop-line.line-index c.args.lines.now c.loop-line-test.false)) there),
  λ all. refl,
)
