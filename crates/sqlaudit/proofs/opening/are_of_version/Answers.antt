use Rattle.std.proofs.Common.{◌≡◌, ℤ, get_or, subst, sym, refl, ◌∙◌}
use Rattle.std.proofs.lemmas.Bool.{false≢true}
use Rattle.std.specs.Prelude.{Contains}
use Rattle.std.proofs.lemmas.List.{take_all}
use Rattle.sqlaudit.specs.declared.lines.OfficeLine.{OfficeLine}
use Rattle.sqlaudit.proofs.Entries.{each_more, none_before, has_at}
use Rattle.sqlaudit.proofs.OfficeEntries.{no_line, read_again}
use Rattle.sqlaudit.proofs.opening.are_of_version.Goals as goal

abbrev Says : ℤ → OfficeLine → Type 0
Says version l = l.version ≡ version

pub loop-line-init : goal.loop-line-init
loop-line-init c = none_before (Says c.args.first.now.version) c.args.lines.now

pub loop-line-preserved : goal.loop-line-preserved
loop-line-preserved c =
    each_more (Says c.args.first.now.version) c.args.lines.now c.loop-line.line-index (get_or c.args.lines.now c.loop-line.line-index no_line) c.loop-line.invariant c.loop-line-test.true (read_again c.args.lines.now c.loop-line.line-index c.loop-line-test.true)
    (c.is_of_version.ensures.0 c.if-not-is_of_version.false)

pub returns-then-not-is_of_version : goal.returns-then-not-is_of_version
returns-then-not-is_of_version c =
    let line = get_or c.args.lines.now c.loop-line.line-index no_line in (
      λ t. absurd (false≢true t),
      λ all. sym c.if-not-is_of_version.true ∙ c.is_of_version.ensures.1 (all line (has_at c.args.lines.now c.loop-line.line-index line c.loop-line-test.true (read_again c.args.lines.now c.loop-line.line-index c.loop-line-test.true))),
    )

pub returns : goal.returns
returns c = (
  λ t line there. c.loop-line.invariant line (subst (λ xs. Contains xs line) (sym (take_all c.loop-line.line-index c.args.lines.now c.loop-line-test.false)) there),
  λ all. refl,
)
