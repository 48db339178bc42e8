use Rattle.std.proofs.Common.{slice_get, subst, sym, refl, ◌∙◌}
use Rattle.std.proofs.lemmas.Bool.{false≢true}
use Rattle.std.specs.Prelude.{Contains}
use Rattle.std.proofs.lemmas.List.{take_all}
use Rattle.sqlaudit.specs.Outlines.{IsPieceIn}
use Rattle.sqlaudit.proofs.Entries.{each_more, none_before, has_at}
use Rattle.sqlaudit.proofs.piece_rules.are_pieces.Goals as goal

pub loop-line-init : goal.loop-line-init
loop-line-init c rs m hr hf = none_before (IsPieceIn (slice_get rs) m) c.args.lines.now

pub loop-line-preserved : goal.loop-line-preserved
loop-line-preserved c rs m hr hf =
    each_more (IsPieceIn (slice_get rs) m) c.args.lines.now c.loop-line.line-index c.line-item.result (c.loop-line.invariant rs m hr hf) c.loop-line-test.true (sym c.line-item.is)
    ((c.is_piece.ensures rs m hr hf).0 c.if-not-is_piece.false)

pub returns-then-not-is_piece : goal.returns-then-not-is_piece
returns-then-not-is_piece c rs m hr hf = (
  λ t. absurd (false≢true t),
  λ all. sym c.if-not-is_piece.true ∙ (c.is_piece.ensures rs m hr hf).1 (all c.line-item.result (has_at c.args.lines.now c.loop-line.line-index c.line-item.result c.loop-line-test.true (sym c.line-item.is))),
)

pub returns : goal.returns
returns c rs m hr hf = (
  λ t line there. c.loop-line.invariant rs m hr hf line (subst (λ xs. Contains xs line) (sym (take_all c.loop-line.line-index c.args.lines.now c.loop-line-test.false)) there),
  λ all. refl,
)
