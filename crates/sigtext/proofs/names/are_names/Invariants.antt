use Rattle.std.proofs.Common.{[], false, eqb, length, drop}
use Rattle.std.specs.Prelude.{◌↔◌}
use Rattle.std.specs.List.{slice_split}
use Rattle.sigtext.proofs.NamePieces.{AreNames}
use Rattle.sigtext.proofs.names.are_names.Given as goal

abbrev pub invariant-loop-name : goal.invariant-loop-name
invariant-loop-name l = record {
  can : (goal.iterator-loop-name).can_next l.name-iterator;
  finite : (goal.iterator-loop-name).is_finite l.name-iterator;
  same : AreNames (drop (length l.yielded) (slice_split (λ b. eqb b 59) l.text)) l.before l.has_host ↔ AreNames (slice_split (λ b. eqb b 59) l.text) [] false;
}
