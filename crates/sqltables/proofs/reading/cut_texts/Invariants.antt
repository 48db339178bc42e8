use Rattle.std.proofs.Common.{◌≡◌, eqb, length, take, map}
use Rattle.std.specs.List.{slice_split}
use Rattle.sqltables.proofs.reading.cut_texts.Given as goal

abbrev pub invariant-loop-piece : goal.invariant-loop-piece
invariant-loop-piece l = record {
  can : (goal.iterator-loop-piece).can_next l.piece-iterator;
  finite : (goal.iterator-loop-piece).is_finite l.piece-iterator;
  sofar : map (λ t. t.items) l.texts.items ≡ take (length l.yielded) (slice_split (λ b. eqb b 44) l.text);
}
