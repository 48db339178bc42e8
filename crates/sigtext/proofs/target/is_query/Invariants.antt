use Rattle.std.specs.Prelude.{◌↔◌}
use Rattle.sigtext.specs.Targets.{SpellsSomeQuery}
use Rattle.sigtext.proofs.Pieces.{SpellsSomeOptional}
use Rattle.sigtext.proofs.target.is_query.Given as goal

abbrev pub invariant-loop-raw : goal.invariant-loop-raw
invariant-loop-raw l = record {
  can : (goal.iterator-loop-raw).can_next l.raw-iterator;
  finite : (goal.iterator-loop-raw).is_finite l.raw-iterator;
  same : SpellsSomeOptional l.raw-iterator.left ↔ SpellsSomeQuery l.text;
}
