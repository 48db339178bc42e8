use Rattle.std.specs.Prelude.{List}
use Rattle.sigtext.specs.Target.{Param}
use Rattle.sigtext.specs.Targets.{SpellsOptionalQuery}
use Rattle.sigtext.specs.Readable.{is_signing_name, is_other_amz_name}
use Rattle.links.proofs.PairLoops.{TellsAny}
use Rattle.links.proofs.six.amz_names.Given as goal

abbrev pub invariant-loop-raw : goal.invariant-loop-raw
invariant-loop-raw l = record {
  can : (goal.iterator-loop-raw).can_next l.raw-iterator;
  finite : (goal.iterator-loop-raw).is_finite l.raw-iterator;
  signing : (params : List Param) → SpellsOptionalQuery l.target.query params → TellsAny is_signing_name params l.signing l.raw-iterator;
  other : (params : List Param) → SpellsOptionalQuery l.target.query params → TellsAny is_other_amz_name params l.other l.raw-iterator;
}
