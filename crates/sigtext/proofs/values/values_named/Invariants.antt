use Rattle.std.proofs.Common.{eqb, length, take, map}
use Rattle.std.specs.List.{slice_split}
use Rattle.sigtext.specs.declared.refusal.Refusal.TheVariants as rule
use Rattle.sigtext.specs.Fields.{header_of}
use Rattle.sigtext.specs.SignedHeaders.{lower_case}
use Rattle.sigtext.specs.SignedValues.{ValueRule}
use Rattle.sigtext.specs.Signing.{signed_header}
use Rattle.sigtext.proofs.values.values_named.Given as goal

abbrev pub invariant-loop-name : goal.invariant-loop-name
invariant-loop-name l = record {
  can : (goal.iterator-loop-name).can_next l.name-iterator;
  finite : (goal.iterator-loop-name).is_finite l.name-iterator;
  sofar : ValueRule (map header_of l.fields) (map lower_case (take (length l.yielded) (slice_split (λ b. eqb b 59) l.names))) rule.SignedValues (map signed_header l.values.items);
}
