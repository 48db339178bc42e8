use Rattle.std.proofs.Common.{◌≡◌, drop, map}
use Rattle.std.specs.List.{list_all}
use Rattle.sigtext.specs.Fields.{header_of}
use Rattle.sigtext.specs.SignedValues.{is_covered}
use Rattle.sigtext.specs.Signing.{signed_header}
use Rattle.sigtext.proofs.values.covers_all.Given as goal

abbrev pub invariant-loop-field : goal.invariant-loop-field
invariant-loop-field l =
    list_all (λ f. is_covered (map signed_header l.signed) (header_of f)) (drop l.field-index l.fields) ≡ list_all (is_covered (map signed_header l.signed)) (map header_of l.fields)
