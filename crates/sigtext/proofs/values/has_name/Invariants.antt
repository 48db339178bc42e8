use Rattle.std.proofs.Common.{◌≡◌, drop, map}
use Rattle.std.specs.List.{list_any}
use Rattle.sigtext.specs.Bytes.{same_bytes}
use Rattle.sigtext.specs.SignedHeaders.{lower_case}
use Rattle.sigtext.specs.Signing.{signed_header}
use Rattle.sigtext.proofs.values.has_name.Given as goal

abbrev pub invariant-loop-field : goal.invariant-loop-field
invariant-loop-field l =
    list_any (λ f. same_bytes (lower_case f.name.now) (lower_case l.name)) (drop l.field-index l.fields) ≡ list_any (λ s. same_bytes s.name (lower_case l.name)) (map signed_header l.fields)
