use Rattle.std.proofs.Common.{[], ◌∷◌, ◌++◌, drop, map}
use Rattle.sigtext.specs.SignedHeaders.{canonical_headers}
use Rattle.sigtext.specs.Signing.{signed_header}
use Rattle.sigtext.proofs.Sent.{Sent}
use Rattle.sigtext.proofs.canonical.send_headers.Given as goal

abbrev pub invariant-loop-field : goal.invariant-loop-field
invariant-loop-field g l =
    Sent g.S.ByteSink.takes l.fn.sink (canonical_headers (map signed_header l.fields) ++ 10 ∷ []) (canonical_headers (map signed_header (drop l.field-index l.fields)) ++ 10 ∷ []) l.sink
