use Rattle.std.proofs.Common.{◌++◌, drop, map, codes}
use Rattle.sigtext.specs.SignedHeaders.{signed_headers}
use Rattle.sigtext.specs.Signing.{signed_header}
use Rattle.sigtext.proofs.JoinedTexts.{joined_behind}
use Rattle.sigtext.proofs.Sent.{Sent}
use Rattle.sigtext.proofs.canonical.send_names.Given as goal

abbrev pub invariant-loop-field : goal.invariant-loop-field
invariant-loop-field g l =
    Sent g.S.ByteSink.takes l.fn.sink (signed_headers (map signed_header l.fields) ++ codes "\nUNSIGNED-PAYLOAD")
    (joined_behind l.separator 59 (map (λ s. s.name) (map signed_header (drop l.field-index l.fields))) ++ codes "\nUNSIGNED-PAYLOAD") l.sink
