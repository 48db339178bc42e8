use Rattle.std.proofs.Common.{◌≡◌, ◌++◌, drop, map}
use Rattle.sigtext.specs.Fields.{header_of}
use Rattle.sigtext.specs.SignedHeaders.{signed_headers}
use Rattle.sigtext.proofs.JoinedTexts.{joined_behind}
use Rattle.links.proofs.writing.names_text.Given as goal

abbrev pub invariant-loop-field : goal.invariant-loop-field
invariant-loop-field l =
    signed_headers (map header_of l.fields)
    ≡ l.text.items ++ joined_behind l.separator 59 (map (λ s. s.name) (map header_of (drop l.field-index l.fields)))
