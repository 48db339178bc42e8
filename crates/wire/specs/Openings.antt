-- The parts of a head that begins a message.
use Rattle.std.specs.Prelude.{◌≡◌, ◌≤◌, ℕ, List, map, take, Result, Ok, ⊤}
use Rattle.httparse.specs.Grammar.{RequestHead}
use Rattle.sigtext.specs.declared.field.Field.{Field}
use Rattle.sigtext.specs.Fields.{header_of}
use Rattle.sigtext.specs.Limits.{most_fields}
use Rattle.wire.specs.Framing.{IsHead, headers_of}
use Rattle.wire.specs.declared.fault.WireFault.{WireFault}
use Rattle.wire.specs.declared.feed.Opening.{Opening}
use Rattle.wire.specs.declared.feed.Step.{Step}
use Rattle.wire.specs.declared.feed.Step.TheVariants as step
use Rattle.wire.specs.declared.head.Head.{Head}

-- the parts are those of the head with this text, and the list begins with its fields
abbrev pub ArePartsOf : List ℕ → Head → List Field → Type 0
ArePartsOf text parts fields =
    (head : RequestHead) × IsHead text head × (parts.method.now ≡ head.method) × (parts.target.now ≡ head.target)
    × (parts.count ≤ most_fields) × (map header_of (take parts.count fields) ≡ headers_of head)

-- the same for a head that was found
abbrev pub OpensWith : List Field → Result (Step Opening) WireFault → Type 0
OpensWith fields (Ok (step.Head h)) = ArePartsOf h.text.now h.head fields
OpensWith fields _ = ⊤
