-- What an `Outbox` has not sent yet.
use Rattle.std.specs.Prelude.{ℕ, List, drop, IsNone, IsSome, Option}
use Rattle.std.specs.Io.KnownBytes.{append_known}
use Rattle.wire.specs.declared.outbox.Outbox.{Outbox}

-- the bytes that were accepted and not sent yet
abbrev pub waits_out : {S : Type 0} → Outbox S → List ℕ
waits_out o = drop o.start o.bytes.items

-- a write failed, or took nothing of a non-empty buffer
abbrev pub WriteFailed : {S : Type 0} → Outbox S → Type 0
WriteFailed o = IsSome o.fault

-- no write failed, and each took some of the bytes that it was given
abbrev pub NoneFailed : {S : Type 0} → Outbox S → Type 0
NoneFailed o = IsNone o.fault

-- All bytes that were accepted: what the writer holds, if that is known, followed by the bytes that wait.
-- contents: what a writer holds.
abbrev pub handed_over : {S : Type 0} → (S → Option (List ℕ)) → Outbox S → Option (List ℕ)
handed_over contents o = append_known (contents o.inner) (waits_out o)
