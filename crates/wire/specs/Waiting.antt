-- The bytes in a `Backlog`, and what they show of the stream.
use Rattle.std.specs.Prelude.{◌≡◌, ◌≢◌, ◌⊎◌, Bool, true, false, ℕ, ◌+◌, ◌-◌, ◌<◌, ◌≤◌, List, [], ◌++◌, length, take, slice_range, Option, None, Some, Result, IfErr, Ok, Err, ⊤}
use Rattle.std.specs.Io.KnownBytes.{Consumes, IsAtEnd, Keeps}
use Rattle.sigtext.specs.Limits.{most_head}
use Rattle.wire.specs.Heads.{IsHeadEnd, HasNoHeadEnd}
use Rattle.wire.specs.declared.backlog.Backlog.{Backlog}
use Rattle.wire.specs.declared.counted.Counted.{Counted}
use Rattle.sigtext.specs.declared.refusal.Refusal.TheVariants as rule
use Rattle.wire.specs.declared.fault.WireFault.{WireFault}
use Rattle.wire.specs.declared.fault.WireFault.TheVariants as fault
use Rattle.wire.specs.declared.feed.Step.{Step}
use Rattle.wire.specs.declared.feed.Step.TheVariants as step

-- the bytes that were read and not taken
unfoldable pub waiting : Backlog → List ℕ
waiting b = slice_range b.bytes.items b.start b.end

-- the n bytes that were taken last
unfoldable pub taken : Backlog → ℕ → List ℕ
taken b n = slice_range b.bytes.items (b.start - n) b.start

-- The bytes that came are appended to those that waited. more tells whether any came. reader and rest: what
-- the reader had, and what it has now.
abbrev pub Adds : Bool → List ℕ → List ℕ → Option (List ℕ) → Option (List ℕ) → Type 0
Adds more old new reader rest =
    (bytes : List ℕ) × (new ≡ old ++ bytes) × Consumes reader rest bytes × (more ≡ true → bytes ≢ []) × (more ≡ false → (bytes ≡ []) × IsAtEnd rest)

-- the same for two backlogs and the reader that the bytes came from
abbrev pub AddsFrom : {R : Type 0} → (R → Option (List ℕ)) → Bool → Backlog → Backlog → Counted R → Counted R → Type 0
AddsFrom remaining more old new reader rest = Adds more (waiting old) (waiting new) (remaining reader.inner) (remaining rest.inner)

-- a read failed, or no more bytes may be read now
abbrev pub IsOfReading : WireFault → Type 0
IsOfReading f = (f ≡ fault.Read) ⊎ (f ≡ fault.Waits)

-- bytes may be read without end
abbrev pub IsFree : Backlog → Type 0
IsFree b = b.most ≡ None

-- where bytes may be read without end, it stays so, and no read is put off
abbrev pub StaysFree : {T : Type 0} → Backlog → Backlog → Result T WireFault → Type 0
StaysFree old new result = IsFree old → IsFree new × IfErr result (λ f. f ≢ fault.Waits)

-- How many bytes may be read, before and after. Without a number there is no bound, and there is none after. With
-- one, at least as many bytes came as it fell by. known and known': what the reader had before and after.
abbrev pub Spends : Option ℕ → Option ℕ → Option (List ℕ) → Option (List ℕ) → Type 0
Spends None None known known' = ⊤
Spends None (Some n) known known' = ⊥
Spends (Some m) None known known' = ⊥
Spends (Some m) (Some n) known known' = (came : List ℕ) × Consumes known known' came × (m ≤ n + length came)

-- The same for two backlogs and the reader that the bytes came from. A read is put off only if no more bytes may
-- be read then.
abbrev pub SpendsFrom : {R T : Type 0} → (R → Option (List ℕ)) → Backlog → Backlog → Counted R → Counted R → Result T WireFault → Type 0
SpendsFrom remaining old new reader rest result =
    Spends old.most new.most (remaining reader.inner) (remaining rest.inner) × IfErr result (λ f. f ≡ fault.Waits → new.most ≡ Some 0)

-- All the bytes came that may be read: there is a number of them, and no fewer came.
abbrev pub TakesAll : Option ℕ → Option (List ℕ) → Option (List ℕ) → Type 0
TakesAll None known known' = ⊥
TakesAll (Some m) known known' = (came : List ℕ) × Consumes known known' came × (m ≤ length came)

-- The read failed with f, or was put off: no byte came, and no byte is lost.
abbrev pub FailsToAdd : {R : Type 0} → (R → Option (List ℕ)) → WireFault → Backlog → Backlog → Counted R → Counted R → Type 0
FailsToAdd remaining f old new reader rest =
    IsOfReading f × (waiting new ≡ waiting old) × Keeps (remaining reader.inner) (remaining rest.inner)

-- what the waiting bytes show of the front of the stream; reader: what the reader has left
abbrev pub Shows : Result (Step ℕ) WireFault → List ℕ → Option (List ℕ) → Type 0
Shows (Ok (step.Head n)) bytes reader = IsHeadEnd (take most_head bytes) n
Shows (Ok (step.Refused r)) bytes reader = (r ≡ rule.HeadTooLong) × (most_head ≤ length bytes) × HasNoHeadEnd (take most_head bytes)
Shows (Ok step.End) bytes reader = (bytes ≡ []) × IsAtEnd reader
Shows (Ok step.Truncated) bytes reader = (0 < length bytes) × (length bytes < most_head) × HasNoHeadEnd bytes × IsAtEnd reader
Shows (Err f) bytes reader = (length bytes < most_head) × HasNoHeadEnd bytes
