-- What the calls on a slot do to its connection, besides what `Gathers` and `Sends` say of its stream and its
-- answers.
use Rattle.std.specs.Prelude.{◌≡◌, ◌≤◌, ◌↔◌, ℕ, ◌+◌, List, [], ◌++◌, length, IsOk, IsSome, Option, Result}
use Rattle.std.specs.Io.KnownBytes.{Appends}
use Rattle.wire.specs.Feeds.{ahead_of}
use Rattle.wire.specs.Gathering.{HasFailed, HasRoomFor, IsCut, KeepsError, KeepsHealth, ahead_in}
use Rattle.wire.specs.Gathering as gathering
use Rattle.wire.specs.Outgoing.{NoneFailed, WriteFailed, waits_out}
use Rattle.wire.specs.declared.gathered.Gathered.{Gathered}
use Rattle.wire.specs.declared.gathered.Gathering.{Gathering}
use Rattle.wire.specs.declared.outbox.Outbox.{Outbox}
use Rattle.wire.specs.declared.outbox.Sending.{Sending}
use Rattle.wire.specs.declared.outbox.Sending.TheVariants as sending
use Rattle.wire.specs.declared.seat.Seat.{Seat}

-- Reading ahead once, at most n bytes, had this result. The feed is unchanged. No memory was refused if there
-- was room.
pub record ReadsAhead {S W E : Type 0} (remaining : S → Option (List ℕ)) (n : ℕ) (a b : Seat (Gathered S) W) (result : Result Gathering E) : Type 0 where
  pub standing : b.standing ≡ a.standing
  pub told : gathering.Gathers remaining a.reader.inner b.reader.inner result
  pub most : length (ahead_in b.reader.inner) ≤ length (ahead_in a.reader.inner) + n
  pub room : HasRoomFor n a.reader.inner → IsOk result

-- What the feed read and did not take was put back if a buffer is returned, and no byte is lost. Reads
-- fail as before.
abbrev pub PutsBack : {S W T : Type 0} → Seat (Gathered S) W → Seat (Gathered S) W → Option T → Type 0
PutsBack a b result =
    (ahead_of b.standing ++ ahead_in b.reader.inner ≡ ahead_of a.standing ++ ahead_in a.reader.inner) × (IsSome result → ahead_of b.standing ≡ []) × KeepsHealth a.reader.inner b.reader.inner

-- Each read fails at once. If reads failed before, the error is unchanged. The feed is unchanged.
abbrev pub Fails : {S W : Type 0} → Seat (Gathered S) W → Seat (Gathered S) W → Type 0
Fails a b =
    (b.standing ≡ a.standing) × (ahead_in b.reader.inner ≡ ahead_in a.reader.inner) × IsCut b.reader.inner
    × (HasFailed a.reader.inner → KeepsError a.reader.inner b.reader.inner)

-- The first of the waiting bytes were sent. The result tells whether some still wait, or a write failed.
pub record SendsOn {R S : Type 0} (contents : S → Option (List ℕ)) (a b : Seat R (Outbox S)) (result : Sending) : Type 0 where
  pub sent : result ≡ sending.Sent ↔ ((waits_out b.writer.inner ≡ []) × NoneFailed b.writer.inner)
  pub failed : result ≡ sending.Failed ↔ WriteFailed b.writer.inner
  pub takes : (bytes : List ℕ) × (waits_out a.writer.inner ≡ bytes ++ waits_out b.writer.inner) × Appends (contents a.writer.inner.inner) (contents b.writer.inner.inner) bytes
