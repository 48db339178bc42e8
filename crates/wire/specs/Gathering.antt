-- What a `Gathered` has read ahead, and what gathering changes.
use Rattle.std.specs.Prelude.{◌≡◌, ◌≢◌, ℕ, ◌+◌, ◌≤◌, List, [], ◌++◌, length, drop, vec_capacity, Option, None, Some, IsSome, Result, Ok, Err}
use Rattle.std.specs.Io.KnownBytes.{Consumes, IsAtEnd, Keeps}
use Rattle.std.specs.declared.io.Error.{Error}
use Rattle.wire.specs.declared.gathered.Gathered.{Gathered}
use Rattle.wire.specs.declared.gathered.Gathering.{Gathering}
use Rattle.wire.specs.declared.gathered.Gathering.TheVariants as gathering
use Rattle.wire.specs.declared.gathered.Health.{Health}
use Rattle.wire.specs.declared.gathered.Health.TheVariants as health

-- the bytes that were read ahead and not given yet
abbrev pub ahead_in : {S : Type 0} → Gathered S → List ℕ
ahead_in g = drop g.start g.bytes.items

-- the error with which reads fail
abbrev pub error_of : Health → Option Error
error_of health.Hale = None
error_of (health.Failed e) = Some e
error_of (health.Cut e) = Some e

-- the error with which they fail at once
abbrev pub cut_by : Health → Option Error
cut_by health.Hale = None
cut_by (health.Failed e) = None
cut_by (health.Cut e) = Some e

-- a read failed, or `fail` was called
abbrev pub HasFailed : {S : Type 0} → Gathered S → Type 0
HasFailed g = IsSome (error_of g.health)

-- `fail` was called: no more bytes are given
abbrev pub IsCut : {S : Type 0} → Gathered S → Type 0
IsCut g = IsSome (cut_by g.health)

-- reads fail as before
abbrev pub KeepsHealth : {S : Type 0} → Gathered S → Gathered S → Type 0
KeepsHealth old new = new.health ≡ old.health

-- the error stays
abbrev pub KeepsError : {S : Type 0} → Gathered S → Gathered S → Type 0
KeepsError old new = error_of new.health ≡ error_of old.health

-- n more bytes fit after those that were read ahead, without more memory
abbrev pub HasRoomFor : {S : Type 0} → ℕ → Gathered S → Type 0
HasRoomFor n g = length (ahead_in g) + n ≤ vec_capacity g.bytes

-- What one gathering leaves. remaining: what a reader has left. After the first failed read nothing changes, and
-- none cuts the reader off.
abbrev pub Gathers : {S E : Type 0} → (S → Option (List ℕ)) → Gathered S → Gathered S → Result Gathering E → Type 0
Gathers remaining old new (Ok gathering.Came) =
    (bytes : List ℕ) × (bytes ≢ []) × (ahead_in new ≡ ahead_in old ++ bytes) × Consumes (remaining old.inner) (remaining new.inner) bytes × KeepsHealth old new
Gathers remaining old new (Ok gathering.Ended) =
    (ahead_in new ≡ ahead_in old) × Keeps (remaining old.inner) (remaining new.inner) × IsAtEnd (remaining new.inner) × KeepsHealth old new
Gathers remaining old new (Ok gathering.Waits) = (ahead_in new ≡ ahead_in old) × Keeps (remaining old.inner) (remaining new.inner) × KeepsHealth old new
Gathers remaining old new (Ok gathering.Failed) =
    (ahead_in new ≡ ahead_in old) × Keeps (remaining old.inner) (remaining new.inner) × HasFailed new × (HasFailed old → KeepsHealth old new) × (IsCut new → IsCut old)
Gathers remaining old new (Err e) = (ahead_in new ≡ ahead_in old) × (new.inner ≡ old.inner) × KeepsHealth old new
