-- Bodies as they come: staged, or passed over.
use Rattle.std.specs.Prelude.{◌≡◌, ◌≢◌, ℕ, List, Option}
use Rattle.std.specs.Io.KnownBytes.{Consumes}
use Rattle.sigtext.specs.Bytes.{AreBytes}
use Rattle.sigtext.specs.Counts.{Rose}
use Rattle.sigv4.specs.Hashers.{ShaHolds}
use Rattle.sigv4.specs.Hmac.{sha256}
use Rattle.sigv4.specs.declared.hash.Sha.{Sha}
use Rattle.boxes.specs.declared.keep.Keeper.{Ghosts}
use Rattle.wire.specs.Feeds.{given_of, reader_of, whole_left}
use Rattle.wire.specs.Waiting.{IsFree}
use Rattle.wire.specs.Whole.{BreaksOffWithin, LacksBody, TakesBody, WaitsWithin}
use Rattle.wire.specs.declared.backlog.Backlog.{Backlog}
use Rattle.wire.specs.declared.feed.Feed.{Feed}
use Rattle.office.specs.declared.connections.receiving.Received.{Received}
use Rattle.office.specs.declared.connections.receiving.Received.TheVariants as received

-- the open body of size bytes came whole and is staged, and this is its digest
pub record StagesBody {R K : Type 0} (remaining : R → Option (List ℕ)) (size : ℕ) (old new : Feed R) (k : Ghosts K) (keeper : K) (digest : List ℕ) : Type 0 where
  pub body : List ℕ
  pub taken : TakesBody remaining size old new body
  pub staged : k.stages keeper body
  pub octets : AreBytes body
  pub digest_is : digest ≡ sha256 body

-- what was given of the open body is staged, and the hasher was fed with it
pub record HoldsPart {R K : Type 0} (k : Ghosts K) (feed : Feed R) (keeper : K) (sha : Sha) : Type 0 where
  pub staged : k.stages keeper (given_of feed)
  pub fed : ∥ ShaHolds sha (given_of feed) ∥₁
  pub octets : AreBytes (given_of feed)

-- the stream broke off within the open body of size bytes
abbrev pub BrokeOff : {R : Type 0} → (R → Option (List ℕ)) → ℕ → Feed R → Feed R → Type 0
BrokeOff remaining size old new = BreaksOffWithin size (whole_left remaining old) (remaining (reader_of new).inner)

-- what reading on in an open body of size bytes told that is not kept
abbrev pub Passes : {R : Type 0} → (R → Option (List ℕ)) → ℕ → Feed R → Feed R → Received → Type 0
Passes remaining size old new (received.Whole digest) = (body : List ℕ) × TakesBody remaining size old new body
Passes remaining size old new received.Lacking = LacksBody remaining size old new
Passes remaining size old new received.Broken = BrokeOff remaining size old new
Passes remaining size old new received.GaveUp = ⊥
Passes remaining size old new received.Waits = WaitsWithin remaining size old new

-- the same for one that is staged
abbrev pub Stages : {R K : Type 0} → (R → Option (List ℕ)) → ℕ → Feed R → Feed R → Ghosts K → K → Sha → Received → Type 0
Stages remaining size old new k keeper sha (received.Whole digest) = StagesBody remaining size old new k keeper digest
Stages remaining size old new k keeper sha received.Lacking = LacksBody remaining size old new
Stages remaining size old new k keeper sha received.Broken = BrokeOff remaining size old new
Stages remaining size old new k keeper sha received.GaveUp = (given : List ℕ) × Consumes (whole_left remaining old) (remaining (reader_of new).inner) given
Stages remaining size old new k keeper sha received.Waits = WaitsWithin remaining size old new × HoldsPart k new keeper sha

-- the reader's count of faults rose if a read failed, and is unchanged otherwise
abbrev pub CountsReceived : Received → ℕ → ℕ → Type 0
CountsReceived received.Broken old new = Rose old new
CountsReceived _ old new = new ≡ old

-- where bytes may be read without end, it stays so, and no read is put off
abbrev pub NeverWaits : Backlog → Backlog → Received → Type 0
NeverWaits old new result = IsFree old → IsFree new × (result ≢ received.Waits)
