-- Whole messages, and what was read when none came.
use Rattle.std.specs.Prelude.{◌≡◌, ℕ, ◌-◌, ◌<◌, ◌≤◌, ◌⊎◌, Bool, List, [], length, Option, Some, IfSome}
use Rattle.std.specs.Io.KnownBytes.{Consumes, IsAtEnd, Keeps}
use Rattle.sigtext.specs.declared.field.Field.{Field}
use Rattle.sigtext.specs.Refusals.{number_of}
use Rattle.wire.specs.Framing.{IsFront, Next, Message, request_of}
use Rattle.wire.specs.Framing as framing
use Rattle.wire.specs.Feeding.{AwaitsHead, OfStream, Opens}
use Rattle.wire.specs.Openings.{ArePartsOf}
use Rattle.wire.specs.Feeds.{given_of, left, place_of, reader_of, waits_in, whole_left}
use Rattle.wire.specs.declared.feed.Feed.{Feed}
use Rattle.wire.specs.declared.fault.WireFault.{WireFault}
use Rattle.wire.specs.declared.fault.WireFault.TheVariants as fault
use Rattle.wire.specs.declared.joining.Came.{Came}
use Rattle.wire.specs.declared.joining.Came.TheVariants as came
use Rattle.wire.specs.declared.feed.Place.{Place}
use Rattle.wire.specs.declared.feed.Place.TheVariants as place

-- a message may begin there
abbrev pub MayBegin : Place → Type 0
MayBegin p = (p ≡ place.Fresh) ⊎ (p ≡ place.Between)

-- The text is a head that announces a body of n bytes. It stands at the front of the stream that was left.
-- old: what was left of the stream, if that is known; new: what is left now.
pub record IsOpening (text : List ℕ) (has_length : Bool) (n : ℕ) (old new : Option (List ℕ)) : Type 0 where
  pub opens : Opens text has_length n
  pub front : IfSome old (λ stream. (rest : List ℕ) × IsFront stream text rest × (new ≡ Some rest))

-- What was read. fields: the array that holds the fields of a head; old and new: what was left of the stream
-- before and after; reader: what the reader has now; p: where the feed stands now.
abbrev pub Brings : Came → List Field → Option (List ℕ) → Option (List ℕ) → Option (List ℕ) → Place → Type 0
Brings (came.Head h) fields old new reader p =
    (p ≡ place.Body h.length) × IsOpening h.text.now h.has_length h.length old new × ArePartsOf h.text.now h.head fields
Brings (came.Refused r) fields old new reader p =
    (p ≡ place.Over) × (0 < number_of r) × (number_of r ≤ 5) × OfStream old (λ stream. Next stream (framing.Refused r) [])
Brings came.End fields old new reader p = (p ≡ place.Over) × IsAtEnd reader × OfStream old (λ stream. Next stream framing.Ended [])
Brings came.Truncated fields old new reader p = (p ≡ place.Over) × IsAtEnd reader × OfStream old (λ stream. Next stream framing.Truncated [])

-- What was read when no head came. After a failed read the bytes do not tell the step yet. If no more bytes
-- may be read now, they don't either, and all of them are still left. If memory was refused, nothing was
-- read. p and old: where the feed stood, and what was left of the stream; new, reader and q: what is left now,
-- what the reader has now, and where the feed stands now.
abbrev pub BreaksOff : WireFault → Place → Option (List ℕ) → Option (List ℕ) → Option (List ℕ) → Place → Type 0
BreaksOff fault.Read p old new reader q = (front : List ℕ) × Consumes old reader front × AwaitsHead front
BreaksOff fault.Waits p old new reader q =
    (q ≡ place.Between) × Keeps old new × (front : List ℕ) × Consumes old reader front × AwaitsHead front
BreaksOff fault.Memory p old new reader q = (p ≡ place.Fresh) × Consumes old reader []
BreaksOff fault.Write p old new reader q = ⊥

-- a body of n bytes is open, of which some were given
pub record StandsIn {R : Type 0} (n : ℕ) (feed : Feed R) : Type 0 where
  pub fits : length (given_of feed) ≤ n
  pub open_still : place_of feed ≡ place.Body (n - length (given_of feed))

-- Not all of the open body's n bytes came, and no more may be read now. The body is open still, and none of
-- its bytes is lost.
pub record WaitsWithin {R : Type 0} (remaining : R → Option (List ℕ)) (n : ℕ) (old new : Feed R) : Type 0 where
  pub stands : StandsIn n new
  pub few : length (given_of new) < n
  pub none : waits_in new ≡ []
  pub kept : Keeps (whole_left remaining old) (whole_left remaining new)

-- reading failed within a body of n bytes: fewer came
abbrev pub BreaksOffWithin : ℕ → Option (List ℕ) → Option (List ℕ) → Type 0
BreaksOffWithin n old reader = (given : List ℕ) × Consumes old reader given × (length given < n)

-- the whole open body of n bytes came
abbrev pub TakesBody : {R : Type 0} → (R → Option (List ℕ)) → ℕ → Feed R → Feed R → List ℕ → Type 0
TakesBody remaining n old new body =
    (length body ≡ n) × (place_of new ≡ place.Between) × (given_of new ≡ []) × Consumes (whole_left remaining old) (left remaining new) body

-- the stream ended within the open body of n bytes
abbrev pub LacksBody : {R : Type 0} → (R → Option (List ℕ)) → ℕ → Feed R → Feed R → Type 0
LacksBody remaining n old new =
    (place_of new ≡ place.Over) × (0 < n) × IfSome (whole_left remaining old) (λ rest. length rest < n)
    × (given : List ℕ) × Consumes (whole_left remaining old) (remaining (reader_of new).inner) given

-- reading the open body of n bytes broke off
abbrev pub BreaksOffBody : {R : Type 0} → (R → Option (List ℕ)) → ℕ → Feed R → Feed R → WireFault → Type 0
BreaksOffBody remaining n old new fault.Read = BreaksOffWithin n (whole_left remaining old) (remaining (reader_of new).inner)
BreaksOffBody remaining n old new fault.Waits = WaitsWithin remaining n old new
BreaksOffBody remaining n old new fault.Memory = ⊥
BreaksOffBody remaining n old new fault.Write = ⊥
