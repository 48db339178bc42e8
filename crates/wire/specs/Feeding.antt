-- What the calls of a `Feed` return, however its reader cuts the stream into pieces.
use Rattle.std.specs.Prelude.{◌≡◌, ℕ, ◌+◌, ◌-◌, ◌<◌, ◌≤◌, ◌⊎◌, Bool, List, [], ◌++◌, length, Option, Some, IfSome, Result, Ok, Err}
use Rattle.std.specs.Borrow.{Bor}
use Rattle.std.specs.Io.KnownBytes.{Consumes, IsAtEnd, Keeps, prepend_known}
use Rattle.httparse.specs.Grammar.{RequestHead}
use Rattle.sigtext.specs.Counts.{Rose}
use Rattle.sigtext.specs.Limits.{most_body, most_head}
use Rattle.sigtext.specs.Refusals.{number_of}
use Rattle.sigtext.specs.declared.refusal.Refusal.{Refusal}
use Rattle.sigtext.specs.declared.refusal.Refusal.TheVariants as rule
use Rattle.wire.specs.Framing.{IsFront, HasNoFront, HasHead, Next}
use Rattle.wire.specs.Framing as framing
use Rattle.wire.specs.Judging.{HeadAnnounces}
use Rattle.wire.specs.declared.fault.WireFault.{WireFault}
use Rattle.wire.specs.declared.fault.WireFault.TheVariants as fault
use Rattle.wire.specs.declared.feed.Place.{Place}
use Rattle.wire.specs.declared.feed.Place.TheVariants as place
use Rattle.wire.specs.declared.feed.Opening.{Opening}
use Rattle.wire.specs.declared.feed.Step.{Step}
use Rattle.wire.specs.declared.feed.Step.TheVariants as step
use Rattle.wire.specs.declared.feed.Piece.{Piece}
use Rattle.wire.specs.declared.feed.Piece.TheVariants as piece

-- what `next` tells: a head, with its text, whether a length was given, and the body's length; a refusal; the
-- end; an end within a head
pub data StepTold : Type 0 where
  Opened : (text : List ℕ) → (has_length : Bool) → (n : ℕ) → StepTold
  Barred : (refusal : Refusal) → StepTold
  Ended : StepTold
  CutShort : StepTold

abbrev pub told : Result (Step Opening) WireFault → Result StepTold WireFault
told (Ok (step.Head h)) = Ok (Opened h.text.now h.has_length h.length)
told (Ok (step.Refused r)) = Ok (Barred r)
told (Ok step.End) = Ok Ended
told (Ok step.Truncated) = Ok CutShort
told (Err e) = Err e

-- what `piece` tells: some bytes; that the body is complete; a refusal
pub data Part : Type 0 where
  Bytes : (bytes : List ℕ) → Part
  Done : Part
  Lacking : (refusal : Refusal) → Part

abbrev pub part : Result (Piece (Bor (List ℕ))) WireFault → Result Part WireFault
part (Ok (piece.Bytes bytes)) = Ok (Bytes bytes.now)
part (Ok piece.Done) = Ok Done
part (Ok (piece.Refused r)) = Ok (Lacking r)
part (Err e) = Err e

-- the greatest length of a piece, in bytes
abbrev pub most_piece : ℕ
most_piece = 65536

-- The text is a head no longer than most_head. It announces a body of n bytes, at most most_body.
pub record Opens (text : List ℕ) (has_length : Bool) (n : ℕ) : Type 0 where
  pub is_front : IsFront text text []
  pub small : n ≤ most_body
  pub head : RequestHead
  pub tells : HeadAnnounces text head has_length n

-- no head ends in the bytes, and they are fewer than most_head
abbrev pub AwaitsHead : List ℕ → Type 0
AwaitsHead bytes = (length bytes < most_head) × HasNoFront bytes

-- a whole head stands at the front of the bytes, obeys rules 1 to 5, and announces a body that is not empty
pub record AnnouncesBody (bytes : List ℕ) : Type 0 where
  pub text : List ℕ
  pub given : List ℕ
  pub has_length : Bool
  pub size : ℕ
  pub whole : bytes ≡ text ++ given
  pub opens : Opens text has_length size
  pub some : 0 < size

-- More bytes are needed to tell the first step of a stream that begins with these: the rest of a head, or of
-- the body that it announces.
pub data Awaits (bytes : List ℕ) : Type 0 where
  a_head : AwaitsHead bytes → Awaits bytes
  a_body : (a : AnnouncesBody bytes) → length a.given < a.size → Awaits bytes

-- Holds is true of the stream that was left: of its bytes if they are known, and of some bytes otherwise
pub record OfStream (known : Option (List ℕ)) (Holds : List ℕ → Type 0) : Type 0 where
  pub stream : List ℕ
  pub is : IfSome known (λ bytes. bytes ≡ stream)
  pub holds : Holds stream

-- What is told where a message may begin. known: what was left of the stream, if the reader's bytes are
-- known; waits: the bytes that wait now; reader: the bytes that the reader has now.
abbrev pub Finds : Option (List ℕ) → Result StepTold WireFault → List ℕ → Option (List ℕ) → Type 0
Finds known (Ok (Opened text has_length n)) waits reader =
    Opens text has_length n × IfSome known (λ stream. (rest : List ℕ) × IsFront stream text rest × (prepend_known waits reader ≡ Some rest))
Finds known (Ok (Barred r)) waits reader = (0 < number_of r) × (number_of r ≤ 5) × OfStream known (λ stream. Next stream (framing.Refused r) [])
Finds known (Ok Ended) waits reader = (waits ≡ []) × IsAtEnd reader × OfStream known (λ stream. Next stream framing.Ended [])
Finds known (Ok CutShort) waits reader = IsAtEnd reader × OfStream known (λ stream. Next stream framing.Truncated [])
Finds known (Err fault.Read) waits reader = AwaitsHead waits × Keeps known (prepend_known waits reader)
Finds known (Err fault.Waits) waits reader = AwaitsHead waits × Keeps known (prepend_known waits reader)
Finds known (Err _) waits reader = ⊥

-- where a feed stands after what it told; it goes on if no more bytes may be read now
abbrev pub place_after : Result StepTold WireFault → Place
place_after (Ok (Opened text has_length n)) = place.Body n
place_after (Err fault.Waits) = place.Between
place_after _ = place.Over

-- where a feed stands after this fault: it goes on only if no more bytes may be read now
abbrev pub stands_after : Place → WireFault → Place
stands_after p fault.Waits = p
stands_after p fault.Read = place.Over
stands_after p fault.Write = place.Over
stands_after p fault.Memory = place.Over

-- What `next` returns, by where the feed stood. Memory is refused in the first call only.
abbrev pub GivesStep : Place → Option (List ℕ) → Result StepTold WireFault → Place → List ℕ → Option (List ℕ) → Type 0
GivesStep place.Fresh known told new waits reader =
    (new ≡ place_after told) × (Finds known told waits reader ⊎ ((told ≡ Err fault.Memory) × (waits ≡ []) × Keeps known (prepend_known waits reader)))
GivesStep place.Between known told new waits reader = (new ≡ place_after told) × Finds known told waits reader
GivesStep (place.Body n) known told new waits reader = (new ≡ place.Over) × (told ≡ Ok Ended) × Keeps known (prepend_known waits reader)
GivesStep place.Over known told new waits reader = (new ≡ place.Over) × (told ≡ Ok Ended) × Keeps known (prepend_known waits reader)

-- what `piece` returns in an open body with n bytes to come
abbrev pub GoesOn : ℕ → Option (List ℕ) → Result Part WireFault → Place → List ℕ → Option (List ℕ) → Type 0
GoesOn n known (Ok (Bytes bytes)) new waits reader =
    (new ≡ place.Body (n - length bytes)) × (0 < length bytes) × (length bytes ≤ most_piece) × (length bytes ≤ n)
    × Consumes known (prepend_known waits reader) bytes
GoesOn n known (Ok Done) new waits reader = (new ≡ place.Between) × (n ≡ 0) × Keeps known (prepend_known waits reader)
GoesOn n known (Ok (Lacking r)) new waits reader =
    (new ≡ place.Over) × (0 < n) × (r ≡ rule.BodyIncomplete) × IsAtEnd known × Keeps known (prepend_known waits reader)
GoesOn n known (Err fault.Read) new waits reader = (new ≡ place.Over) × (0 < n) × (waits ≡ []) × Keeps known (prepend_known waits reader)
GoesOn n known (Err fault.Waits) new waits reader = (new ≡ place.Body n) × (0 < n) × (waits ≡ []) × Keeps known (prepend_known waits reader)
GoesOn n known (Err _) new waits reader = ⊥

-- what `piece` returns, by where the feed stood
abbrev pub GivesPiece : Place → Option (List ℕ) → Result Part WireFault → Place → List ℕ → Option (List ℕ) → Type 0
GivesPiece (place.Body n) known part new waits reader = GoesOn n known part new waits reader
GivesPiece old known part new waits reader = (new ≡ old) × (part ≡ Ok Done) × Keeps known (prepend_known waits reader)

-- the count of faults rises if a read failed, and stays otherwise
abbrev pub CountsReads : {T : Type 0} → Result T WireFault → ℕ → ℕ → Type 0
CountsReads (Err fault.Read) old new = Rose old new
CountsReads result old new = new ≡ old

-- A message's head announces a body of size bytes. The bytes in given were given, n bytes are to come, and
-- rest is what is left of the stream.
pub record Halfway (stream : List ℕ) (head : RequestHead) (has_length : Bool) (size : ℕ) (given : List ℕ) (n : ℕ) (rest : List ℕ) : Type 0 where
  pub has_head : HasHead stream head has_length size (given ++ rest)
  pub small : size ≤ most_body
  pub count : length given + n ≡ size
