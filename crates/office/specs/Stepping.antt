-- One step of a session: it handles a message, or it ends the session.
use Rattle.std.specs.Prelude.{◌≡◌, ◌≢◌, ◌⊎◌, ◌≤◌, ℕ, suc, Bool, true, List, [], ◌++◌, length, take, Option, Some, None, false, IsTrue, Result, Err, ⊤}
use Rattle.std.specs.Io.KnownBytes.{Appends, Consumes, Keeps, prepend_known}
use Rattle.sigtext.specs.Limits.{most_head}
use Rattle.sigtext.specs.declared.refusal.Refusal.{Refusal}
use Rattle.sigtext.specs.declared.refusal.Refusal.TheVariants as rule
use Rattle.sigtext.specs.Request.{Request}
use Rattle.boxes.specs.State.{State}
use Rattle.boxes.specs.declared.keep.Keeper.{Ghosts}
use Rattle.wire.specs.Framing.{Next, Message, request_of}
use Rattle.wire.specs.Feeding.{Awaits, AwaitsHead}
use Rattle.wire.specs.Feeds.{given_of, left, place_of, reader_of, waits_in, whole_left}
use Rattle.wire.specs.Underways.{IsBegun}
use Rattle.wire.specs.Waiting.{IsFree}
use Rattle.wire.specs.Whole.{IsOpening}
use Rattle.wire.specs.declared.answer.Answer.{Answer}
use Rattle.wire.specs.declared.backlog.Backlog.{Backlog}
use Rattle.wire.specs.declared.feed.Feed.{Feed}
use Rattle.wire.specs.declared.counted.Counted.{Counted}
use Rattle.wire.specs.declared.feed.Place.{Place}
use Rattle.wire.specs.declared.feed.Place.TheVariants as place
use Rattle.wire.specs.declared.session.SessionEnd.{SessionEnd}
use Rattle.wire.specs.declared.session.SessionEnd.TheVariants.{Ended, Truncated, ReadFault}
use Rattle.wire.specs.declared.underway.Kept.{Kept}
use Rattle.office.specs.declared.requests.foreseeing.Prospect.{Prospect}
use Rattle.office.specs.Answering.{AnswersRequest, is_head}
use Rattle.office.specs.Connections.{Serves, TellsFaults}
use Rattle.office.specs.declared.connections.responding.Handled.{Handled}
use Rattle.office.specs.declared.connections.responding.Response.{Response}
use Rattle.office.specs.declared.connections.responding.Response.TheVariants as response
use Rattle.office.specs.declared.connections.stepping.Begun.{Begun}
use Rattle.office.specs.declared.connections.stepping.Stepped.{Stepped}
use Rattle.office.specs.declared.connections.stepping.Stepped.TheVariants as stepped
use Rattle.office.specs.Crashes.{LastsThrough}
use Rattle.office.specs.Foreseeing.{Foresees}
use Rattle.office.specs.Handling.{Handles, end_of}
use Rattle.office.specs.Premise.{HoldsUnless, HoldsUp, IsLeft}
use Rattle.office.specs.Responding.{GivesUp, IfAnswer, IsClosed, IsSent, TellsReading}
use Rattle.office.specs.Sessions.{EndsAtOnce, HasBegunMessage, most_messages}

-- One message was answered, and the session goes on. left and left': what was left of the stream before and
-- after.
pub record Goes {C K : Type 0} (gives : C → ℕ → C → Type 0) (left left' output output' : Option (List ℕ)) (clock clock' : C) (k : Ghosts K) (keeper keeper' : K)
    (s after : State) : Type 0 where
  pub front : List ℕ
  pub request : Request
  pub moment : ℕ
  pub text : List ℕ
  pub taken : Consumes left left' front
  pub message : (more : List ℕ) → Next (front ++ more) (Message request) more
  pub told : gives clock moment clock'
  pub written : Appends output output' text
  pub answers : AnswersRequest s request moment text after
  pub held : HoldsUp k false keeper keeper'
  pub lasts : LastsThrough k keeper keeper' s after

-- up to n messages are to come of a feed at p; if the feed is fresh, n is the limit for a connection
abbrev pub ToCome : Place → ℕ → Type 0
ToCome p n = p ≡ place.Fresh → n ≡ most_messages

-- A step goes on after one message. Or it ends the session, however many messages were to come, and goes on
-- after none. It gives up only within a message that has begun, unless the feed was fresh. p: where the feed
-- stood before; reader: what the reader has now.
abbrev pub Steps : {C K : Type 0} → (C → ℕ → C → Type 0) → Place → Option (List ℕ) → Option (List ℕ) → Option (List ℕ) → Option (List ℕ) → Option (List ℕ) → C → C → Ghosts K → K → K → State → Option SessionEnd → Type 0
Steps gives p left left' reader output output' clock clock' k keeper keeper' s None =
    (after : State) × IsLeft (k.means keeper') after × Goes gives left left' output output' clock clock' k keeper keeper' s after
Steps gives p left left' reader output output' clock clock' k keeper keeper' s (Some e) =
    (after : State) × IsLeft (k.means keeper') after × ((n : ℕ) → ToCome p (suc n)
    → (serves : Serves (suc n) gives left reader output output' clock clock' k keeper keeper' s after e) × EndsAtOnce serves.session
    × (p ≢ place.Fresh → serves.gave_up ≡ true → HasBegunMessage serves.stream))

-- the faults that a step counted
abbrev pub TellsStep : {R W : Type 0} → Option SessionEnd → Counted R → Counted R → Counted W → Counted W → Type 0
TellsStep None reader reader' writer writer' = (reader'.faults ≡ reader.faults) × (writer'.faults ≡ writer.faults)
TellsStep (Some e) reader reader' writer writer' = TellsFaults e reader reader' writer writer'

-- Whatever is written of the response, in full or in part, this is a step.
abbrev pub StepsBy : {C K : Type 0} → (C → ℕ → C → Type 0) → Place → Option (List ℕ) → Option (List ℕ) → Option (List ℕ) → C → C → Ghosts K → K → K → State → Response → Type 0
StepsBy gives p left left' reader clock clock' k keeper keeper' s (response.Answer a) =
    (output output' : Option (List ℕ)) (h : Handled) → IsSent output output' a h → Steps gives p left left' reader output output' clock clock' k keeper keeper' s (end_of h)
StepsBy gives p left left' reader clock clock' k keeper keeper' s (response.Close q) =
    (output output' : Option (List ℕ)) (e : SessionEnd) → IsClosed output output' q e → Steps gives p left left' reader output output' clock clock' k keeper keeper' s (Some e)
StepsBy gives p left left' reader clock clock' k keeper keeper' s response.Ended =
    (output : Option (List ℕ)) → Steps gives p left left' reader output output clock clock' k keeper keeper' s (Some Ended)
StepsBy gives p left left' reader clock clock' k keeper keeper' s response.Truncated =
    (output : Option (List ℕ)) → Steps gives p left left' reader output output clock clock' k keeper keeper' s (Some Truncated)
StepsBy gives p left left' reader clock clock' k keeper keeper' s response.ReadFault =
    (output : Option (List ℕ)) → Steps gives p left left' reader output output clock clock' k keeper keeper' s (Some ReadFault)

-- whatever is written of the answer, the message with this request was handled
abbrev pub HandlesBy : {C K : Type 0} → (C → ℕ → C → Type 0) → C → C → Ghosts K → K → K → State → Request → Answer → Type 0
HandlesBy gives clock clock' k keeper keeper' s r a =
    (output output' : Option (List ℕ)) (h : Handled) → IsSent output output' a h → Handles gives clock clock' output output' k keeper keeper' s r h

-- The head was read, which announces a body of this size, and this was foreseen of its message with any body.
-- known: what was left of the stream before the head; left: what is left after it.
pub record IsExpected (s : State) (size : ℕ) (known left : Option (List ℕ)) (foreseen : Result Prospect Refusal) (to_head : Bool) (text : List ℕ) : Type 0 where
  pub has_length : Bool
  pub opening : IsOpening text has_length size known left
  pub foresees : (body : List ℕ) → length body ≡ size → Foresees s (request_of opening.opens.head has_length body) foreseen
  pub tells : foreseen ≢ Err rule.TryAgain
  pub head : (body : List ℕ) → to_head ≡ is_head (request_of opening.opens.head has_length body)

-- Either refusal 6 closes the connection, and the keeper counted nothing. Or refusal 40 closes it, and the upload
-- is not staged.
abbrev pub LeavesOff : {K : Type 0} → Ghosts K → K → K → Bool → Refusal → Type 0
LeavesOff k old new is_upload q = ((q ≡ rule.BodyIncomplete) × HoldsUnless k old new ⊥) ⊎ ((q ≡ rule.TryAgain) × IsTrue is_upload)

-- ---- steps that wait

-- a step waits, and this holds of what it waits for
abbrev pub IfWaits : {T : Type 0} → (T → Type 0) → Stepped T → Type 0
IfWaits P (stepped.Done x) = ⊤
IfWaits P (stepped.Waits t) = P t

-- a message may begin after one that came whole
abbrev pub GoesOn : {T R : Type 0} → Stepped T → Feed R → Type 0
GoesOn (stepped.Done x) feed = IfAnswer x ((place_of feed ≡ place.Between) × (given_of feed ≡ []))
GoesOn (stepped.Waits t) feed = ⊤

-- Nothing was told, and no message was answered. The keeper holds up, and a crash leaves nothing new except the
-- state.
pub record StandsBy {C K : Type 0} (clock clock' : C) (k : Ghosts K) (keeper keeper' : K) (s : State) : Type 0 where
  pub told : clock' ≡ clock
  pub left : IsLeft (k.means keeper') s
  pub held : HoldsUp k false keeper keeper'
  pub lasts : LastsThrough k keeper keeper' s s

-- A message was begun, whose head is this. The feed stands in its body, and no byte of the stream was lost.
abbrev pub ReadsOnIn : {R : Type 0} → (R → Option (List ℕ)) → Option (List ℕ) → Feed R → List ℕ → ℕ → Option Kept → Type 0
ReadsOnIn remaining known feed head size kept =
    IsBegun head size kept (place_of feed) (given_of feed) × Keeps known (prepend_known head (whole_left remaining feed))

-- No byte of the stream was lost, and a feed may go on with it. If a message was begun, its head is at the front
-- of the block.
abbrev pub ReadsOn : {R : Type 0} → (R → Option (List ℕ)) → Option (List ℕ) → Feed R → List ℕ → Option Begun → Type 0
ReadsOn remaining known feed block None = (place_of feed ≡ place.Between) × (given_of feed ≡ []) × Keeps known (left remaining feed)
ReadsOn remaining known feed block (Some b) = (b.len ≤ most_head) × ReadsOnIn remaining known feed (take b.len block) b.size b.kept

-- The bytes that came of a message are no whole message: this head, and what was given of its body. No others wait.
abbrev pub AwaitsMore : {R : Type 0} → List ℕ → Feed R → Type 0
AwaitsMore head feed = (waits_in feed ≡ []) × ∥ Awaits (head ++ (given_of feed ++ waits_in feed)) ∥₁

-- A feed that waits stands within the body of a message with this head. More bytes are needed.
abbrev pub WaitsIn : {R : Type 0} → Feed R → List ℕ → ℕ → Option Kept → Type 0
WaitsIn feed head size kept = IsBegun head size kept (place_of feed) (given_of feed) × AwaitsMore head feed

-- A feed that waits stands between two messages, or within the body of the one that has begun, whose head is at
-- the front of the block. More bytes are needed.
abbrev pub WaitsBehind : {R : Type 0} → Feed R → List ℕ → Option Begun → Type 0
WaitsBehind feed block None = (place_of feed ≡ place.Between) × (given_of feed ≡ []) × AwaitsHead (waits_in feed)
WaitsBehind feed block (Some b) = (b.len ≤ most_head) × WaitsIn feed (take b.len block) b.size b.kept

-- A step is done, or it waits. waiting: what holds of what it waits for.
abbrev pub StepsTo : {C K R T : Type 0} → (C → ℕ → C → Type 0) → Place → Option (List ℕ) → (R → Option (List ℕ)) → Feed R → C → C → Ghosts K → K → K → State → (T → Type 0) → Stepped T → Type 0
StepsTo gives p known remaining feed clock clock' k keeper keeper' s waiting (stepped.Done x) =
    StepsBy gives p known (left remaining feed) (remaining (reader_of feed).inner) clock clock' k keeper keeper' s x
StepsTo gives p known remaining feed clock clock' k keeper keeper' s waiting (stepped.Waits t) = waiting t × StandsBy clock clock' k keeper keeper' s

-- if a message has begun, its head has so many bytes
abbrev pub HasHeadOf : ℕ → Option Begun → Type 0
HasHeadOf len None = ⊤
HasHeadOf len (Some b) = b.len ≡ len

-- the faults of reading that a step counted
abbrev pub TellsRead : {T R : Type 0} → Stepped T → Counted R → Counted R → Type 0
TellsRead (stepped.Done x) reader reader' = TellsReading x reader reader'
TellsRead (stepped.Waits t) reader reader' = reader'.faults ≡ reader.faults

-- the step gave something up
abbrev pub HasGivenUp : {K T : Type 0} → Ghosts K → K → K → Stepped T → Type 0
HasGivenUp k old new (stepped.Done x) = GivesUp k old new x
HasGivenUp k old new (stepped.Waits t) = ⊥

-- where bytes may be read without end, it stays so, and a step is done
abbrev pub NeverStandsBy : {T : Type 0} → Backlog → Backlog → Stepped T → Type 0
NeverStandsBy old new (stepped.Done x) = IsFree old → IsFree new
NeverStandsBy old new (stepped.Waits t) = IsFree old → ⊥
