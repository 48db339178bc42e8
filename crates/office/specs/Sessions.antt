-- A connection, and a list of connections.
use Rattle.std.specs.Prelude.{◌≡◌, ◌⊎◌, ℕ, zero, suc, Bool, true, false, List, [], ◌∷◌, ◌++◌, ⊤}
use Rattle.sigtext.specs.declared.refusal.Refusal.{Refusal}
use Rattle.sigtext.specs.declared.refusal.Refusal.TheVariants as rule
use Rattle.sigtext.specs.Refusals.{number_of}
use Rattle.sigtext.specs.Request.{Request}
use Rattle.boxes.specs.State.{State}
use Rattle.wire.specs.Answers.{answer_text}
use Rattle.wire.specs.Answers as answer
use Rattle.wire.specs.Framing.{Next, request_of}
use Rattle.wire.specs.Framing as frame
use Rattle.wire.specs.Feeding.{Awaits, Opens}
use Rattle.sigtext.specs.Bytes.{IsBeginning}
use Rattle.wire.specs.declared.session.SessionEnd.{SessionEnd}
use Rattle.wire.specs.declared.session.SessionEnd.TheVariants.{Ended, Truncated, Refused, Limit, ReadFault, WriteFault}
use Rattle.office.specs.Answering.{AnswersRequest}
use Rattle.sigtext.specs.Readable.{IsReadable}

-- the text of a refusal that closes the connection
abbrev pub closing : Refusal → List ℕ
closing q = answer_text false (answer.Refused q)

-- the most messages on one connection
abbrev pub most_messages : ℕ
most_messages = 1000

-- A message has begun: a whole head that obeys rules 1 to 5 is at the front of the bytes, and its request is
-- readable with any body.
pub record HasBegunMessage (bytes : List ℕ) : Type 0 where
  pub text : List ℕ
  pub given : List ℕ
  pub has_length : Bool
  pub size : ℕ
  pub whole : bytes ≡ text ++ given
  pub opens : Opens text has_length size
  pub readable : IsReadable (request_of opens.head has_length [])

-- Where a session may give up before a whole message was read, if up to n are to come. Either it had no
-- buffer: before anything was read on the connection. Or it was within a message that has begun.
abbrev pub MayGiveUpReading : ℕ → List ℕ → Type 0
MayGiveUpReading n stream = ((n ≡ most_messages) × (stream ≡ [])) ⊎ HasBegunMessage stream

-- Up to n more messages of a stream are served from a state. The arguments after the state are the moments,
-- one for each message that was read whole; the bytes written; the end; whether the session gave up; and the
-- last state. A session gave up if refusal 40 is its last answer, written in full or in part, or if a fault
-- took the place of that answer.
pub data Session : ℕ → List ℕ → State → List ℕ → List ℕ → SessionEnd → Bool → State → Type 0 where
  limit : (stream : List ℕ) (s : State) → Session zero stream s [] [] Limit false s
  ended : (n : ℕ) (stream : List ℕ) (s : State) → Next stream frame.Ended [] → Session (suc n) stream s [] [] Ended false s
  truncated : (n : ℕ) (stream : List ℕ) (s : State) → Next stream frame.Truncated [] → Session (suc n) stream s [] [] Truncated false s
  unframed : (n : ℕ) (stream : List ℕ) (s : State) (q : Refusal) → Next stream (frame.Refused q) []
      → Session (suc n) stream s [] (closing q) (Refused (number_of q)) false s
  served : (n : ℕ) (stream rest : List ℕ) (s mid after : State) (r : Request) (now : ℕ) (moments text out : List ℕ) (e : SessionEnd) (gave_up : Bool)
      → Next stream (frame.Message r) rest → AnswersRequest s r now text mid → Session n rest mid moments out e gave_up after
      → Session (suc n) stream s (now ∷ moments) (text ++ out) e gave_up after
  -- memory was refused, or the keeper counted a fault, at a message
  gave_up_at : (n : ℕ) (stream rest : List ℕ) (s : State) (r : Request) (now : ℕ) → Next stream (frame.Message r) rest → IsReadable r
      → Session (suc n) stream s (now ∷ []) (closing rule.TryAgain) (Refused 40) true s
  -- memory was refused, or the keeper counted a fault, before a whole message was read
  gave_up_reading : (n : ℕ) (stream : List ℕ) (s : State) → MayGiveUpReading (suc n) stream
      → Session (suc n) stream s [] (closing rule.TryAgain) (Refused 40) true s
  -- a read failed, and the bytes before it do not tell the next step
  read_failed : (n : ℕ) (stream : List ℕ) (s : State) → Awaits stream → Session (suc n) stream s [] [] ReadFault false s
  -- the same, and the keeper counted a fault while it dropped what it had of the body
  read_failed_giving_up : (n : ℕ) (stream : List ℕ) (s : State) → Awaits stream → HasBegunMessage stream → Session (suc n) stream s [] [] ReadFault true s
  -- A write failed, and a prefix of the answer was written. The request took effect, or was refused.
  write_failed : (n : ℕ) (stream rest : List ℕ) (s after : State) (r : Request) (now : ℕ) (text front : List ℕ)
      → Next stream (frame.Message r) rest → AnswersRequest s r now text after → IsBeginning front text
      → Session (suc n) stream s (now ∷ []) front WriteFault false after
  write_failed_unframed : (n : ℕ) (stream : List ℕ) (s : State) (q : Refusal) (front : List ℕ) → Next stream (frame.Refused q) []
      → IsBeginning front (closing q) → Session (suc n) stream s [] front WriteFault false s
  write_failed_giving_up_at : (n : ℕ) (stream rest : List ℕ) (s : State) (r : Request) (now : ℕ) (front : List ℕ) → Next stream (frame.Message r) rest
      → IsReadable r → IsBeginning front (closing rule.TryAgain) → Session (suc n) stream s (now ∷ []) front WriteFault true s
  write_failed_giving_up_reading : (n : ℕ) (stream : List ℕ) (s : State) (front : List ℕ) → MayGiveUpReading (suc n) stream
      → IsBeginning front (closing rule.TryAgain) → Session (suc n) stream s [] front WriteFault true s

-- The session ends in its first step: it does not go on after a message.
abbrev pub EndsAtOnce : {n : ℕ} {stream : List ℕ} {s : State} {moments out : List ℕ} {e : SessionEnd} {gave_up : Bool} {after : State}
    → Session n stream s moments out e gave_up after → Type 0
EndsAtOnce (served n stream rest s mid after r now moments text out e gave_up next answers more) = ⊥
EndsAtOnce _ = ⊤

-- The session gave up this request at this moment: its message was read whole, its moment was told, and
-- refusal 40 answered it, in full or in part.
abbrev pub GaveUpAt : {n : ℕ} {stream : List ℕ} {s : State} {moments out : List ℕ} {e : SessionEnd} {gave_up : Bool} {after : State}
    → Session n stream s moments out e gave_up after → Request → ℕ → Type 0
GaveUpAt (served n stream rest s mid after q told moments text out e gave_up next answers more) r now = GaveUpAt more r now
GaveUpAt (gave_up_at n stream rest s q told next readable) r now = (r ≡ q) × (now ≡ told)
GaveUpAt (write_failed_giving_up_at n stream rest s q told front next readable begins) r now = (r ≡ q) × (now ≡ told)
GaveUpAt _ r now = ⊥

-- a connection as it was served
pub record Connection : Type 0 where
  pub stream : List ℕ
  pub answers : List ℕ
  pub end : SessionEnd
  pub gave_up : Bool

-- the connections in order, one session each
abbrev pub Run : State → List Connection → List ℕ → State → Type 0
Run s [] moments after = (moments ≡ []) × (after ≡ s)
Run s (c ∷ cs) moments after =
    (first others : List ℕ) × (mid : State) × (moments ≡ first ++ others)
    × Session most_messages c.stream s first c.answers c.end c.gave_up mid × Run mid cs others after

-- one of the connections gave up this request at this moment
abbrev pub GaveUpIn : (s : State) (cs : List Connection) (moments : List ℕ) (after : State) → Run s cs moments after → Request → ℕ → Type 0
GaveUpIn s [] moments after run r now = ⊥
GaveUpIn s (c ∷ cs) moments after run r now = GaveUpAt run.4 r now ⊎ GaveUpIn run.2 cs run.1 after run.5 r now
