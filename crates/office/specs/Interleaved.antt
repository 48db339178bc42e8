-- Connections that are open at once. Each turn serves messages of one of them.
use Rattle.std.specs.Prelude.{◌≡◌, ◌≢◌, ◌<◌, ◌≤◌, ◌+◌, ◌⊎◌, ℕ, suc, Bool, true, false, cond, nat_eq, List, [], ◌∷◌, ◌++◌, length, map, Option, Some, None, IfSome, ⊤}
use Rattle.std.specs.List.{AllByRecursion, count_by, filter}
use Rattle.sigtext.specs.Bytes.{IsBeginning}
use Rattle.sigtext.specs.Request.{Request}
use Rattle.boxes.specs.State.{State}
use Rattle.wire.specs.Crowds.{GivenTurn}
use Rattle.wire.specs.Feeding.{Awaits, AwaitsHead}
use Rattle.wire.specs.Framing.{Next}
use Rattle.wire.specs.Framing as frame
use Rattle.sigtext.specs.Readable.{IsReadable}
use Rattle.office.specs.Repeats.{Act, Acts, text_of}
use Rattle.office.specs.Sessions.{Connection, HasBegunMessage, Session, most_messages}
use Rattle.office.specs.WithoutTryAgain.{IsLastRefusal}
use Rattle.wire.specs.declared.session.SessionEnd.{SessionEnd}
use Rattle.wire.specs.declared.session.SessionEnd.TheVariants.{WriteFault}

-- one turn: its connection, how many bytes might be read in it, the moments that were told in it, and the acts for its
-- messages
pub record Turn : Type 0 where
  pub which : ℕ
  pub most : Option ℕ
  pub moments : List ℕ
  pub acts : List Act

-- the same turn as it was given; first: the count of connections before these
abbrev pub given_by : ℕ → Turn → GivenTurn
given_by first t = record { whose = first + t.which; most = t.most }

-- all acts and all moments, in the order of the turns
abbrev pub acts_in : List Turn → List Act
acts_in [] = []
acts_in (t ∷ ts) = t.acts ++ acts_in ts

abbrev pub moments_in : List Turn → List ℕ
moments_in [] = []
moments_in (t ∷ ts) = t.moments ++ moments_in ts

-- the acts and moments of one connection
abbrev pub own_acts : ℕ → List Turn → List Act
own_acts i [] = []
own_acts i (t ∷ ts) = cond (nat_eq t.which i) t.acts [] ++ own_acts i ts

abbrev pub own_moments : ℕ → List Turn → List ℕ
own_moments i [] = []
own_moments i (t ∷ ts) = cond (nat_eq t.which i) t.moments [] ++ own_moments i ts

-- the turns of one connection
abbrev pub own_turns : ℕ → List Turn → List Turn
own_turns i turns = filter (λ t. nat_eq t.which i) turns

-- how many turns one connection has
abbrev pub turns_by : ℕ → List Turn → ℕ
turns_by i turns = count_by (λ t. nat_eq t.which i) turns

-- the moments are those of the acts, and possibly one more, at which a message was given up
abbrev pub AreTied : List ℕ → List Act → Type 0
AreTied moments acts = (moments ≡ map (λ a. a.now) acts) ⊎ ((moment : ℕ) × (moments ≡ map (λ a. a.now) acts ++ moment ∷ []))

-- A connection as it was served. It ended, or it is still open, or it was closed between two messages. If it
-- did not end, the stream is what was taken of it.
pub record Thread : Type 0 where
  pub stream : List ℕ
  pub answers : List ℕ
  pub end : Option SessionEnd
  pub gave_up : Bool

abbrev pub thread_of : Connection → Thread
thread_of c = record { stream = c.stream; answers = c.answers; end = Some c.end; gave_up = c.gave_up }

-- These acts were done for up to n more messages of a stream, at these moments, in the order of the stream.
-- The answers are theirs, and the end is that of the stream. Nothing is said of the states between the acts,
-- because acts of other connections come in between.
pub data Speaks : ℕ → List ℕ → List Act → List ℕ → List ℕ → Option SessionEnd → Bool → Type 0 where
  -- the connection did not end, and nothing more of it was taken
  still_open : (n : ℕ) → Speaks n [] [] [] [] None false
  -- no further message takes a moment; this is the same from any state
  over : (n : ℕ) (stream : List ℕ) (s : State) (out : List ℕ) (e : SessionEnd) (gave_up : Bool)
      → Session n stream s [] out e gave_up s → Speaks n stream [] [] out (Some e) gave_up
  -- the message is given up, and all that is written is refusal 40 or a prefix of it
  given_up : (n : ℕ) (stream rest : List ℕ) (r : Request) (now : ℕ) (out : List ℕ) (e : SessionEnd)
      → Next stream (frame.Message r) rest → IsReadable r → IsLastRefusal out e → Speaks (suc n) stream [] (now ∷ []) out (Some e) true
  -- an act whose answer is written in full, and what follows it
  answered : (n : ℕ) (stream rest : List ℕ) (a : Act) (acts : List Act) (moments out : List ℕ) (e : Option SessionEnd) (gave_up : Bool)
      → Next stream (frame.Message a.request) rest → Speaks n rest acts moments out e gave_up
      → Speaks (suc n) stream (a ∷ acts) (a.now ∷ moments) (text_of a ++ out) e gave_up
  -- the last act, whose answer is lost: a prefix of it is written, then a write fails
  lost : (n : ℕ) (stream rest : List ℕ) (a : Act) (front : List ℕ) → Next stream (frame.Message a.request) rest
      → IsBeginning front (text_of a) → Speaks (suc n) stream (a ∷ []) (a.now ∷ []) front (Some WriteFault) false

-- no act has an answer that was written in full
abbrev pub AnswersNone : {n : ℕ} {stream : List ℕ} {acts : List Act} {moments out : List ℕ} {e : Option SessionEnd} {gave_up : Bool}
    → Speaks n stream acts moments out e gave_up → Type 0
AnswersNone (answered n stream rest a acts moments out e gave_up next more) = ⊥
AnswersNone _ = ⊤

-- The same turn by turn. A turn answers one message in full and the connection goes on. Or it only reads on: it
-- tells no moment and answers nothing. Or it is the last one, in which the connection ends and no message is
-- answered in full.
pub data SpeaksInTurns : ℕ → List ℕ → List Turn → List ℕ → Option SessionEnd → Bool → Type 0 where
  no_more : (n : ℕ) → SpeaksInTurns n [] [] [] None false
  goes_on : (n : ℕ) (stream rest : List ℕ) (t : Turn) (a : Act) (turns : List Turn) (out : List ℕ) (e : Option SessionEnd) (gave_up : Bool)
      → t.moments ≡ a.now ∷ [] → t.acts ≡ a ∷ [] → Next stream (frame.Message a.request) rest → SpeaksInTurns n rest turns out e gave_up
      → SpeaksInTurns (suc n) stream (t ∷ turns) (text_of a ++ out) e gave_up
  reads_on : (n : ℕ) (stream : List ℕ) (t : Turn) (turns : List Turn) (out : List ℕ) (e : Option SessionEnd) (gave_up : Bool)
      → t.moments ≡ [] → t.acts ≡ [] → SpeaksInTurns n stream turns out e gave_up → SpeaksInTurns n stream (t ∷ turns) out e gave_up
  ends : (n : ℕ) (stream : List ℕ) (t : Turn) (out : List ℕ) (e : SessionEnd) (gave_up : Bool)
      → (last : Speaks n stream t.acts t.moments out (Some e) gave_up) → AnswersNone last → SpeaksInTurns n stream (t ∷ []) out (Some e) gave_up

-- each connection, from number i on, is served like this
abbrev pub SpeakInTurns : List Turn → ℕ → List Thread → Type 0
SpeakInTurns turns i [] = ⊤
SpeakInTurns turns i (c ∷ cs) =
    SpeaksInTurns most_messages c.stream (own_turns i turns) c.answers c.end c.gave_up × SpeakInTurns turns (suc i) cs

-- for each connection, from number i on: its own acts, in order, are those of its stream
abbrev pub AreSpoken : List Turn → ℕ → List Thread → Type 0
AreSpoken turns i [] = ⊤
AreSpoken turns i (c ∷ cs) =
    Speaks most_messages c.stream (own_acts i turns) (own_moments i turns) c.answers c.end c.gave_up × AreSpoken turns (suc i) cs

-- rest follows on the stream behind the messages of these acts
abbrev pub IsBehind : List ℕ → List Act → List ℕ → Type 0
IsBehind stream [] rest = rest ≡ stream
IsBehind stream (a ∷ acts) rest = (more : List ℕ) × Next stream (frame.Message a.request) more × IsBehind more acts rest

-- What a turn that only reads on had of the next message: at least so many bytes, which are no whole message. The next
-- turn keeps so many of them and reads behind them: none while the head is not whole, and then all. rest: the stream
-- from that message on.
pub record NeedsMore (least kept : ℕ) (rest : List ℕ) : Type 0 where
  pub came : List ℕ
  pub begins : IsBeginning came rest
  pub enough : least ≤ length came
  pub awaits : ∥ Awaits came ∥₁
  pub keeps : ((kept ≡ 0) × AwaitsHead came) ⊎ (kept ≡ length came)

-- After these turns of a connection this is left of its stream, and so many bytes of the next message are kept. A turn
-- that answers nothing read as many bytes as it might, behind those that were kept.
pub data HasRead (stream : List ℕ) : List Turn → List ℕ → ℕ → Type 0 where
  no_turn : HasRead stream [] stream 0
  then_answered : (turns : List Turn) (rest more : List ℕ) (kept : ℕ) (t : Turn) (a : Act) → HasRead stream turns rest kept
      → t.acts ≡ a ∷ [] → Next rest (frame.Message a.request) more → HasRead stream (turns ++ t ∷ []) more 0
  then_read_on : (turns : List Turn) (rest : List ℕ) (kept kept' most : ℕ) (t : Turn) → HasRead stream turns rest kept
      → t.acts ≡ [] → t.most ≡ Some most → NeedsMore (kept + most) kept' rest → HasRead stream (turns ++ t ∷ []) rest kept'

-- a turn that answers nothing has a bound on what it reads
abbrev pub HasBound : Turn → Type 0
HasBound t = t.acts ≡ [] → t.most ≢ None

-- These turns of a connection, which did not end it, read what they might. input: its stream, if that is known.
abbrev pub ReadsThrough : Option (List ℕ) → List Turn → Type 0
ReadsThrough input turns = AllByRecursion HasBound turns × IfSome input (λ stream. (rest : List ℕ) × (kept : ℕ) × HasRead stream turns rest kept)

-- the same for all turns of a connection, the last of which may have ended it
abbrev pub ReadOn : Option SessionEnd → Option (List ℕ) → List Turn → Type 0
ReadOn None input turns = ReadsThrough input turns
ReadOn (Some e) input turns = (before : List Turn) × (last : Turn) × (turns ≡ before ++ last ∷ []) × ReadsThrough input before

-- A connection gave up this request at this moment: its message was the first behind those of the acts, and its
-- moment was told after theirs. stream, gave_up, acts and moments are those of the connection.
pub record HasGivenUp (stream : List ℕ) (gave_up : Bool) (acts : List Act) (moments : List ℕ) (r : Request) (now : ℕ) : Type 0 where
  pub marked : gave_up ≡ true
  pub rest : List ℕ
  pub more : List ℕ
  pub behind : IsBehind stream acts rest
  pub message : Next rest (frame.Message r) more
  pub told : moments ≡ map (λ a. a.now) acts ++ now ∷ []

-- one of the connections, from number i on, gave up this request at this moment
abbrev pub HaveGivenUp : List Turn → ℕ → List Thread → Request → ℕ → Type 0
HaveGivenUp turns i [] r now = ⊥
HaveGivenUp turns i (c ∷ cs) r now =
    HasGivenUp c.stream c.gave_up (own_acts i turns) (own_moments i turns) r now ⊎ HaveGivenUp turns (suc i) cs r now

-- If the connection gave up, it was within a message that had begun, whole or not: the first behind those of
-- the acts.
abbrev pub GaveUpWithin : List ℕ → Bool → List Act → Type 0
GaveUpWithin stream gave_up acts = gave_up ≡ true → (rest : List ℕ) × IsBehind stream acts rest × HasBegunMessage rest

-- the same for each connection, from number i on
abbrev pub GaveUpWithinMessages : List Turn → ℕ → List Thread → Type 0
GaveUpWithinMessages turns i [] = ⊤
GaveUpWithinMessages turns i (c ∷ cs) = GaveUpWithin c.stream c.gave_up (own_acts i turns) × GaveUpWithinMessages turns (suc i) cs

-- There is one order of all messages. By the rules of the machine it leads from the state to the state after,
-- and each connection is what its own messages make of it.
pub record Interleaved (s : State) (threads : List Thread) (moments : List ℕ) (after : State) : Type 0 where
  pub turns : List Turn
  pub order : Acts s (acts_in turns) after
  pub told : moments ≡ moments_in turns
  -- the acts of each turn were done at the moments that were told in it
  pub tied : AllByRecursion (λ t. AreTied t.moments t.acts) turns
  pub within : AllByRecursion (λ t. t.which < length threads) turns
  pub each : AreSpoken turns 0 threads
