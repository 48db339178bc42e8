-- An upload acts once over a whole run: sent again, it gets the same receipt and changes nothing.
use Rattle.std.specs.Prelude.{◌≡◌, ℕ, suc, Bool, true, false, List, [], ◌∷◌, ◌++◌}
use Rattle.std.specs.List.{AllByRecursion}
use Rattle.sigtext.specs.Bytes.{IsBeginning}
use Rattle.sigtext.specs.Request.{Request}
use Rattle.links.specs.WellFormed.{LinkValues}
use Rattle.boxes.specs.State.{Place, State}
use Rattle.boxes.specs.Steps.{DropFile}
use Rattle.wire.specs.Answers.{Said, Kept, Done, answer_text}
use Rattle.wire.specs.Framing.{Next}
use Rattle.wire.specs.Framing as frame
use Rattle.office.specs.Admitted.{ReachesBoxes}
use Rattle.office.specs.Answering.{Replies, is_head}
use Rattle.sigtext.specs.Readable.{IsReadable}
use Rattle.office.specs.Rules.{IsPut, IsPost, place_of, Asks}
use Rattle.office.specs.Sessions.{Session, Connection, most_messages}
use Rattle.office.specs.WithoutTryAgain.{IsLastRefusal}
use Rattle.wire.specs.declared.session.SessionEnd.{SessionEnd}
use Rattle.wire.specs.declared.session.SessionEnd.TheVariants.{WriteFault}

-- what was done for one message
pub record Act : Type 0 where
  pub before : State
  pub request : Request
  pub now : ℕ
  pub reply : Said
  pub after : State

-- the acts follow the rules of the machine in order, from a state to a state
abbrev pub Acts : State → List Act → State → Type 0
Acts s [] after = after ≡ s
Acts s (a ∷ acts) after = (a.before ≡ s) × Replies a.before a.request a.now a.reply a.after × Acts a.after acts after

-- the text of the act's answer
abbrev pub text_of : Act → List ℕ
text_of a = answer_text (is_head a.request) a.reply

-- ---- the acts of a run

-- The acts of a session of up to n messages, from a state to a state. Each message that took a moment and was
-- not given up is one act, in order. stream, moments, out, e and gave_up are those of the session.
pub data AreSessionActs : ℕ → List ℕ → State → List ℕ → List ℕ → SessionEnd → Bool → List Act → State → Type 0 where
  -- no further message takes a moment
  over : (n : ℕ) (stream : List ℕ) (s : State) (out : List ℕ) (e : SessionEnd) (gave_up : Bool)
      → Session n stream s [] out e gave_up s → AreSessionActs n stream s [] out e gave_up [] s
  -- the message is given up, and all that is written is refusal 40 or a prefix of it
  given_up : (n : ℕ) (stream rest : List ℕ) (s : State) (r : Request) (now : ℕ) (out : List ℕ) (e : SessionEnd)
      → Next stream (frame.Message r) rest → IsReadable r → IsLastRefusal out e
      → AreSessionActs (suc n) stream s (now ∷ []) out e true [] s
  -- an act whose answer is written in full, and the acts after it
  answered : (n : ℕ) (stream rest : List ℕ) (s after : State) (a : Act) (acts : List Act) (moments out : List ℕ)
      (e : SessionEnd) (gave_up : Bool) → Next stream (frame.Message a.request) rest → a.before ≡ s
      → AreSessionActs n rest a.after moments out e gave_up acts after
      → AreSessionActs (suc n) stream s (a.now ∷ moments) (text_of a ++ out) e gave_up (a ∷ acts) after
  -- the last act, whose answer is lost: a prefix of it is written, then a write fails
  lost : (n : ℕ) (stream rest : List ℕ) (s : State) (a : Act) (front : List ℕ) → Next stream (frame.Message a.request) rest
      → a.before ≡ s → IsBeginning front (text_of a)
      → AreSessionActs (suc n) stream s (a.now ∷ []) front WriteFault false (a ∷ []) a.after

-- the acts of the connections, in order
abbrev pub AreActs : State → List Connection → List ℕ → List Act → State → Type 0
AreActs s [] moments acts after = (moments ≡ []) × (acts ≡ []) × (after ≡ s)
AreActs s (c ∷ cs) moments acts after =
    (first others : List ℕ) × (here more : List Act) × (mid : State) × (moments ≡ first ++ others) × (acts ≡ here ++ more)
    × AreSessionActs most_messages c.stream s first c.answers c.end c.gave_up here mid × AreActs mid cs others more after

-- ---- repeated uploads

-- The act is an upload of these bytes to this place that obeys rules 7 to 26. Nothing is said of the rules on
-- boxes and files.
pub record IsUploadOf (place : Place) (bytes : List ℕ) (a : Act) : Type 0 where
  pub parts : LinkValues
  pub reaches : ReachesBoxes a.before a.request a.now parts
  pub put : IsPut a.request
  pub at : place_of parts.path ≡ place
  pub brings : a.request.body ≡ bytes

-- the reply is a receipt
pub record GotReceipt (a : Act) : Type 0 where
  pub number : ℕ
  pub size : ℕ
  pub digits : List ℕ
  pub is : a.reply ≡ Kept number size digits

-- the act is a desk command that drops the file at this place, and it is done
pub record DropsFile (place : Place) (a : Act) : Type 0 where
  pub parts : LinkValues
  pub reaches : ReachesBoxes a.before a.request a.now parts
  pub post : IsPost a.request
  pub asks : Asks parts (DropFile place)
  pub done : a.reply ≡ Done

-- the act is not an upload of other bytes to this place that got a receipt, and it does not drop the file
-- there
pub record LeavesFile (place : Place) (bytes : List ℕ) (a : Act) : Type 0 where
  pub same : (other : List ℕ) → IsUploadOf place other a → GotReceipt a → other ≡ bytes
  pub not_dropped : DropsFile place a → ⊥

-- Suppose an upload got a receipt, and no act since then put other bytes in its place or dropped its file.
-- Then a further upload of its bytes to its place gets this receipt and changes nothing, even after closing
-- time or if the box is full.
abbrev pub RepeatsOnce : List Act → Type 0
RepeatsOnce acts =
    (earlier between later : List Act) (first again : Act) (place : Place) (bytes : List ℕ)
    → acts ≡ earlier ++ first ∷ between ++ again ∷ later → IsUploadOf place bytes first → GotReceipt first
    → AllByRecursion (LeavesFile place bytes) between → IsUploadOf place bytes again
    → (again.reply ≡ first.reply) × (again.after ≡ again.before)

-- the acts of the connections are a run of the machine in which an upload acts once
pub record ActsOnce (s : State) (cs : List Connection) (moments : List ℕ) (after : State) : Type 0 where
  pub acts : List Act
  pub are : AreActs s cs moments acts after
  pub by_rules : Acts s acts after
  pub repeats : RepeatsOnce acts
