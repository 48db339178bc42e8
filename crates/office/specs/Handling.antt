-- What handling one message does to the clock, the writer, the state and the keeper.
use Rattle.std.specs.Prelude.{ℕ, List, Option, None, Some, true, false}
use Rattle.std.specs.Io.KnownBytes.{Appends}
use Rattle.sigtext.specs.declared.refusal.Refusal.TheVariants as rule
use Rattle.sigtext.specs.Request.{Request}
use Rattle.boxes.specs.State.{State}
use Rattle.wire.specs.declared.session.SessionEnd.{SessionEnd}
use Rattle.wire.specs.declared.session.SessionEnd.TheVariants.{Refused, WriteFault}
use Rattle.boxes.specs.declared.keep.Keeper.{Ghosts}
use Rattle.sigtext.specs.Bytes.{IsBeginning}
use Rattle.office.specs.declared.connections.responding.Handled.{Handled}
use Rattle.office.specs.declared.connections.responding.Handled.TheVariants.{Answered, GaveUp, Broken}
use Rattle.office.specs.Answering.{AnswersRequest}
use Rattle.office.specs.Crashes.{AddsAsked, IsAsked, LastsThrough}
use Rattle.office.specs.Premise.{HoldsUp, IsLeft}
use Rattle.sigtext.specs.Readable.{IsReadable}
use Rattle.office.specs.Sessions.{closing}

-- how a session ends by how a message ended, if it ends
abbrev pub end_of : Handled → Option SessionEnd
end_of Answered = None
end_of GaveUp = Some (Refused 40)
end_of Broken = Some WriteFault

-- The message with the request r was handled at a moment. It was answered or given up, or writing the answer
-- broke off.
pub data Handles {C K : Type 0} (gives : C → ℕ → C → Type 0) (clock clock' : C) (output output' : Option (List ℕ)) (k : Ghosts K) (keeper keeper' : K) (s : State) (r : Request)
    : Handled → Type 0 where
  answered : (now : ℕ) (text : List ℕ) (after : State) → gives clock now clock' → Appends output output' text → HoldsUp k false keeper keeper' → LastsThrough k keeper keeper' s after → IsLeft (k.means keeper') after → AnswersRequest s r now text after
      → Handles gives clock clock' output output' k keeper keeper' s r Answered
  gave_up_at : (now : ℕ) → gives clock now clock' → Appends output output' (closing rule.TryAgain) → HoldsUp k true keeper keeper' → AddsAsked k keeper keeper' s (IsAsked s r now) → IsReadable r → IsLeft (k.means keeper') s
      → Handles gives clock clock' output output' k keeper keeper' s r GaveUp
  broke : (now : ℕ) (text front : List ℕ) (after : State) → gives clock now clock' → Appends output output' front → IsBeginning front text → HoldsUp k false keeper keeper' → LastsThrough k keeper keeper' s after → IsLeft (k.means keeper') after → AnswersRequest s r now text after
      → Handles gives clock clock' output output' k keeper keeper' s r Broken
  broke_giving_up_at : (now : ℕ) (front : List ℕ) → gives clock now clock' → Appends output output' front → IsBeginning front (closing rule.TryAgain) → HoldsUp k true keeper keeper' → AddsAsked k keeper keeper' s (IsAsked s r now) → IsReadable r → IsLeft (k.means keeper') s
      → Handles gives clock clock' output output' k keeper keeper' s r Broken
