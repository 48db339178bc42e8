-- The edges of sessions: which steps of a stream a session may skip, by giving up without a moment or by a
-- failed read.
use Rattle.std.proofs.Common.{◌≡◌, ℕ, suc, true, false, List, [], ◌⊎◌, inl, inr}
use Rattle.boxes.specs.State.{State}
use Rattle.wire.specs.Framing.{Next, Step}
use Rattle.examples.proofs.Awaiting.{IsAwaited, awaited}
use Rattle.wire.specs.declared.session.SessionEnd.{SessionEnd}
use Rattle.wire.specs.declared.session.SessionEnd.TheVariants.{ReadFault}
use Rattle.office.specs.Sessions.{Session, most_messages}
use Rattle.office.specs.Sessions as session
use Rattle.office.proofs.Begun.{IsBegunStep, begun_step}

-- a session may give up before anything of a connection was read, or instead of a readable message or of
-- refusal 6
pub gives_up_reading : (n : ℕ) (stream rest out : List ℕ) (s after : State) (e : SessionEnd) (step : Step) → Session (suc n) stream s [] out e true after
    → Next stream step rest → ((suc n ≡ most_messages) × (stream ≡ [])) ⊎ IsBegunStep step
gives_up_reading n stream rest _ s _ _ step (session.gave_up_reading _ _ _ (inl first)) next = inl first
gives_up_reading n stream rest _ s _ _ step (session.gave_up_reading _ _ _ (inr a)) next = inr (begun_step stream rest step a next)
gives_up_reading n stream rest _ s _ _ step (session.read_failed_giving_up _ _ _ awaits a) next = inr (begun_step stream rest step a next)
gives_up_reading n stream rest _ s _ _ step (session.write_failed_giving_up_reading _ _ _ front (inl first) begins) next = inl first
gives_up_reading n stream rest _ s _ _ step (session.write_failed_giving_up_reading _ _ _ front (inr a) begins) next = inr (begun_step stream rest step a next)

-- a read may not fail instead of a message, nor instead of any refusal but 6
pub fails_reading : (n : ℕ) (stream rest out : List ℕ) (s after : State) (step : Step) → Session (suc n) stream s [] out ReadFault false after
    → Next stream step rest → IsAwaited step
fails_reading n stream rest _ s _ step (session.read_failed _ _ _ awaits) next = awaited stream rest step awaits next
