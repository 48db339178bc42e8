-- A run without the messages that were answered with refusal 40.
use Rattle.std.specs.Prelude.{◌≡◌, ◌⊎◌, ℕ, true, false, List, [], ◌∷◌, ◌++◌}
use Rattle.sigtext.specs.Bytes.{IsBeginning}
use Rattle.sigtext.specs.Request.{Request}
use Rattle.sigtext.specs.declared.refusal.Refusal.TheVariants as rule
use Rattle.boxes.specs.State.{State}
use Rattle.wire.specs.Framing.{Next}
use Rattle.wire.specs.Framing as frame
use Rattle.sigtext.specs.Readable.{IsReadable}
use Rattle.office.specs.Sessions.{HasBegunMessage, Session, Connection, Run, closing, most_messages}
use Rattle.wire.specs.declared.session.SessionEnd.{SessionEnd}
use Rattle.wire.specs.declared.session.SessionEnd.TheVariants.{Ended, Refused, ReadFault, WriteFault}

-- Where a connection gave up: what was answered of its stream, what was left, and the moments that it took
-- there. It was at a readable message, with one moment; or within a message that had begun, or before
-- anything was read, with none.
pub data GivesUp (front rest : List ℕ) : List ℕ → Type 0 where
  at_message : (r : Request) (now : ℕ) (more : List ℕ) → Next rest (frame.Message r) more → IsReadable r → GivesUp front rest (now ∷ [])
  within_message : HasBegunMessage rest → GivesUp front rest []
  before_all : front ≡ [] → rest ≡ [] → GivesUp front rest []

-- refusal 40 was the last answer: it was written in full, or in part if the write failed
abbrev pub IsLastRefusal : List ℕ → SessionEnd → Type 0
IsLastRefusal last (Refused number) = (number ≡ 40) × (last ≡ closing rule.TryAgain)
IsLastRefusal last WriteFault = IsBeginning last (closing rule.TryAgain)
IsLastRefusal last _ = ⊥

-- the last answer of a connection that gave up: refusal 40, or none if a read failed
abbrev pub IsGivenUpBy : List ℕ → SessionEnd → Type 0
IsGivenUpBy last e = IsLastRefusal last e ⊎ ((last ≡ []) × (e ≡ ReadFault))

-- The connection c gave up. d is c with its stream cut before the message at which c gave up: everything
-- before that is answered as it was, and refusal 40 is not written. moments and told: the moments of c and of
-- d.
pub record IsCutShort (c d : Connection) (moments told : List ℕ) : Type 0 where
  pub rest : List ℕ
  pub others : List ℕ
  pub last : List ℕ
  pub marked : c.gave_up ≡ true
  pub stream : c.stream ≡ d.stream ++ rest
  pub gives_up : GivesUp d.stream rest others
  pub taken : moments ≡ told ++ others
  pub answers : c.answers ≡ d.answers ++ last
  pub refused : IsGivenUpBy last c.end
  pub ended : d.end ≡ Ended
  pub unmarked : d.gave_up ≡ false

-- the connection is served from a state, at these moments, and leaves this state
abbrev pub IsServed : State → Connection → List ℕ → State → Type 0
IsServed s c moments after = Session most_messages c.stream s moments c.answers c.end c.gave_up after

-- A run, and the same run without what was answered with refusal 40. A connection that did not give up is
-- unchanged, and one that did is cut. Each is served from the same state as before and leaves the same state.
pub data IsWithout : State → List Connection → List ℕ → List Connection → List ℕ → State → Type 0 where
  none : (s : State) → IsWithout s [] [] [] [] s
  stays : (s mid after : State) (c : Connection) (cs ds : List Connection) (first ms ns : List ℕ) → c.gave_up ≡ false → IsServed s c first mid
      → IsWithout mid cs ms ds ns after → IsWithout s (c ∷ cs) (first ++ ms) (c ∷ ds) (first ++ ns) after
  cut : (s mid after : State) (c d : Connection) (cs ds : List Connection) (first told ms ns : List ℕ) → IsCutShort c d first told → IsServed s c first mid → IsServed s d told mid
      → IsWithout mid cs ms ds ns after → IsWithout s (c ∷ cs) (first ++ ms) (d ∷ ds) (told ++ ns) after

-- without what was answered with refusal 40 the connections are also a run, from the same state to the same
-- state
pub record RunsWithout (s : State) (cs : List Connection) (moments : List ℕ) (after : State) : Type 0 where
  pub connections : List Connection
  pub told : List ℕ
  pub without : IsWithout s cs moments connections told after
  pub run : Run s connections told after
