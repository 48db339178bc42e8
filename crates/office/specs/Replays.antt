-- Replaying a connection: from a state, at one moment.
use Rattle.std.specs.Prelude.{◌≡◌, ◌≢◌, ℕ, Bool, false, List, [], ◌∷◌, ◌++◌, length, map, slice_get, Option, Some, Result, MatchResult, replicate, ⊤}
use Rattle.std.specs.Borrow.{Bor}
use Rattle.std.specs.List.{count_by}
use Rattle.std.specs.Io.KnownBytes.{Appends}
use Rattle.boxes.specs.State.{State}
use Rattle.boxes.specs.declared.keep.Keeper.{Ghosts}
use Rattle.wire.specs.declared.session.SessionEnd.{SessionEnd}
use Rattle.wire.specs.declared.session.SessionEnd.TheVariants.{ReadFault}
use Rattle.wire.specs.Ends.{is_fault}
use Rattle.office.specs.Connections.{IsStream, LastsOverAll, StaysOpen}
use Rattle.office.specs.Crashes.{Survives}
use Rattle.office.specs.Sessions.{Connection, GaveUpIn, Run, Session, most_messages}

-- what was read and written is a session from the state in which each message was handled at the moment
pub record Replays (input input' output output' : Option (List ℕ)) (s : State) (moment : ℕ) (e : SessionEnd) : Type 0 where
  pub stream : List ℕ
  pub messages : ℕ
  pub answers : List ℕ
  pub gave_up : Bool
  pub after : State
  pub read : IsStream gave_up e input input' stream
  pub written : Appends output output' answers
  pub session : Session most_messages stream s (replicate messages moment) answers e gave_up after

-- the answers to all the bytes or, if the session gave up, to those that were read before it did
pub record IsReplay (bytes : List ℕ) (s : State) (moment : ℕ) (answers : List ℕ) (e : SessionEnd) : Type 0 where
  pub front : List ℕ
  pub rest : List ℕ
  pub joined : bytes ≡ front ++ rest
  pub messages : ℕ
  pub gave_up : Bool
  pub whole : gave_up ≡ false → (e ≢ ReadFault) → rest ≡ []
  pub after : State
  pub session : Session most_messages front s (replicate messages moment) answers e gave_up after

-- all of them equal this moment
abbrev pub AreAll : ℕ → List ℕ → Type 0
AreAll moment [] = ⊤
AreAll moment (m ∷ moments) = (m ≡ moment) × AreAll moment moments

-- the answers of the connections in order
abbrev pub answers_in : List Connection → List ℕ
answers_in [] = []
answers_in (c ∷ cs) = c.answers ++ answers_in cs

-- What was written is the answers of n connections. They were served in order from the state, each message at
-- the moment. after is the state after, and faults of them ended by a fault.
pub record InTurn (output output' : Option (List ℕ)) (s after : State) (moment n faults : ℕ) : Type 0 where
  pub connections : List Connection
  pub moments : List ℕ
  pub each : AreAll moment moments
  pub run : Run s connections moments after
  pub written : Appends output output' (answers_in connections)
  pub many : length connections ≡ n
  pub faulty : faults ≡ count_by (λ c. is_fault c.end) connections

-- The same over a keeper. If no connection gave up, it is open if it was before. lasts and survives say what a
-- crash leaves: if nothing was given up except at a failed read, and in any case.
pub record InTurnOver {K : Type 0} (k : Ghosts K) (keeper keeper' : K) (output output' : Option (List ℕ)) (s after : State) (moment n faults : ℕ) : Type 0 where
  pub turn : InTurn output output' s after moment n faults
  pub opened : StaysOpen k turn.connections keeper keeper' after
  pub lasts : LastsOverAll k turn.connections keeper keeper' s after
  pub survives : Survives k keeper keeper' (GaveUpIn s turn.connections turn.moments after turn.run) s after

-- Either all streams were served in order, and the result counts the faults, or those before the stream that
-- it names. Served n faults: n connections were served in order, and faults of them ended by a fault.
abbrev pub TakesTurns : (ℕ → ℕ → Type 0) → List (Bor (List ℕ)) → Result ℕ (Bor (List ℕ)) → Type 0
TakesTurns Served streams result = MatchResult result
    (λ faults. Served (length streams) faults)
    (λ name. (n faults : ℕ) × Served n faults × (slice_get (map (λ t. t.now) streams) n ≡ Some name.now))
