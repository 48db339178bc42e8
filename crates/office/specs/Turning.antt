-- What one turn makes of a connection's feed, which is set aside before and after.
use Rattle.std.specs.Prelude.{◌≡◌, ℕ, List, [], Option, None}
use Rattle.std.specs.Option.{ForSome}
use Rattle.std.specs.Io.KnownBytes.{Keeps}
use Rattle.boxes.specs.State.{State}
use Rattle.boxes.specs.declared.keep.Keeper.{Ghosts}
use Rattle.wire.specs.Feeds.{given_before, stood_at}
use Rattle.wire.specs.Seats.{left_behind}
use Rattle.wire.specs.Underways.{IsUnderway}
use Rattle.wire.specs.Waiting.{TakesAll}
use Rattle.wire.specs.declared.counted.Counted.{Counted}
use Rattle.wire.specs.declared.feed.Place.TheVariants as place
use Rattle.wire.specs.declared.standing.Standing.{Standing}
use Rattle.wire.specs.declared.underway.Underway.{Underway}
use Rattle.office.specs.Premise.{HoldsUnless, StaysUnstaged, WasKept}
use Rattle.office.specs.Responding.{GivesUp, IfAnswer, TellsReading}
use Rattle.office.specs.Seats.{LacksRest}
use Rattle.office.specs.Stepping.{StandsBy, StepsBy}
use Rattle.office.specs.declared.connections.turning.Aside.{Aside}
use Rattle.office.specs.declared.connections.turning.Turn.{Turn}
use Rattle.office.specs.declared.connections.turning.Turn.TheVariants as turn

-- Where the feed stands after a turn: between two messages, or within the body of the one that is under way. It
-- does not matter if the connection ends. If the turn only read on, more bytes of the message are needed.
abbrev pub StandsAside : Turn → Aside → Type 0
StandsAside (turn.Done x) aside = (aside.underway ≡ None) × IfAnswer x ((stood_at aside.standing ≡ place.Between) × (given_before aside.standing ≡ []))
StandsAside turn.ReadOn aside =
    (aside.underway ≡ None → (stood_at aside.standing ≡ place.Between) × (given_before aside.standing ≡ [])) × ForSome aside.underway (λ u. IsUnderway u aside.standing)
    × LacksRest aside.underway aside.standing

-- A message was heard or the connection ends, as by a step of a session, whatever is written of the response. Or
-- nothing was told, and no byte was lost.
abbrev pub TurnsTo : {C K R : Type 0} → (C → ℕ → C → Type 0) → Option (List ℕ) → (R → Option (List ℕ)) → Counted R → C → C → Ghosts K → K → K → State → Aside → Turn → Type 0
TurnsTo gives known remaining reader clock clock' k keeper keeper' s aside (turn.Done x) =
    StepsBy gives place.Between known (left_behind None aside.standing (remaining reader.inner)) (remaining reader.inner) clock clock' k keeper keeper' s x
TurnsTo gives known remaining reader clock clock' k keeper keeper' s aside turn.ReadOn =
    Keeps known (left_behind aside.underway aside.standing (remaining reader.inner)) × StandsBy clock clock' k keeper keeper' s

-- the faults of reading that were counted in the turn
abbrev pub TellsAside : {R : Type 0} → Turn → Counted R → Counted R → Type 0
TellsAside (turn.Done x) reader reader' = TellsReading x reader reader'
TellsAside turn.ReadOn reader reader' = reader'.faults ≡ reader.faults

-- the turn gave something up
abbrev pub TurnGivesUp : {K : Type 0} → Ghosts K → K → K → Turn → Type 0
TurnGivesUp k old new (turn.Done x) = GivesUp k old new x
TurnGivesUp k old new turn.ReadOn = ⊥

-- What a turn leaves of a connection whose feed was set aside so, before anything is written. A turn that only reads
-- on has read all the bytes that it may. most: how many bytes may be read.
pub record TurnsAside {C K R : Type 0} (gives : C → ℕ → C → Type 0) (remaining : R → Option (List ℕ)) (underway : Option Underway) (standing : Standing) (most : Option ℕ) (reader reader' : Counted R)
    (clock clock' : C) (k : Ghosts K) (keeper keeper' : K) (aside : Aside) : Type 0 where
  pub stands : StandsAside aside.turn aside
  pub turns : (s : State) → WasKept k keeper keeper' s → TurnsTo gives (left_behind underway standing (remaining reader.inner)) remaining reader' clock clock' k keeper keeper' s aside aside.turn
  pub faults : TellsAside aside.turn reader reader'
  pub all : aside.turn ≡ turn.ReadOn → TakesAll most (remaining reader.inner) (remaining reader'.inner)
  pub unstaged : StaysUnstaged k keeper keeper'
  pub rest : HoldsUnless k keeper keeper' (TurnGivesUp k keeper keeper' aside.turn)
