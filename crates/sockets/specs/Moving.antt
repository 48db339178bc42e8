-- What happened at the gate and in the slots, and what was counted.
use Rattle.std.specs.Prelude.{◌≡◌, ◌+◌, ◌++◌, ℕ, List, Option, length}
use Rattle.std.specs.List.{count_by}
use Rattle.wire.specs.Crowds.{Changes, those_of}
use Rattle.wire.specs.declared.seat.Seat.{Seat}
use Rattle.wire.specs.declared.gathered.Gathered.{Gathered}
use Rattle.wire.specs.declared.outbox.Outbox.{Outbox}
use Rattle.sockets.specs.Accepting.{Admits, lacks_answers}
use Rattle.sockets.specs.Listening.{Event}
use Rattle.sockets.specs.declared.gate.Gate.{Gate}

-- What passed a gate: these connections came, and those went. Added to whatever the listener had done before,
-- its new events admit them. Each connection that came, was refused or waits is one of those to come. told:
-- what a listener tells that it did; are_ends: which ends belong to a connection.
pub record Passes {L S E : Type 0} (told : L → List (Event S E) → Type 0) (are_ends : S → E → E → Type 0) (old new : Gate L S) (more went : List (Seat (Gathered E) (Outbox E))) : Type 0 where
  pub events : List (Event S E)
  pub refused : ℕ
  pub tells : (log : List (Event S E)) → told old.listener log → told new.listener (log ++ events)
  pub admits : (before : List (Event S E)) (came gone : List (Seat (Gathered E) (Outbox E))) (n : ℕ) → Admits are_ends old.most before old.guest came gone n
      → old.came ≡ length came → old.gone ≡ length gone → Admits are_ends old.most (before ++ events) new.guest (came ++ more) (gone ++ went) (n + refused)
  pub most : new.most ≡ old.most
  pub to_come : old.to_come + length (those_of old.guest) ≡ new.to_come + length (those_of new.guest) + length more + refused
  pub counted : new.came ≡ old.came + length more
  pub left : new.gone ≡ old.gone + length went
  pub unsent : new.unsent ≡ old.unsent + count_by lacks_answers went

-- the same, with the changes of the slots
abbrev pub Moves : {L S E : Type 0} → (L → List (Event S E) → Type 0) → (S → E → E → Type 0) → (Gathered E → Option (List ℕ)) → (Outbox E → Option (List ℕ)) → Gate L S → Gate L S
    → List (Option (Seat (Gathered E) (Outbox E))) → List (Option (Seat (Gathered E) (Outbox E))) → Type 0
Moves {E = E} told are_ends remaining contents before after old new =
    (came gone : List (Seat (Gathered E) (Outbox E))) × Passes told are_ends before after came gone × Changes remaining contents old new came gone

-- What passed a gate since it began with this listener's events, this many connections to come, and this many
-- allowed to be open.
pub record HasPassed {L S E : Type 0} (had : List (Event S E) → Type 0) (connections most : ℕ) (told : L → List (Event S E) → Type 0) (are_ends : S → E → E → Type 0) (gate : Gate L S)
    (came gone : List (Seat (Gathered E) (Outbox E))) : Type 0 where
  pub events : List (Event S E)
  pub refused : ℕ
  pub tells : (log : List (Event S E)) → had log → told gate.listener (log ++ events)
  pub admits : Admits are_ends most events gate.guest came gone refused
  pub bound : gate.most ≡ most
  pub to_come : connections ≡ gate.to_come + length (those_of gate.guest) + length came + refused
  pub counted : gate.came ≡ length came
  pub left : gate.gone ≡ length gone
  pub unsent : gate.unsent ≡ count_by lacks_answers gone
