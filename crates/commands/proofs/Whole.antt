-- A service of a listener's connections, by its gate as it was left.
use Rattle.std.proofs.Common.{◌≡◌, ◌+◌, ◌++◌, ◌∙◌, Bool, ℕ, List, Option, None, length, subst, sym, true, zero, arith}
use Rattle.std.specs.Prelude.{cond, is_some}
use Rattle.boxes.specs.State.{State}
use Rattle.boxes.specs.declared.keep.Keeper.{Ghosts}
use Rattle.wire.specs.Crowds.{GivenTurn, slot_at}
use Rattle.wire.specs.declared.seat.Seat.{Seat}
use Rattle.wire.specs.declared.gathered.Gathered.{Gathered}
use Rattle.wire.specs.declared.outbox.Outbox.{Outbox}
use Rattle.office.specs.Crowds.{ServesCrowd}
use Rattle.office.specs.Premise.{IsLeft, WasKept}
use Rattle.sockets.specs.Accepting.{Admits, HasGiven}
use Rattle.sockets.specs.Listening.{Event}
use Rattle.sockets.specs.Moving.{HasPassed}
use Rattle.sockets.specs.declared.gate.Gate.{Gate}
use Rattle.sockets.proofs.Moved.{waits_one}
use Rattle.commands.specs.Rounds.{Accepts, ServesMany}
use Rattle.commands.specs.declared.rounds.Outcome.{Outcome}

-- all slots are free
abbrev pub AreFree : {E : Type 0} → List (Option (Seat (Gathered E) (Outbox E))) → Type 0
AreFree slots = (p : ℕ) → slot_at slots p ≡ None

-- The outcome counts what passed the gate. rest and guest: what the gate says at its end.
pub record IsCounted {L S E : Type 0} (gate : Gate L S) (connections rest : ℕ) (guest : Bool) (slots : List (Option (Seat (Gathered E) (Outbox E)))) (outcome : Outcome) : Type 0 where
  pub to_come : rest ≡ gate.to_come
  pub waits : guest ≡ is_some gate.guest
  pub came : outcome.came ≡ gate.came
  pub unsent : outcome.unsent ≡ gate.unsent
  pub refused : (refused : ℕ) → connections ≡ rest + cond guest 1 0 + gate.came + refused → outcome.refused ≡ refused
  pub told : outcome.is_whole ≡ true → (gate.came + outcome.refused ≡ connections) × (gate.came ≡ gate.gone) × AreFree slots
  pub whole : gate.came + outcome.refused ≡ connections → gate.came ≡ gate.gone → AreFree slots → outcome.is_whole ≡ true

module _ {L S E : Type 0} {told : L → List (Event S E) → Type 0} {had : List (Event S E) → Type 0} {are_ends : S → E → E → Type 0}
    {slots : List (Option (Seat (Gathered E) (Outbox E)))} {outcome : Outcome} (gate : Gate L S) {listener : L} (rest : ℕ) (guest : Bool) where
  accepted : {connections most : ℕ} (came gone : List (Seat (Gathered E) (Outbox E))) → HasPassed had connections most told are_ends gate came gone → listener ≡ gate.listener → length slots ≡ most
      → IsCounted gate connections rest guest slots outcome → Accepts had (told listener) are_ends connections most came gone slots outcome
  accepted {connections = connections} {most = most} came gone passed same room is =
      let refused = is.refused passed.refused (omega (arith, passed.to_come, is.to_come, passed.counted, waits_one gate.guest guest is.waits)) in
      record {
        events = passed.events;
        waits = gate.guest;
        tells = λ log at. subst (λ l. told l (log ++ passed.events)) (sym same) (passed.tells log at);
        admits = subst (λ n. Admits are_ends most passed.events gate.guest came gone n) (sym refused) passed.admits;
        room = room;
        counted = is.came ∙ passed.counted;
        unsent = is.unsent ∙ passed.unsent;
        within = omega (arith, passed.to_come, refused);
        all = λ whole. omega (arith, is.came, (is.told whole).0);
        left = λ whole. (sym passed.left ∙ sym (is.told whole).1 ∙ passed.counted, (is.told whole).2);
        whole = λ come left free. is.whole (omega (arith, is.came, come)) (passed.counted ∙ sym left ∙ sym passed.left) free;
      }

module _ {C K L S E : Type 0} {gives : C → ℕ → C → Type 0} {told : L → List (Event S E) → Type 0} {had : List (Event S E) → Type 0} {are_ends : S → E → E → Type 0}
    {remaining : Gathered E → Option (List ℕ)} {contents : Outbox E → Option (List ℕ)} {clock clock' : C} {k : Ghosts K} {keeper keeper' : K}
    {slots : List (Option (Seat (Gathered E) (Outbox E)))} {outcome : Outcome} (gate : Gate L S) {listener : L} (rest : ℕ) (guest : Bool) where
  -- the crowd around an office has come through the gate
  pub service : {connections most to most' all turns : ℕ} {left : Gate L S} → connections ≡ to → most ≡ most' → gate ≡ left → listener ≡ gate.listener → length slots ≡ most
      → IsCounted gate connections rest guest slots outcome
      → (came gone : List (Seat (Gathered E) (Outbox E))) × HasPassed had to most' told are_ends left came gone
      × (numbered : ℕ → ℕ) × (given : List GivenTurn) × HasGiven left.came turns given × (all ≡ turns + length given)
      × ((s : State) → WasKept k keeper keeper' s → (after : State) × IsLeft (k.means keeper') after
      × ServesCrowd gives remaining contents came gone slots clock clock' k keeper keeper' zero given outcome.faulty s after)
      → ServesMany gives had (told listener) are_ends remaining contents clock clock' k keeper keeper' connections most slots outcome
  service {connections = connections} {most = most} {to = to} {most' = most'} {turns = turns} {left = left} all bound at same room is (came, gone, passed, numbered, given, gave, counted, serves) =
      let numbers = subst (λ n. HasPassed had n most' told are_ends left came gone) (sym all) passed in
      let bounds = subst (λ n. HasPassed had connections n told are_ends left came gone) (sym bound) numbers in
      let passes : HasPassed had connections most told are_ends gate came gone = subst (λ x. HasPassed had connections most told are_ends x came gone) (sym at) bounds in
      record {
        came = came;
        gone = gone;
        given = given;
        accepts = accepted gate rest guest came gone passes same room is;
        left = turns;
        gave = subst (λ n. HasGiven n turns given) passed.counted gave;
        serves = serves;
      }
