-- Slots in which connections come and go, and what may happen in them between two turns.
use Rattle.std.specs.Prelude.{◌≡◌, ◌≢◌, ◌<◌, ◌+◌, ◌⊎◌, ℕ, cond, nat_eq, List, [], ◌∷◌, ◌++◌, length, slice_set, slice_index_or, Option, Some, None}
use Rattle.std.specs.List.{flat_map}
use Rattle.wire.specs.Seats.{Gathers, IsNew, Sends}
use Rattle.wire.specs.declared.crowding.Due.{Due}
use Rattle.wire.specs.declared.seat.Seat.{Seat}

-- the content of slot p
abbrev pub slot_at : {X : Type 0} → List (Option X) → ℕ → Option X
slot_at slots p = slice_index_or slots p None

-- none of the first n slots is free
abbrev pub NoneIsFree : {X : Type 0} → List (Option X) → ℕ → Type 0
NoneIsFree slots n = (p : ℕ) → p < n → slot_at slots p ≢ None

-- What may happen in the slots between two turns, one change after another. The last two arguments are the
-- connections that came, as they came, and those that went, as they were then. remaining: what a reader has
-- left; contents: what a writer holds.
pub data Changes {R W : Type 0} (remaining : R → Option (List ℕ)) (contents : W → Option (List ℕ)) (old : List (Option (Seat R W)))
    : List (Option (Seat R W)) → List (Seat R W) → List (Seat R W) → Type 0 where
  same : Changes remaining contents old old [] []
  -- a new connection comes into a free slot
  comes : (now : List (Option (Seat R W))) (came gone : List (Seat R W)) (p : ℕ) (new : Seat R W) → Changes remaining contents old now came gone
      → p < length now → slot_at now p ≡ None → IsNew new → Changes remaining contents old (slice_set now p (Some new)) (came ++ new ∷ []) gone
  -- bytes of an open connection are read ahead
  gathers : (now : List (Option (Seat R W))) (came gone : List (Seat R W)) (p : ℕ) (seat new : Seat R W) → Changes remaining contents old now came gone
      → p < length now → slot_at now p ≡ Some seat → seat.end ≡ None → Gathers remaining seat new → Changes remaining contents old (slice_set now p (Some new)) came gone
  -- bytes that were written to a connection are sent, whether it has ended or not
  sends : (now : List (Option (Seat R W))) (came gone : List (Seat R W)) (p : ℕ) (seat new : Seat R W) → Changes remaining contents old now came gone
      → p < length now → slot_at now p ≡ Some seat → Sends contents seat new → Changes remaining contents old (slice_set now p (Some new)) came gone
  -- a connection goes, whether it has ended or not
  goes : (now : List (Option (Seat R W))) (came gone : List (Seat R W)) (p : ℕ) (seat : Seat R W) → Changes remaining contents old now came gone
      → p < length now → slot_at now p ≡ Some seat → Changes remaining contents old (slice_set now p None) came (gone ++ seat ∷ [])

-- the connection that is there, if any
abbrev pub those_of : {X : Type 0} → Option X → List X
those_of None = []
those_of (Some x) = x ∷ []

-- the connections in the slots, in order
abbrev pub standing_in : {X : Type 0} → List (Option X) → List X
standing_in slots = flat_map those_of slots

-- A connection's number is the count of connections before it. numbers holds for each slot the number of the
-- last connection that came into it. Here n is that of slot p.
unfoldable pub number_of : ℕ → ℕ → (ℕ → ℕ) → ℕ → ℕ
number_of p n numbers q = cond (nat_eq q p) n (numbers q)

-- the numbers of the slots after these changes; n: the count of connections before the changes
abbrev pub numbers_after : {R W : Type 0} {remaining : R → Option (List ℕ)} {contents : W → Option (List ℕ)} {old new : List (Option (Seat R W))} {came gone : List (Seat R W)}
    → Changes remaining contents old new came gone → ℕ → (ℕ → ℕ) → ℕ → ℕ
numbers_after same n numbers = numbers
numbers_after (comes now came gone p new before within free is) n numbers = number_of p (n + length came) (numbers_after before n numbers)
numbers_after (gathers now came gone p seat new before within at is_open gathered) n numbers = numbers_after before n numbers
numbers_after (sends now came gone p seat new before within at sent) n numbers = numbers_after before n numbers
numbers_after (goes now came gone p seat before within at) n numbers = numbers_after before n numbers

-- A turn that was given: the number of its connection, and how many bytes may be read in it, without end if there
-- is no number.
pub record GivenTurn : Type 0 where
  pub whose : ℕ
  pub most : Option ℕ

-- the turn that is due, if any
abbrev pub turn_given : (ℕ → ℕ) → Option Due → List GivenTurn
turn_given numbers None = []
turn_given numbers (Some due) = record { whose = numbers due.index; most = due.most } ∷ []

-- each connection in the slots is one of the first n that came
abbrev pub AreAmong : {X : Type 0} → (ℕ → ℕ) → ℕ → List (Option X) → Type 0
AreAmong {X} numbers n slots = (p : ℕ) (x : X) → slot_at slots p ≡ Some x → numbers p < n

-- The same changes around a crowd, and the turn that is then due. met: the connections that came and went so
-- far; gave: the numbers of the slots, and the turns given so far.
abbrev pub ChangesBy : {G R W : Type 0} → (R → Option (List ℕ)) → (W → Option (List ℕ)) → (G → List (Seat R W) → List (Seat R W) → Type 0) → (G → (ℕ → ℕ) → List GivenTurn → Type 0)
    → G → G → List (Option (Seat R W)) → List (Option (Seat R W)) → Option Due → Type 0
ChangesBy {R = R} {W = W} remaining contents met gave before after old new due =
    (came gone : List (Seat R W)) → met before came gone
    → (more went : List (Seat R W)) × met after (came ++ more) (gone ++ went) × (changes : Changes remaining contents old new more went)
    × ((numbers : ℕ → ℕ) (given : List GivenTurn) → AreAmong numbers (length came) old → gave before numbers given
    → gave after (numbers_after changes (length came) numbers) (given ++ turn_given (numbers_after changes (length came) numbers) due))

-- Either bytes of the open connection in slot p were read ahead or put back in this way, nothing else was
-- done to it, and the other slots are unchanged. Or there is no open connection: all slots are unchanged, and
-- told holds.
abbrev pub DoneAt : {R W : Type 0} → (R → Option (List ℕ)) → (Seat R W → Seat R W → Type 0) → Type 0 → List (Option (Seat R W)) → List (Option (Seat R W)) → ℕ → Type 0
DoneAt {R} {W} remaining done told old new p =
    ((seat : Seat R W) × (slot_at old p ≡ Some seat) × (seat.end ≡ None)
    × (after : Seat R W) × Gathers remaining seat after × done seat after × (new ≡ slice_set old p (Some after)))
    ⊎ (((seat : Seat R W) → slot_at old p ≡ Some seat → seat.end ≡ None → ⊥) × (new ≡ old) × told)

-- Either bytes that were written to the connection in slot p were sent in this way, nothing else was done to
-- it, and the other slots are unchanged. It may have ended. Or there is no connection: all slots are
-- unchanged, and told holds.
abbrev pub SentAt : {R W : Type 0} → (W → Option (List ℕ)) → (Seat R W → Seat R W → Type 0) → Type 0 → List (Option (Seat R W)) → List (Option (Seat R W)) → ℕ → Type 0
SentAt {R} {W} contents done told old new p =
    ((seat : Seat R W) × (slot_at old p ≡ Some seat)
    × (after : Seat R W) × Sends contents seat after × done seat after × (new ≡ slice_set old p (Some after)))
    ⊎ ((slot_at old p ≡ None) × (new ≡ old) × told)

-- slot p holds an open connection
abbrev pub IsOpenAt : {R W : Type 0} → List (Option (Seat R W)) → ℕ → Type 0
IsOpenAt {R} {W} slots p = (p < length slots) × (seat : Seat R W) × (slot_at slots p ≡ Some seat) × (seat.end ≡ None)
