-- The promise of a service, for equal slots and an equal bound.
use Rattle.std.proofs.Common.{◌≡◌, ◌++◌, ℕ, suc, zero, List, [], ◌∷◌, Option, ap, length, refl, subst, take, arith}
use Rattle.boxes.specs.declared.keep.Keeper.{Ghosts}
use Rattle.wire.specs.declared.seat.Seat.{Seat}
use Rattle.wire.specs.declared.gathered.Gathered.{Gathered}
use Rattle.wire.specs.declared.outbox.Outbox.{Outbox}
use Rattle.commands.specs.Rounds.{ServesMany}
use Rattle.sockets.specs.Listening.{Event}
use Rattle.commands.specs.declared.rounds.Outcome.{Outcome}

-- the first items are all of the first list
pub take_first : {X : Type 0} (xs ys : List X) (n : ℕ) → length xs ≡ n → take n (xs ++ ys) ≡ xs
take_first [] ys zero is = refl
take_first [] ys (suc n) is = absurd (omega (arith, is))
take_first (x ∷ xs) ys zero is = absurd (omega (arith, is))
take_first (x ∷ xs) ys (suc n) is = ap (λ l. x ∷ l) (take_first xs ys n (omega (arith, is)))

pub serves_so : {C K S E : Type 0} {gives : C → ℕ → C → Type 0} {told told' : List (Event S E) → Type 0} {are_ends : S → E → E → Type 0}
    {remaining : Gathered E → Option (List ℕ)} {contents : Outbox E → Option (List ℕ)} {clock clock' : C} {k : Ghosts K} {keeper keeper' : K} {connections : ℕ} {outcome : Outcome}
    (most bound : ℕ) (slots others : List (Option (Seat (Gathered E) (Outbox E)))) → most ≡ bound → slots ≡ others
    → ServesMany gives told told' are_ends remaining contents clock clock' k keeper keeper' connections most slots outcome
    → ServesMany gives told told' are_ends remaining contents clock clock' k keeper keeper' connections bound others outcome
serves_so {gives = gives} {told = told} {told' = told'} {are_ends = are_ends} {remaining = remaining} {contents = contents} {clock = clock} {clock' = clock'} {k = k} {keeper = keeper} {keeper' = keeper'} {connections = connections} {outcome = outcome} most bound slots others m s x =
    subst (λ n. ServesMany gives told told' are_ends remaining contents clock clock' k keeper keeper' connections n others outcome) m
    (subst (λ l. ServesMany gives told told' are_ends remaining contents clock clock' k keeper keeper' connections most l outcome) s x)
