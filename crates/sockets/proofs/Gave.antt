-- The turns that were given so far, and one more.
use Rattle.std.proofs.Common.{◌≡◌, ◌<◌, ◌≤◌, ◌+◌, ◌++◌, ℕ, List, [], ◌∷◌, Option, length, sym, subst, arith}
use Rattle.std.specs.List.{AllByRecursion}
use Rattle.std.proofs.lemmas.List.{append-nil, length_push}
use Rattle.wire.specs.Crowds.{AreAmong, Changes, GivenTurn, IsOpenAt, numbers_after}
use Rattle.wire.specs.declared.seat.Seat.{Seat}
use Rattle.wire.proofs.Changing.{among_after}
use Rattle.sockets.specs.Accepting.{HasGiven}

all_below : (n m : ℕ) (given : List GivenTurn) → n ≤ m → AllByRecursion (λ t. t.whose < n) given → AllByRecursion (λ t. t.whose < m) given
all_below n m [] le h = tt
all_below n m (t ∷ given) le h = (omega (arith, h.0, le), all_below n m given le h.1)

one_below : (n : ℕ) (t : GivenTurn) (given : List GivenTurn) → t.whose < n → AllByRecursion (λ u. u.whose < n) given → AllByRecursion (λ u. u.whose < n) (given ++ t ∷ [])
one_below n t [] lt h = (lt, tt)
one_below n t (u ∷ given) lt h = (h.0, one_below n t given lt h.1)

-- no turn was given
pub gave_none : (came turns : ℕ) → turns ≡ 18446744073709551615 → HasGiven came turns []
gave_none came turns all = record { counted = omega (arith, all); theirs = tt }

-- connections may have come
pub gave_still : (came came' turns turns' : ℕ) (given : List GivenTurn) → came ≤ came' → turns' ≡ turns → HasGiven came turns given → HasGiven came' turns' (given ++ [])
gave_still came came' turns turns' given le same h =
    subst (HasGiven came' turns') (sym (append-nil given)) (record { counted = omega (arith, h.counted, same); theirs = all_below came came' given le h.theirs })

module _ {R W : Type 0} (remaining : R → Option (List ℕ)) (contents : W → Option (List ℕ)) where
  -- an open connection is given a turn
  pub gave_one : (a b : List (Option (Seat R W))) (came gone : List (Seat R W)) (n : ℕ) (numbers : ℕ → ℕ) (x : Changes remaining contents a b came gone) (p before after turns turns' : ℕ) (most : Option ℕ) (given : List GivenTurn)
      → AreAmong numbers n a → IsOpenAt b p → before ≡ n → after ≡ before + length came → turns ≡ turns' + 1 → HasGiven before turns given
      → HasGiven after turns' (given ++ record { whose = numbers_after x n numbers p; most = most } ∷ [])
  gave_one a b came gone n numbers x p before after turns turns' most given among due is more less h = record {
    counted = omega (arith, h.counted, less, length_push given (record { whose = numbers_after x n numbers p; most = most }));
    theirs =
        let one = among_after remaining contents a b came gone n numbers x among p due.1 due.2 in
        one_below after (record { whose = numbers_after x n numbers p; most = most }) given (omega (arith, one, is, more)) (all_below before after given (omega (arith, more)) h.theirs);
  }
