-- How many turns each connection has, and how many moments a turn tells.
use Rattle.std.proofs.Common.{◌≡◌, ◌<◌, ◌≤◌, ◌+◌, ℕ, zero, suc, true, false, cond, List, [], ◌∷◌, ◌++◌, length, get_or, map, set, Option, refl, sym, ap, ◌∙◌, arith}
use Rattle.std.specs.Prelude.{⊤, is_some, nat_eq}
use Rattle.std.specs.List.{AllByRecursion, sum_by}
use Rattle.std.proofs.lemmas.List.{length_push, map_push}
use Rattle.std.proofs.lemmas.List.Sums.{sum_by-cons, sum_by-set, sum_by_push}
use Rattle.wire.specs.Crowds.{GivenTurn}
use Rattle.office.specs.Interleaved.{Turn, turns_by}
use Rattle.office.specs.Seats.{TellsOneMoment}
use Rattle.wire.specs.declared.session.SessionEnd.{SessionEnd}
use Rattle.office.proofs.RunTurns.{less_is_not}
use Rattle.office.proofs.Sitting.{IsFirst, Sitting}
use Rattle.wire.proofs.Ties.{all_more}

abbrev pub over_if : Option SessionEnd → ℕ
over_if e = cond (is_some e) 1 0

abbrev one_by : ℕ → Turn → ℕ
one_by i t = cond (nat_eq t.which i) 1 0

-- how many turns the connection took
abbrev pub took_of : Sitting → ℕ
took_of x = x.served + x.waited + over_if x.end

-- each connection, from number i on, has as many turns as it took
abbrev pub AllTook : List Turn → ℕ → List Sitting → Type 0
AllTook turns i [] = ⊤
AllTook turns i (x ∷ xs) = (turns_by i turns ≡ took_of x) × AllTook turns (suc i) xs

-- the turn as it was given, if no connection came before these
abbrev pub turn_by : Turn → GivenTurn
turn_by t = record { whose = t.which; most = t.most }

-- These are the turns that were given, in this order.
pub record Counts (turns : List Turn) (xs : List Sitting) (whose : List GivenTurn) : Type 0 where
  pub in_order : map turn_by turns ≡ whose
  pub one_moment : AllByRecursion TellsOneMoment turns
  pub each : AllTook turns 0 xs
  pub all : length turns ≡ sum_by took_of xs

-- ---- one more turn

by_more : (i : ℕ) (turns : List Turn) (t : Turn) → turns_by i (turns ++ t ∷ []) ≡ turns_by i turns + one_by i t
by_more i turns t = sum_by_push (one_by i) turns t

by_same : (i : ℕ) (turns : List Turn) (t : Turn) → t.which ≡ i → turns_by i (turns ++ t ∷ []) ≡ turns_by i turns + 1
by_same i turns t is =
    let hits : nat_eq t.which i ≡ true = grind (arith, is) in
    by_more i turns t ∙ ap (λ b. turns_by i turns + cond b 1 0) hits

by_other : (i : ℕ) (turns : List Turn) (t : Turn) → nat_eq t.which i ≡ false → turns_by i (turns ++ t ∷ []) ≡ turns_by i turns
by_other i turns t is =
    let all : turns_by i (turns ++ t ∷ []) ≡ turns_by i turns + 0 = by_more i turns t ∙ ap (λ b. turns_by i turns + cond b 1 0) is in
    omega (arith, all)

others_took : (turns : List Turn) (t : Turn) (i : ℕ) (xs : List Sitting) → t.which < i → AllTook turns i xs → AllTook (turns ++ t ∷ []) i xs
others_took turns t i [] lt h = tt
others_took turns t i (x ∷ xs) lt h = (by_other i turns t (less_is_not t.which i lt) ∙ h.0, others_took turns t (suc i) xs (omega (arith, lt)) h.1)

one_took : (turns : List Turn) (t : Turn) (i p : ℕ) (d new : Sitting) (xs : List Sitting) → t.which ≡ i + p → p < length xs → took_of new ≡ took_of (get_or xs p d) + 1
    → AllTook turns i xs → AllTook (turns ++ t ∷ []) i (set xs p new)
one_took turns t i p d new [] is lt more h = absurd (omega (arith, lt))
one_took turns t i zero d new (x ∷ xs) is lt more h =
    let here : t.which ≡ i = omega (arith, is) in
    (by_same i turns t here ∙ ap (λ n. n + 1) h.0 ∙ sym more, others_took turns t (suc i) xs (omega (arith, here)) h.1)
one_took turns t i (suc p) d new (x ∷ xs) is lt more h =
    let other : nat_eq t.which i ≡ false = grind (arith, is) in
    (by_other i turns t other ∙ h.0, one_took turns t (suc i) p d new xs (omega (arith, is)) (omega (arith, lt)) more h.1)

pub counts_turn : {whose : List GivenTurn} (turns : List Turn) (xs : List Sitting) (t : Turn) (d new : Sitting) → t.which < length xs → TellsOneMoment t → took_of new ≡ took_of (get_or xs t.which d) + 1
    → Counts turns xs whose → Counts (turns ++ t ∷ []) (set xs t.which new) (whose ++ turn_by t ∷ [])
counts_turn turns xs t d new lt one more h = record {
  in_order = map_push turn_by turns t ∙ ap (λ (l : List GivenTurn). l ++ turn_by t ∷ []) h.in_order;
  one_moment = all_more TellsOneMoment turns t h.one_moment one;
  each = one_took turns t 0 t.which d new xs (omega arith) lt more h.each;
  all = let sums = sum_by-set took_of xs t.which new d lt in omega (arith, sums, more, h.all, length_push turns t);
}

-- ---- one connection changes without a turn

still_took : (turns : List Turn) (i p : ℕ) (d new : Sitting) (xs : List Sitting) → p < length xs → took_of new ≡ took_of (get_or xs p d) → AllTook turns i xs → AllTook turns i (set xs p new)
still_took turns i p d new [] lt same h = absurd (omega (arith, lt))
still_took turns i zero d new (x ∷ xs) lt same h = (h.0 ∙ sym same, h.1)
still_took turns i (suc p) d new (x ∷ xs) lt same h = (h.0, still_took turns (suc i) p d new xs (omega (arith, lt)) same h.1)

pub counts_still : {whose : List GivenTurn} (turns : List Turn) (xs : List Sitting) (p : ℕ) (d new : Sitting) → p < length xs → took_of new ≡ took_of (get_or xs p d) → Counts turns xs whose → Counts turns (set xs p new) whose
counts_still turns xs p d new lt same h = record {
  in_order = h.in_order;
  one_moment = h.one_moment;
  each = still_took turns 0 p d new xs lt same h.each;
  all = let sums = sum_by-set took_of xs p new d lt in omega (arith, sums, same, h.all);
}

-- ---- one more connection

first_took : (x : Sitting) → IsFirst x → took_of x ≡ 0
first_took x is =
    let open_still : over_if x.end ≡ 0 = ap over_if is.open_still in
    omega (arith, is.none, is.unwaited, open_still)

none_by : (i n : ℕ) (turns : List Turn) → n ≤ i → AllByRecursion (λ t. t.which < n) turns → turns_by i turns ≡ 0
none_by i n [] le h = refl
none_by i n (t ∷ ts) le h =
    let other : one_by i t ≡ 0 = ap (λ b. cond b 1 0) (less_is_not t.which i (omega (arith, h.0, le))) in
    let all = sum_by-cons (one_by i) t ts in
    omega (arith, all, other, none_by i n ts le h.1)

took_more : (turns : List Turn) (i n : ℕ) (x : Sitting) (ys : List Sitting) → n ≤ i + length ys → AllByRecursion (λ t. t.which < n) turns → took_of x ≡ 0
    → AllTook turns i ys → AllTook turns i (ys ++ x ∷ [])
took_more turns i n x [] le within none h = (none_by i n turns (omega (arith, le)) within ∙ sym none, tt)
took_more turns i n x (y ∷ ys) le within none h = (h.0, took_more turns (suc i) n x ys (omega (arith, le)) within none h.1)

pub counts_more : {whose : List GivenTurn} (turns : List Turn) (xs : List Sitting) (x : Sitting) → AllByRecursion (λ t. t.which < length xs) turns → IsFirst x → Counts turns xs whose → Counts turns (xs ++ x ∷ []) whose
counts_more turns xs x within new h =
    let none = first_took x new in
    record {
      in_order = h.in_order;
      one_moment = h.one_moment;
      each = took_more turns 0 (length xs) x xs (omega arith) within none h.each;
      all = let sums = sum_by_push took_of xs x in omega (arith, sums, none, h.all);
    }
