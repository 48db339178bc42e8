-- The connections in slots, and their places among all that came.
use Rattle.std.proofs.Common.{⊎_elim, ◌≡◌, ◌<◌, ◌+◌, ℕ, zero, suc, true, false, cond, List, [], ◌∷◌, ◌++◌, length, set, Option, Some, None, refl, sym, ap, ◌∙◌, arith}
use Rattle.std.specs.Prelude.{nat_eq, slice_get}
use Rattle.std.specs.List.{AllByRecursion}
use Rattle.std.proofs.lemmas.Bool.{cases_eq}
use Rattle.std.proofs.lemmas.List.{get_or-set_other, get_or-set_same}
use Rattle.wire.specs.Crowds.{number_of, slot_at}

-- ---- numbers

pub number_here : (p n : ℕ) (number : ℕ → ℕ) (q : ℕ) → q ≡ p → number_of p n number q ≡ n
unfolding number_of
number_here p n number q e = let is : nat_eq q p ≡ true = grind (arith, e) in ap (λ b. cond b n (number q)) is

pub number_there : (p n : ℕ) (number : ℕ → ℕ) (q : ℕ) → (q ≡ p → ⊥) → number_of p n number q ≡ number q
unfolding number_of
number_there p n number q ne = let not : nat_eq q p ≡ false = grind (arith, ne) in ap (λ b. cond b n (number q)) not

-- ---- items of a list

pub some_is : {X : Type 0} (a b : X) → Some a ≡ Some b → a ≡ b
some_is a b e = cc

pub none_is : {X : Type 0} (b : X) → None ≡ Some b → ⊥
none_is b e = cc

module _ {X : Type 0} where
  got_within : (l : List X) (i : ℕ) (x : X) → slice_get l i ≡ Some x → i < length l
  got_within [] i x is = absurd (none_is x is)
  got_within (y ∷ l) zero x is = omega arith
  got_within (y ∷ l) (suc i) x is = let rest = got_within l i x is in omega (arith, rest)

  got_set : (l : List X) (i j : ℕ) (a : X) → j ≡ i → i < length l → slice_get (set l i a) j ≡ Some a
  got_set l i j a e lt = ap (slice_get (set l i a)) e ∙ here l i lt
    where
      here : (l : List X) (i : ℕ) → i < length l → slice_get (set l i a) i ≡ Some a
      here [] i lt = absurd (omega (arith, lt))
      here (x ∷ l) zero lt = refl
      here (x ∷ l) (suc i) lt = here l i (omega (arith, lt))

  got_other : (l : List X) (i j : ℕ) (a : X) → (j ≡ i → ⊥) → slice_get (set l i a) j ≡ slice_get l j
  got_other [] i j a ne = refl
  got_other (x ∷ l) zero zero a ne = absurd (ne refl)
  got_other (x ∷ l) zero (suc j) a ne = refl
  got_other (x ∷ l) (suc i) zero a ne = refl
  got_other (x ∷ l) (suc i) (suc j) a ne = got_other l i j a (λ e. ne (ap suc e))

  got_left : (l l' : List X) (i : ℕ) → i < length l → slice_get (l ++ l') i ≡ slice_get l i
  got_left [] l' i lt = absurd (omega (arith, lt))
  got_left (x ∷ l) l' zero lt = refl
  got_left (x ∷ l) l' (suc i) lt = got_left l l' i (omega (arith, lt))

  got_last : (l : List X) (x : X) (i : ℕ) → i ≡ length l → slice_get (l ++ x ∷ []) i ≡ Some x
  got_last l x i e = ap (slice_get (l ++ x ∷ [])) e ∙ last l
    where
      last : (l : List X) → slice_get (l ++ x ∷ []) (length l) ≡ Some x
      last [] = refl
      last (y ∷ l) = last l

  pub all_more : (P : X → Type 0) (xs : List X) (x : X) → AllByRecursion P xs → P x → AllByRecursion P (xs ++ x ∷ [])
  all_more P [] x h new = (new, tt)
  all_more P (y ∷ xs) x h new = (h.0, all_more P xs x h.1 new)

  -- ---- the ties

  -- The connection in each slot is the one with the slot's number, and no two slots have the same number.
  pub record Ties (slots : List (Option X)) (number : ℕ → ℕ) (all : List X) : Type 0 where
    pub each : (p : ℕ) (x : X) → slot_at slots p ≡ Some x → slice_get all (number p) ≡ Some x
    pub apart : (p q : ℕ) (a b : X) → slot_at slots p ≡ Some a → slot_at slots q ≡ Some b → number p ≡ number q → p ≡ q

  -- the connection in each slot has the slot's number; its index in the list is less by the count of those
  -- before
  abbrev pub AreNumbered : List (Option X) → (ℕ → ℕ) → ℕ → (ℕ → ℕ) → Type 0
  AreNumbered slots numbers first number = (p : ℕ) (x : X) → slot_at slots p ≡ Some x → numbers p ≡ first + number p

  module _ (slots : List (Option X)) (number : ℕ → ℕ) (all : List X) (t : Ties slots number all) (p : ℕ) (lt : p < length slots) where
    here : (v : Option X) (q : ℕ) → q ≡ p → slot_at (set slots p v) q ≡ v
    here v q e = ap (slot_at (set slots p v)) e ∙ get_or-set_same slots p v None lt

    there : (v : Option X) (q : ℕ) → (q ≡ p → ⊥) → slot_at (set slots p v) q ≡ slot_at slots q
    there v q ne = get_or-set_other slots p q v None ne

    -- another takes the place of the connection there
    module _ (old new : X) (at : slot_at slots p ≡ Some old) where
      had : (q : ℕ) (a : X) → slot_at (set slots p (Some new)) q ≡ Some a → (b : X) × (slot_at slots q ≡ Some b)
      had q a now = ⊎_elim (λ (e : q ≡ p). (old, ap (slot_at slots) e ∙ at)) (λ (ne : q ≡ p → ⊥). (a, sym (there (Some new) q ne) ∙ now)) (cases_eq q p)

      fits : number p < length all
      fits = got_within all (number p) old (t.each p old at)

      each_set : (q : ℕ) (a : X) → slot_at (set slots p (Some new)) q ≡ Some a → slice_get (set all (number p) new) (number q) ≡ Some a
      each_set q a now =
          ⊎_elim
          (λ (e : q ≡ p). got_set all (number p) (number q) new (ap number e) fits ∙ sym (here (Some new) q e) ∙ now)
          (λ (ne : q ≡ p → ⊥).
          let was = sym (there (Some new) q ne) ∙ now in
          got_other all (number p) (number q) new (λ e. ne (t.apart q p a old was at e)) ∙ t.each q a was)
          (cases_eq q p)

      pub ties_set : Ties (set slots p (Some new)) number (set all (number p) new)
      ties_set = record {
        each = each_set;
        apart = λ q r a b at_q at_r same. let x = had q a at_q in let z = had r b at_r in t.apart q r x.0 z.0 x.1 z.1 same;
      }

      pub numbered_set : (numbers : ℕ → ℕ) (first : ℕ) → AreNumbered slots numbers first number → AreNumbered (set slots p (Some new)) numbers first number
      numbered_set numbers first h = λ q a now. let was = had q a now in h q was.0 was.1

    -- one more connection comes there
    module _ (new : X) where
      each_comes : (q : ℕ) (a : X) → slot_at (set slots p (Some new)) q ≡ Some a → slice_get (all ++ new ∷ []) (number_of p (length all) number q) ≡ Some a
      each_comes q a now =
          ⊎_elim
          (λ (e : q ≡ p). got_last all new (number_of p (length all) number q) (number_here p (length all) number q e) ∙ sym (here (Some new) q e) ∙ now)
          (λ (ne : q ≡ p → ⊥).
          let one = t.each q a (sym (there (Some new) q ne) ∙ now) in
          ap (slice_get (all ++ new ∷ [])) (number_there p (length all) number q ne) ∙ got_left all (new ∷ []) (number q) (got_within all (number q) a one) ∙ one)
          (cases_eq q p)

      apart_comes : (q r : ℕ) (a b : X) → slot_at (set slots p (Some new)) q ≡ Some a → slot_at (set slots p (Some new)) r ≡ Some b
          → number_of p (length all) number q ≡ number_of p (length all) number r → q ≡ r
      apart_comes q r a b at_q at_r same =
          ⊎_elim
          (λ (e : q ≡ p). ⊎_elim (λ (f : r ≡ p). e ∙ sym f)
          (λ (ne : r ≡ p → ⊥).
          let one = got_within all (number r) b (t.each r b (sym (there (Some new) r ne) ∙ at_r)) in
          absurd (omega (arith, number_here p (length all) number q e, number_there p (length all) number r ne, same, one)))
          (cases_eq r p))
          (λ (ne : q ≡ p → ⊥).
          let was = sym (there (Some new) q ne) ∙ at_q in
          let one = got_within all (number q) a (t.each q a was) in
          ⊎_elim
          (λ (f : r ≡ p). absurd (omega (arith, number_there p (length all) number q ne, number_here p (length all) number r f, same, one)))
          (λ (nf : r ≡ p → ⊥).
          t.apart q r a b was (sym (there (Some new) r nf) ∙ at_r) (sym (number_there p (length all) number q ne) ∙ same ∙ number_there p (length all) number r nf))
          (cases_eq r p))
          (cases_eq q p)

      pub ties_comes : Ties (set slots p (Some new)) (number_of p (length all) number) (all ++ new ∷ [])
      ties_comes = record {
        each = each_comes;
        apart = apart_comes;
      }

      pub numbered_comes : (numbers : ℕ → ℕ) (first n : ℕ) → n ≡ first + length all → AreNumbered slots numbers first number
          → AreNumbered (set slots p (Some new)) (number_of p n numbers) first (number_of p (length all) number)
      numbered_comes numbers first n is h = λ q a now.
          ⊎_elim
          (λ (e : q ≡ p). omega (arith, number_here p n numbers q e, number_here p (length all) number q e, is))
          (λ (ne : q ≡ p → ⊥).
          let was = h q a (sym (there (Some new) q ne) ∙ now) in
          omega (arith, number_there p n numbers q ne, number_there p (length all) number q ne, was))
          (cases_eq q p)

    -- the connection there goes
    apart_from : (q : ℕ) (a : X) → slot_at (set slots p None) q ≡ Some a → q ≡ p → ⊥
    apart_from q a now e = none_is a (sym (here None q e) ∙ now)

    was_there : (q : ℕ) (a : X) → slot_at (set slots p None) q ≡ Some a → slot_at slots q ≡ Some a
    was_there q a now = sym (there None q (apart_from q a now)) ∙ now

    pub ties_goes : Ties (set slots p None) number all
    ties_goes = record {
      each = λ q a now. t.each q a (was_there q a now);
      apart = λ q r a b at_q at_r same. t.apart q r a b (was_there q a at_q) (was_there r b at_r) same;
    }

    pub numbered_goes : (numbers : ℕ → ℕ) (first : ℕ) → AreNumbered slots numbers first number → AreNumbered (set slots p None) numbers first number
    numbered_goes numbers first h = λ q a now. h q a (was_there q a now)

  -- ---- the ends

  -- no connection is in a slot, and none came
  pub ties_none : (slots : List (Option X)) → ((p : ℕ) → slot_at slots p ≡ None) → Ties slots (λ p. p) []
  ties_none slots free = record {
    each = λ p x at. absurd (none_is x (sym (free p) ∙ at));
    apart = λ p q a b at_p at_q same. same;
  }

  pub numbered_none : (slots : List (Option X)) (numbers : ℕ → ℕ) (first : ℕ) → ((p : ℕ) → slot_at slots p ≡ None) → AreNumbered slots numbers first (λ p. p)
  numbered_none slots numbers first free = λ p x at. absurd (none_is x (sym (free p) ∙ at))
