-- `eq` of two iterators of numbers compares their lists.
use Rattle.std.proofs.Common.{◌≡◌, ℕ, Bool, true, false, ◌&&◌, List, [], ◌∷◌, Option, Some, None, refl, sym, ap, subst, ◌∙◌}
use Rattle.std.specs.Prelude.{nat_eq, MatchOption, IfSome, IsTrue, ◌↔◌}
use Rattle.std.proofs.lemmas.Bool.{false_from_ne_true}
use Rattle.std.proofs.lemmas.Slice.Eq.{bytes_eq-Decides}
use Rattle.std.specs.List.{AllZip}
use Rattle.std.specs.Iterator.{AlwaysYields, YieldsThen, ComparesItemsByEq}
use Rattle.std.proofs.lemmas.Iterator.{YieldsList}
use Rattle.sigtext.specs.Bytes.{same_bytes}

module _ {S T : Type 0} (steps : S → Option ℕ → S → Type 0) (others : T → Option ℕ → T → Type 0) (r : Bool) where
  -- what the last answers say
  abbrev Last : Option ℕ → Option ℕ → Type 0
  Last o p = MatchOption o (MatchOption p (r ≡ true) (λ _. r ≡ false)) (λ x. (r ≡ false) × IfSome p (λ y. nat_eq x y ≡ false))

  at_last : (o p : Option ℕ) (xs ys : List ℕ) (s u : S) (t w : T) → AlwaysYields steps (λ x. x) s xs → AlwaysYields others (λ x. x) t ys → steps s o u → others t p w
      → Last o p → r ≡ same_bytes xs ys
  at_last None p (x ∷ xs) ys s u t w e f a b h = absurd (e.0 u a)
  at_last (Some x) p [] ys s u t w e f a b h = absurd (e x u a)
  at_last o None xs (y ∷ ys) s u t w e f a b h = absurd (f.0 w b)
  at_last o (Some y) xs [] s u t w e f a b h = absurd (f y w b)
  at_last None None [] [] s u t w e f a b h = h
  at_last None (Some y) [] (z ∷ ys) s u t w e f a b h = h
  at_last (Some x) None (z ∷ xs) [] s u t w e f a b h = h.0
  at_last (Some x) (Some y) (x' ∷ xs) (y' ∷ ys) s u t w e f a b h =
      let first : nat_eq x' y' ≡ false = rw ((e.1 x u a).0, (f.1 y w b).0) at h.1 in
      h.0 ∙ sym (ap (λ (t : Bool). t && same_bytes xs ys) first)

  along : (cs bs : List ℕ) (o p : Option ℕ) (xs ys : List ℕ) (s u : S) (t w : T) → AlwaysYields steps (λ x. x) s xs → AlwaysYields others (λ x. x) t ys
      → YieldsThen steps s cs o u → YieldsThen others t bs p w → AllZip (λ x y. nat_eq x y ≡ true) cs bs → Last o p → r ≡ same_bytes xs ys
  along [] [] o p xs ys s u t w e f a b z h = at_last o p xs ys s u t w e f (subst (λ j. steps j o u) (sym a.1) a.2) (subst (λ j. others j p w) (sym b.1) b.2) h
  along [] (y ∷ bs) o p xs ys s u t w e f a b z h = absurd z
  along (x ∷ cs) [] o p xs ys s u t w e f a b z h = absurd z
  along (x ∷ cs) (y ∷ bs) o p [] ys s u t w e f a b z h = absurd (e x a.1.0 a.1.1)
  along (x ∷ cs) (y ∷ bs) o p (x' ∷ xs) [] s u t w e f a b z h = absurd (f y b.1.0 b.1.1)
  along (x ∷ cs) (y ∷ bs) o p (x' ∷ xs) (y' ∷ ys) s u t w e f a b z h =
      let m = e.1 x a.1.0 a.1.1 in
      let n = f.1 y b.1.0 b.1.1 in
      let first : nat_eq x' y' ≡ true = rw (m.0, n.0) at z.0 in
      along cs bs o p xs ys a.1.0 u b.1.0 w m.1 n.1 (a.0, a.1.2, a.2) (b.0, b.1.2, b.2) z.1 h ∙ sym (ap (λ (t : Bool). t && same_bytes xs ys) first)

pub eq_from_yields_list : {S T : Type 0} {steps : S → Option ℕ → S → Type 0} {others : T → Option ℕ → T → Type 0} {s : S} {xs ys : List ℕ} (other : T) (r : Bool)
    → ComparesItemsByEq steps (λ (a b : T). b ≡ a) others s other nat_eq r → YieldsList steps (λ x. x) s xs → YieldsList others (λ x. x) other ys → r ≡ same_bytes xs ys
eq_from_yields_list {steps = steps} {others = others} {s = s} {xs = xs} {ys = ys} other r d e f =
    along steps others r d.1 d.2 d.3 d.4 xs ys s d.5 d.0 d.6 e.runs (subst (λ t. AlwaysYields others (λ x. x) t ys) (sym d.7) f.runs) d.8 d.9 d.10 d.11

-- a test of whether two texts are equal
pub decided : (b : Bool) (x y : List ℕ) → IsTrue b ↔ (x ≡ y) → b ≡ same_bytes x y
decided true x y t = sym ((bytes_eq-Decides x y).1 (t.0 refl))
decided false x y t = sym (false_from_ne_true (same_bytes x y) (λ e. differs (t.1 ((bytes_eq-Decides x y).0 e))))
  where
    differs : false ≡ true → ⊥
    differs e = cc
