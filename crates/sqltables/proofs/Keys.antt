-- Keys that a Boolean test distinguishes, and the maps that change at one of them.
use Rattle.std.proofs.Common.{◌≡◌, inl, inr, ℕ, List, Bool, true, false, Option, None, Some, Ordering, Less, Equal, Greater, refl, sym, ap, ◌∙◌}
use Rattle.std.specs.Prelude.{nat_eq}
use Rattle.std.specs.Ordering.{nat_cmp, eq_by_cmp, is_eq}
use Rattle.std.specs.FinMap.{slice_cmp-IsAntisymmetric, nat_cmp-IsAntisymmetric}
use Rattle.std.specs.Cmp.{unsigned_ties}
use Rattle.std.proofs.lemmas.Cmp.{nat_list_cmp_total, tied_itself}
use Rattle.std.specs.Cmp.Lexicographic.{slice_cmp, lists_ties}
use Rattle.std.proofs.lemmas.Bool.{cases_Bool, and_parts, false_from_ne_true, eqb-true, eq-eqb}
use Rattle.sigtext.specs.Bytes.{same_bytes}
use Rattle.sqltables.specs.Tables.{same_place, same_part, same_limit, put}
use Rattle.sqltables.proofs.Maps.{Adds, Sets}

-- the test is true exactly if both values are the same
pub record Tells {K : Type 0} (same : K → K → Bool) : Type 0 where
  pub only : (a b : K) → same a b ≡ true → a ≡ b
  pub itself : (a : K) → same a a ≡ true

module _ {K : Type 0} {same : K → K → Bool} (tells : Tells same) where
  pub differs : (a b : K) → (a ≡ b → ⊥) → same a b ≡ false
  differs a b apart = false_from_ne_true (same a b) (λ hit. apart (tells.only a b hit))

module _ {K V : Type 0} {same : K → K → Bool} (tells : Tells same) where
  pub adds_put : (f : K → Option V) (k : K) (v : V) → f k ≡ None → Adds f (put same f k v) k v
  adds_put f k v none = record {
    here = rw (tells.itself k);
    still = λ q w some. elim (cases_Bool (same q k)) [
      | inl hit ↦ absurd (let e = sym some ∙ ap f (tells.only q k hit) ∙ none in cc)
      | inr miss ↦ rw (miss, some)
    ];
    either = λ q w h. elim (cases_Bool (same q k)) [
      | inl hit ↦ inl (tells.only q k hit, let e = rw hit at h in cc)
      | inr miss ↦ inr (rw miss at h)
    ];
  }

  pub sets_put : (f : K → Option V) (k : K) (v : V) (change : V → V) → f k ≡ Some v → Sets f (put same f k (change v)) k change
  sets_put f k v change there = record {
    here = λ w some. let e : v ≡ w = let both = sym there ∙ some in cc in rw (tells.itself k, e);
    back = λ w some. (v, there, let e = rw (tells.itself k) at some in cc);
    other = λ q apart. rw (differs tells q k apart);
    decide = λ q. elim (cases_Bool (same q k)) [
      | inl hit ↦ inl (tells.only q k hit)
      | inr miss ↦ inr (λ is. let e = sym miss ∙ ap (λ x. same x k) is ∙ tells.itself k in cc)
    ];
  }

-- ---- the keys of the tables

pub is_equal : (o : Ordering) → is_eq o ≡ true → o ≡ Equal
is_equal Less h = cc
is_equal Equal h = refl
is_equal Greater h = cc

-- SQL's = between texts agrees with the specs' test
pub by_order : (a b : List ℕ) → same_bytes a b ≡ eq_by_cmp (slice_cmp nat_cmp) a b
by_order a b = lists_ties nat_cmp unsigned_ties a b

pub tells_bytes : Tells same_bytes
tells_bytes = record {
  only = λ a b hit. slice_cmp-IsAntisymmetric nat_cmp-IsAntisymmetric a b (is_equal (slice_cmp nat_cmp a b) (sym (by_order a b) ∙ hit));
  itself = λ a. by_order a a ∙ ap is_eq (tied_itself nat_list_cmp_total a);
}

pub tells_places : Tells same_place
tells_places = record {
  only = λ a b hit. let parts = and_parts _ _ hit in let box = tells_bytes.only a.box b.box parts.0 in let name = tells_bytes.only a.name b.name parts.1 in λ i. record { box = box i; name = name i };
  itself = λ a. rw (tells_bytes.itself a.box, tells_bytes.itself a.name);
}

pub tells_parts : Tells same_part
tells_parts = record {
  only = λ a b hit. let parts = and_parts _ _ hit in let place = tells_places.only a.place b.place parts.0 in let at = eqb-true a.at b.at parts.1 in λ i. record { place = place i; at = at i };
  itself = λ a. rw (tells_places.itself a.place, eq-eqb a.at a.at refl);
}

pub tells_limits : Tells same_limit
tells_limits = record {
  only = λ a b hit. let parts = and_parts _ _ hit in let key = tells_bytes.only a.key b.key parts.0 in let box = tells_bytes.only a.box b.box parts.1 in λ i. record { key = key i; box = box i };
  itself = λ a. rw (tells_bytes.itself a.key, tells_bytes.itself a.box);
}

pub tells_numbers : Tells nat_eq
tells_numbers = record { only = λ a b hit. eqb-true a b hit; itself = λ a. eq-eqb a a refl }
