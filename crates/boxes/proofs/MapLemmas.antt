-- The ordered maps of the code, and the finite maps that they mean.
use Rattle.std.proofs.Common.{◌≡◌, ◌∙◌, Bool, true, false, List, [], ◌∷◌, cond, Option, Some, None, refl, sym, ap}
use Rattle.std.specs.Prelude.{option_map, IsNone}
use Rattle.std.specs.declared.cmp.Ordering.{Ordering}
use Rattle.std.specs.Ordering.{is_eq, eq_by_cmp}
use Rattle.std.specs.FinMap.{FinMap, insert, remove, empty, get-empty, get-insert, get-remove}
use Rattle.std.specs.Cmp.{IsTotalOrder, alike_right}
use Rattle.std.specs.BTreeMap.{BTreeMap, UpdatesBy}
use Rattle.std.specs.Map.{IsKeyTest, AreApart, KeepsOthers}
use Rattle.boxes.proofs.Lookups.{equal_is}
use Rattle.boxes.specs.Maps.{found, MapMeans, Sets}

option_map_cond : {X Y : Type 0} (g : X → Y) (b : Bool) (w o : Option X) → option_map g (cond b w o) ≡ cond b (option_map g w) (option_map g o)
option_map_cond g true w o = refl
option_map_cond g false w o = refl

pub not_found : {X Y : Type 0} (g : X → Y) (o : Option X) → option_map g o ≡ None → o ≡ None
not_found g None e = refl
not_found g (Some x) e = absurd cc

-- a value whose meaning is present is present itself
pub some_of : {X Y : Type 0} (g : X → Y) (o : Option X) (y : Y) → option_map g o ≡ Some y → (x : X) × (o ≡ Some x) × (g x ≡ y)
some_of g None y e = absurd cc
some_of g (Some x) y e = (x, refl, cc)

module _ {K K' : Type 0} (R : K' → K' → Ordering) (f : K → K') (o : IsTotalOrder R) where
  pub key_test : (q : K') → IsKeyTest (eq_by_cmp (λ x y. R (f x) (f y))) (λ k. is_eq (R q (f k)))
  key_test q x y e = ap is_eq (o.congr q (f x) (f y) (equal_is (R q (f x)) e))

  pub apart : (q n : K') → eq_by_cmp R q n ≡ false → AreApart (λ (k : K). is_eq (R n (f k))) (λ k. is_eq (R q (f k)))
  apart q n t k e = ap is_eq (sym (alike_right o n (f k) q (equal_is (R n (f k)) e))) ∙ t

module _ {K K' X : Type 0} (R : K' → K' → Ordering) (f : K → K') (o : IsTotalOrder R) where
  pub found-tied : (es : List (K × X)) (q n : K') → eq_by_cmp R q n ≡ true → found R f es q ≡ found R f es n
  found-tied [] q n t = refl
  found-tied (x ∷ es) q n t = λ i. cond (is_eq (o.congr q n (f x.0) (equal_is (R q n) t) i)) (Some x.1) (found-tied es q n t i)

  -- what an edit of the map sets
  pub sets_of : (m n : BTreeMap K X) (k : K') (w : Option X) → UpdatesBy (λ x y. R (f x) (f y)) (λ x. R k (f x)) m n w → Sets R f k w m.entries n.entries
  unfolding KeepsOthers
  sets_of m n k w u = record {
    each = λ q.
        elim (eq_by_cmp R q k) as (λ t. eq_by_cmp R q k ≡ t → found R f n.entries q ≡ cond t w (found R f m.entries q)) [
          | true ↦ λ t. found-tied n.entries q k t ∙ u.1
          | false ↦ λ t. u.3 (λ x. is_eq (R q (f x))) (key_test R f o q) (apart R f o q k t)
        ] refl;
  }

  module _ {Y : Type 0} (g : X → Y) where
    pub means-set : (es after : List (K × X)) (m : FinMap R Y) (k : K') (v : X) → MapMeans R f g es m → Sets R f k (Some v) es after → MapMeans R f g after (insert m k (g v))
    means-set es after m k v h s = record {
      each = λ q. get-insert o m k (g v) q ∙ ap (cond (eq_by_cmp R q k) (Some (g v))) (h.each q)
          ∙ sym (option_map_cond g (eq_by_cmp R q k) (Some v) (found R f es q)) ∙ ap (option_map g) (sym (s.each q));
    }

    pub means-gone : (es after : List (K × X)) (m : FinMap R Y) (k : K') → MapMeans R f g es m → Sets R f k None es after → MapMeans R f g after (remove m k)
    means-gone es after m k h s = record {
      each = λ q. get-remove o m k q ∙ ap (cond (eq_by_cmp R q k) None) (h.each q)
          ∙ sym (option_map_cond g (eq_by_cmp R q k) None (found R f es q)) ∙ ap (option_map g) (sym (s.each q));
    }

    -- a value that means the same
    pub means-same : (es after : List (K × X)) (m : FinMap R Y) (k : K') (v w : X) → MapMeans R f g es m → found R f es k ≡ Some v → g w ≡ g v → Sets R f k (Some w) es after → MapMeans R f g after m
    means-same es after m k v w h there same s = record {
      each = λ q. h.each q ∙
          elim (eq_by_cmp R q k) as (λ t. eq_by_cmp R q k ≡ t → option_map g (found R f es q) ≡ option_map g (cond t (Some w) (found R f es q))) [
            | true ↦ λ t. ap (option_map g) (found-tied es q k t ∙ there) ∙ ap (λ y. Some y) (sym same)
            | false ↦ λ t. refl
          ] refl ∙ ap (option_map g) (sym (s.each q));
    }

    pub means-empty : MapMeans R f g [] empty
    means-empty = record { each = λ q. get-empty R q }

pub is_none_is : {X : Type 0} (o : Option X) → IsNone o → o ≡ None
is_none_is None h = refl
is_none_is (Some x) h = absurd (some_is x h)
  where
    some_is : {X : Type 0} (x : X) → IsNone (Some x) → ⊥
    some_is x h = cc
