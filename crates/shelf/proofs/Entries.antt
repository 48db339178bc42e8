-- The cached entries, one by one.
use Rattle.std.proofs.Common.{◌≡◌, ◌≢◌, ◌∙◌, ◌⊎◌, ℕ, true, false, cond, List, [], Option, Some, None, inl, inr, refl, sym, ap, subst}
use Rattle.std.specs.Prelude.{Vec, Result, Ok, Err, IfOk, IfSome, OnOk, OnErr, IsTrue}
use Rattle.std.specs.Result.{result_ok}
use Rattle.std.specs.declared.alloc.Global.{Global}
use Rattle.std.specs.BTreeMap.{BTreeMap, UpdatesBy}
use Rattle.std.specs.BTreeSet.{BTreeSet, UpdatesBy as SetUpdatesBy}
use Rattle.std.specs.List.{list_any}
use Rattle.std.specs.Ordering.{is_eq, eq_by_cmp}
use Rattle.std.specs.Cmp.{tied_itself}
use Rattle.sigtext.specs.Bytes.{bytes_cmp}
use Rattle.boxes.proofs.Lookups.{bytes_total, bytes_same, equal_is, some_none}
use Rattle.shelf.specs.Maps.{found, Sets}
use Rattle.shelf.specs.Shelves.{bytes_of, has_box}
use Rattle.shelf.proofs.MapLemmas.{found-tied, sets_of}
use Rattle.shelf.proofs.LimitLemmas.{has_after}
use Rattle.shelf.specs.declared.cache.CachedBox.{CachedBox}
use Rattle.boxes.specs.declared.totals.Totals.{Totals}
use Rattle.shelf.specs.Recalled.{IsPart, IsPut, Lacks, HasTotals}

unlike : true ≡ false → ⊥
unlike e = cc

-- a name compares equal to itself only
pub tied : (q k : List ℕ) → q ≡ k → eq_by_cmp bytes_cmp q k ≡ true
tied q k same = subst (λ n. is_eq (bytes_cmp q n) ≡ true) same (ap is_eq (tied_itself bytes_total q))

pub apart_from : (q k : List ℕ) → eq_by_cmp bytes_cmp q k ≡ false → q ≢ k
apart_from q k t same = unlike (sym (tied q k same) ∙ t)

-- a property of each old entry and of the new entry holds of each entry afterwards
pub each_set : {X : Type 0} (P : List ℕ → X → Type 0) (es after : List (Vec ℕ Global × X)) (k : List ℕ) (v : X) → Sets bytes_cmp bytes_of k (Some v) es after
    → ((q : List ℕ) (x : X) → found bytes_cmp bytes_of es q ≡ Some x → P q x) → P k v
    → (q : List ℕ) (x : X) → found bytes_cmp bytes_of after q ≡ Some x → P q x
each_set P es after k v sets each here q x e =
    elim (eq_by_cmp bytes_cmp q k) as (λ t. eq_by_cmp bytes_cmp q k ≡ t → cond t (Some v) (found bytes_cmp bytes_of es q) ≡ Some x → P q x) [
      | true ↦ λ t is. let same : v ≡ x = cc in subst (λ n. P n x) (sym (bytes_same q k (equal_is (bytes_cmp q k) t))) (subst (P k) same here)
      | false ↦ λ t is. each q x is
    ] refl (sym (sets.each q) ∙ e)

-- an entry was removed
pub lacks_gone : {X : Type 0} (es after : List (Vec ℕ Global × X)) (k : List ℕ) → Sets bytes_cmp bytes_of k None es after → Lacks k es after
lacks_gone es after k sets q x e =
    elim (eq_by_cmp bytes_cmp q k) as (λ t. eq_by_cmp bytes_cmp q k ≡ t → cond t None (found bytes_cmp bytes_of es q) ≡ Some x → (q ≢ k) × (found bytes_cmp bytes_of es q ≡ Some x)) [
      | true ↦ λ t is. absurd (some_none x (sym is))
      | false ↦ λ t is. (apart_from q k t, is)
    ] refl (sym (sets.each q) ∙ e)

-- the totals of a box were set
pub has_totals : (es after : List (Vec ℕ Global × CachedBox)) (k : List ℕ) (totals : Option Totals) (old : CachedBox) → found bytes_cmp bytes_of es k ≡ Some old
    → Sets bytes_cmp bytes_of k (Some (record old { totals = totals })) es after → HasTotals k totals es after
has_totals es after k totals old there sets q b e =
    let set : CachedBox = record old { totals = totals } in
    elim (eq_by_cmp bytes_cmp q k) as (λ t. eq_by_cmp bytes_cmp q k ≡ t → cond t (Some set) (found bytes_cmp bytes_of es q) ≡ Some b
    → (was : CachedBox) × (found bytes_cmp bytes_of es q ≡ Some was) × (b.row ≡ was.row) × (((q ≢ k) × (b.totals ≡ was.totals)) ⊎ ((q ≡ k) × (b.totals ≡ totals)))) [
      | true ↦ λ t is. let same : set ≡ b = cc in (old, found-tied bytes_cmp bytes_of bytes_total es q k t ∙ there, ap (λ (x : CachedBox). x.row) (sym same), inr (bytes_same q k (equal_is (bytes_cmp q k) t), ap (λ (x : CachedBox). x.totals) (sym same)))
      | false ↦ λ t is. (b, is, refl, inl (apart_from q k t, refl))
    ] refl (sym (sets.each q) ∙ e)

-- there was no such box
pub no_totals : (es : List (Vec ℕ Global × CachedBox)) (k : List ℕ) (totals : Option Totals) → found bytes_cmp bytes_of es k ≡ None → HasTotals k totals es es
no_totals es k totals none q b e = (b, e, refl, inl (λ same. some_none b (sym e ∙ ap (found bytes_cmp bytes_of es) same ∙ none), refl))

-- nothing is there
pub none_there : {X : Type 0} (es after : List (Vec ℕ Global × X)) → after ≡ [] → IsPart es after
none_there es after empty q x e = absurd (some_none x (sym e ∙ ap (λ l. found bytes_cmp bytes_of l q) empty))

-- a copy of the present value
pub copied : {X Y E : Type 0} (r : Result X E) (o : Option X) (f : X → Y) (y : Y) (m : Option Y) → o ≡ result_ok r → IfOk r (λ k. f k ≡ y) → m ≡ Some y → IfSome o (λ k. m ≡ Some (f k))
copied (Ok x) o f y m is e there = subst (λ p. IfSome p (λ k. m ≡ Some (f k))) (sym is) (there ∙ ap (λ z. Some z) (sym e))
copied (Err x) o f y m is e there = subst (λ p. IfSome p (λ k. m ≡ Some (f k))) (sym is) tt

-- an entry was inserted, or there was no memory
pub put_there : {X A E : Type 0} (r : Result A E) (m n : BTreeMap (Vec ℕ Global) X) (k : Vec ℕ Global) (v : X) → OnOk r (UpdatesBy (λ x y. bytes_cmp (bytes_of x) (bytes_of y)) (λ x. bytes_cmp (bytes_of k) (bytes_of x)) m n (Some v))
    → OnErr r (n.entries ≡ m.entries) → IsPut k.items v m.entries n.entries
put_there (Ok a) m n k v updates stays q x e =
    each_set (λ p z. ((p ≡ k.items) × (z ≡ v)) ⊎ (found bytes_cmp bytes_of m.entries p ≡ Some z)) m.entries n.entries k.items v (sets_of bytes_cmp bytes_of bytes_total m n k.items (Some v) updates) (λ p z is. inr is) (inl (refl, refl)) q x e
put_there (Err a) m n k v updates stays q x e = inr (ap (λ l. found bytes_cmp bytes_of l q) (sym stays) ∙ e)

-- the same for a set
pub use_there : {A E : Type 0} (r : Result A E) (s n : BTreeSet (Vec ℕ Global)) (name : Vec ℕ Global) → OnOk r (SetUpdatesBy (λ x y. bytes_cmp (bytes_of x) (bytes_of y)) (λ x. bytes_cmp (bytes_of name) (bytes_of x)) s n true)
    → OnErr r (n.keys ≡ s.keys) → (q : List ℕ) → IsTrue (has_box n q) → IsTrue (has_box s q) ⊎ (q ≡ name.items)
use_there (Ok a) s n name updates stays q has =
    elim (eq_by_cmp bytes_cmp q name.items) as (λ t. eq_by_cmp bytes_cmp q name.items ≡ t → cond t true (has_box s q) ≡ true → IsTrue (has_box s q) ⊎ (q ≡ name.items)) [
      | true ↦ λ t is. inr (bytes_same q name.items (equal_is (bytes_cmp q name.items) t))
      | false ↦ λ t is. inl is
    ] refl (sym (has_after s n name.items updates q) ∙ has)
use_there (Err a) s n name updates stays q has = inl (ap (list_any (λ x. is_eq (bytes_cmp q (bytes_of x)))) (sym stays) ∙ has)

-- a property of each old element and of the new one
pub new_entry : {X : Type 0} (P : List ℕ → X → Type 0) (name : List ℕ) (new : X) (es after : List (Vec ℕ Global × X)) → IsPut name new es after
    → ((q : List ℕ) (x : X) → found bytes_cmp bytes_of es q ≡ Some x → P q x) → P name new → (q : List ℕ) (x : X) → found bytes_cmp bytes_of after q ≡ Some x → P q x
new_entry P name new es after put each here q x e = elim (put q x e) [
  | inl same ↦ subst (λ n. P n x) (sym same.0) (subst (P name) (sym same.1) here)
  | inr was ↦ each q x was
]

-- an empty set has no box
pub none_of : (s : BTreeSet (Vec ℕ Global)) (box : List ℕ) → s.keys ≡ [] → IsTrue (has_box s box) → ⊥
none_of s box empty has = let e : false ≡ true = sym (ap (list_any (λ x. is_eq (bytes_cmp box (bytes_of x)))) empty) ∙ has in cc
