-- The limits that a shelf keeps.
use Rattle.std.proofs.Common.{◌≡◌, ◌∙◌, ℕ, Bool, true, false, cond, List, [], Option, Some, None, Ok, Err, Less, Equal, Greater, refl, sym, ap}
use Rattle.std.specs.Prelude.{Vec, is_some, option_map, unwrap_or, ◌↔◌, IsTrue, Result, OnErr}
use Rattle.std.specs.declared.alloc.Global.{Global}
use Rattle.std.specs.declared.cmp.Ordering.{Ordering}
use Rattle.std.specs.Ordering.{is_eq, eq_by_cmp, ordering_then}
use Rattle.std.specs.Cmp.{tied_itself}
use Rattle.std.specs.FinMap.{FinMap, get, insert, empty, get-empty, get-insert}
use Rattle.std.specs.BTreeSet.{BTreeSet, UpdatesBy}
use Rattle.std.specs.Set.{KeepsOthers}
use Rattle.sigtext.specs.Bytes.{bytes_cmp}
use Rattle.boxes.specs.State.{Limit, limit_cmp, State}
use Rattle.boxes.specs.Limits.{IsLimitedTo, MayUse}
use Rattle.boxes.proofs.Lookups.{bytes_total, bytes_same, equal_is}
use Rattle.boxes.proofs.LimitedKeys.{limit_total}
use Rattle.shelf.specs.Maps.{found, Sets}
use Rattle.shelf.specs.Shelves.{LimitsMean, bytes_of, has_box, has_limit}
use Rattle.shelf.proofs.MapLemmas.{key_test, apart, found-tied}

not_held : false ≡ true → ⊥
not_held e = cc

-- the boxes of a set after one was added
pub has_after : (s n : BTreeSet (Vec ℕ Global)) (name : List ℕ) → UpdatesBy (λ x y. bytes_cmp (bytes_of x) (bytes_of y)) (λ x. bytes_cmp name (bytes_of x)) s n true
    → (q : List ℕ) → has_box n q ≡ cond (eq_by_cmp bytes_cmp q name) true (has_box s q)
unfolding KeepsOthers
has_after s n name u q =
    elim (eq_by_cmp bytes_cmp q name) as (λ t. eq_by_cmp bytes_cmp q name ≡ t → has_box n q ≡ cond t true (has_box s q)) [
      | true ↦ λ t. ap (has_box n) (bytes_same q name (equal_is (bytes_cmp q name) t)) ∙ u.1
      | false ↦ λ t. u.3 (λ x. is_eq (bytes_cmp q (bytes_of x))) (key_test bytes_cmp bytes_of bytes_total q) (apart bytes_cmp bytes_of bytes_total q name t)
    ] refl

-- limits are compared by key and then by box
tied_both : (a b : Ordering) → is_eq (ordering_then a b) ≡ cond (is_eq a) (is_eq b) false
tied_both Less b = refl
tied_both Equal b = refl
tied_both Greater b = refl

is_some_cond : (b : Bool) (o : Option (Unit {0})) → is_some (cond b (Some tt) o) ≡ cond b true (is_some o)
is_some_cond true o = refl
is_some_cond false o = refl

-- the limits after a box was added to those of a key
pub limits_set : (es after : List (Vec ℕ Global × BTreeSet (Vec ℕ Global))) (m : FinMap limit_cmp (Unit {0})) (key box : List ℕ) (boxes : BTreeSet (Vec ℕ Global)) → LimitsMean es m
    → Sets bytes_cmp bytes_of key (Some boxes) es after
    → ((q : List ℕ) → has_box boxes q ≡ cond (eq_by_cmp bytes_cmp q box) true (has_limit es (record { key = key; box = q })))
    → LimitsMean after (insert m (record { key = key; box = box }) tt)
limits_set es after m key box boxes h sets has = record {
  each = λ l.
      let new : Limit = record { key = key; box = box } in
      get_is l ∙
      elim (eq_by_cmp bytes_cmp l.key key) as (λ t. eq_by_cmp bytes_cmp l.key key ≡ t
      → cond (cond t (eq_by_cmp bytes_cmp l.box box) false) true (is_some (get m l)) ≡ unwrap_or (option_map (λ x. has_box x l.box) (cond t (Some boxes) (found bytes_cmp bytes_of es l.key))) false) [
        | true ↦ λ t. ap (cond (eq_by_cmp bytes_cmp l.box box) true) (h.each l ∙ ap (λ o. unwrap_or (option_map (λ x. has_box x l.box) o) false) (found-tied bytes_cmp bytes_of bytes_total es l.key key t))
            ∙ sym (has l.box)
        | false ↦ λ t. h.each l
      ] refl
      ∙ ap (λ o. unwrap_or (option_map (λ x. has_box x l.box) o) false) (sym (sets.each l.key));
  some = λ q other e.
      elim (eq_by_cmp bytes_cmp q key) as (λ t. cond t (Some boxes) (found bytes_cmp bytes_of es q) ≡ Some other → (b : List ℕ) × IsTrue (has_box other b)) [
        | true ↦ λ is.
            let same : boxes ≡ other = cc in
            (box, ap (λ x. has_box x box) (sym same) ∙ has box ∙ ap (λ r. cond (is_eq r) true (has_limit es (record { key = key; box = box }))) (tied_itself bytes_total box))
        | false ↦ λ is. h.some q other is
      ] (sym (sets.each q) ∙ e);
}
  where
    get_is : (l : Limit) → is_some (get (insert m (record { key = key; box = box }) tt) l) ≡ cond (cond (eq_by_cmp bytes_cmp l.key key) (eq_by_cmp bytes_cmp l.box box) false) true (is_some (get m l))
    get_is l = ap is_some (get-insert limit_total m (record { key = key; box = box }) tt l)
        ∙ is_some_cond (eq_by_cmp limit_cmp l (record { key = key; box = box })) (get m l)
        ∙ ap (λ b. cond b true (is_some (get m l))) (tied_both (bytes_cmp l.key key) (bytes_cmp l.box box))

-- the limits after a key's set was replaced by the same set
pub limits_same : (es after : List (Vec ℕ Global × BTreeSet (Vec ℕ Global))) (m : FinMap limit_cmp (Unit {0})) (key : List ℕ) (boxes : BTreeSet (Vec ℕ Global)) → LimitsMean es m
    → found bytes_cmp bytes_of es key ≡ Some boxes → Sets bytes_cmp bytes_of key (Some boxes) es after → LimitsMean after m
limits_same es after m key boxes h there sets = record {
  each = λ l. h.each l ∙ ap (λ o. unwrap_or (option_map (λ x. has_box x l.box) o) false) (stays l.key);
  some = λ q other e. h.some q other (stays q ∙ e);
}
  where
    stays : (q : List ℕ) → found bytes_cmp bytes_of es q ≡ found bytes_cmp bytes_of after q
    stays q =
        elim (eq_by_cmp bytes_cmp q key) as (λ t. eq_by_cmp bytes_cmp q key ≡ t → found bytes_cmp bytes_of es q ≡ cond t (Some boxes) (found bytes_cmp bytes_of es q)) [
          | true ↦ λ t. found-tied bytes_cmp bytes_of bytes_total es q key t ∙ there
          | false ↦ λ t. refl
        ] refl ∙ sym (sets.each q)

-- no key is limited
pub no_limits : LimitsMean [] empty
no_limits = record {
  each = λ l. ap is_some (get-empty limit_cmp l);
  some = λ key boxes e. absurd cc;
}

module _ (s : State) (es : List (Vec ℕ Global × BTreeSet (Vec ℕ Global))) (h : LimitsMean es s.limits) (id box : List ℕ) where
  -- a set is kept under the key: it has the boxes that the key is limited to
  pub limited_there : (boxes : BTreeSet (Vec ℕ Global)) → found bytes_cmp bytes_of es id ≡ Some boxes → IsTrue (has_box boxes box) ↔ IsLimitedTo s id box
  limited_there boxes there =
      let is = h.each (record { key = id; box = box }) ∙ ap (λ o. unwrap_or (option_map (λ x. has_box x box) o) false) there in
      (λ has. is ∙ has, λ held. sym is ∙ held)

  pub allowed_there : (boxes : BTreeSet (Vec ℕ Global)) → found bytes_cmp bytes_of es id ≡ Some boxes → IsTrue (has_box boxes box) ↔ MayUse s id box
  allowed_there boxes there =
      let is = limited_there boxes there in
      let one = h.some id boxes there in
      let held = h.each (record { key = id; box = one.0 }) ∙ ap (λ o. unwrap_or (option_map (λ x. has_box x one.0) o) false) there ∙ one.1 in
      (λ has limited. is.0 has, λ may. is.1 (may (one.0, held)))

  -- no set is kept under the key: the key is not limited
  pub no_limit : found bytes_cmp bytes_of es id ≡ None → IsLimitedTo s id box → ⊥
  no_limit none held = not_held (sym (ap (λ o. unwrap_or (option_map (λ x. has_box x box) o) false) none) ∙ sym (h.each (record { key = id; box = box })) ∙ held)

pub on_err : {T E : Type 0} (result : Result T E) (P : Type 0) → P → OnErr result P
on_err (Ok x) P p = tt
on_err (Err e) P p = p
