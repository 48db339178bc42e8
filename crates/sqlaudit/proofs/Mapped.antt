-- A finite map in which each value is replaced by one computed from its key and itself.
use Rattle.std.proofs.Common.{◌≡◌, Bool, true, false, List, [], ◌∷◌, map, Some, option_map, refl, sym, ap, subst, ◌∙◌, T}
use Rattle.std.specs.declared.cmp.Ordering.{Ordering}
use Rattle.std.specs.declared.cmp.Ordering.TheVariants.{Less, Equal, Greater}
use Rattle.std.specs.Prelude.{cond, ◌&&◌}
use Rattle.std.specs.Ordering.{is_lt, is_eq, eq_by_cmp}
use Rattle.std.specs.FinMap.{FinMap, IsAntisymmetric, get, get-entries, entries, entries_sorted, from_sorted, entries-from_sorted, find, is_sorted}
use Rattle.std.specs.FinMap.Entries.{below_all}

is_equal : (r : Ordering) → is_eq r ≡ true → r ≡ Equal
is_equal Less p = cc
is_equal Equal p = refl
is_equal Greater p = cc

module _ {K V W : Type 0} (R : K → K → Ordering) (f : K → V → W) where
  abbrev pub with_values : List (K × V) → List (K × W)
  with_values = map (λ e. (e.0, f e.0 e.1))

  below_same : (x : K) (es : List (K × V)) → below_all R x (with_values es) ≡ below_all R x es
  below_same x [] = refl
  below_same x (e ∷ es) = ap (λ b. is_lt (R x e.0) && b) (below_same x es)

  sorted_same : (es : List (K × V)) → is_sorted R (with_values es) ≡ is_sorted R es
  sorted_same [] = refl
  sorted_same (e ∷ es) = λ i. below_same e.0 es i && sorted_same es i

  pub mapped : FinMap R V → FinMap R W
  mapped m = from_sorted (with_values (entries m))

  pub entries_mapped : (m : FinMap R V) → entries (mapped m) ≡ with_values (entries m)
  unfolding mapped
  entries_mapped m = entries-from_sorted R (with_values (entries m)) (subst T (sym (sorted_same (entries m))) (entries_sorted m))

  find_mapped : IsAntisymmetric R → (q : K) (es : List (K × V)) → find R q (with_values es) ≡ option_map (f q) (find R q es)
  find_mapped same q [] = refl
  find_mapped same q (e ∷ es) = go (eq_by_cmp R q e.0) refl (find_mapped same q es)
    where
      go : (b : Bool) → eq_by_cmp R q e.0 ≡ b → find R q (with_values es) ≡ option_map (f q) (find R q es)
          → cond b (Some (f e.0 e.1)) (find R q (with_values es)) ≡ option_map (f q) (cond b (Some e.1) (find R q es))
      go true is later = ap (λ k. Some (f k e.1)) (sym (same q e.0 (is_equal (R q e.0) is)))
      go false is later = later

  pub get_mapped : IsAntisymmetric R → (m : FinMap R V) (q : K) → get (mapped m) q ≡ option_map (f q) (get m q)
  get_mapped same m q = get-entries (mapped m) q ∙ ap (find R q) (entries_mapped m) ∙ find_mapped same q (entries m) ∙ ap (option_map (f q)) (sym (get-entries m q))
