-- Looking up bytes and places in finite maps.
use Rattle.std.proofs.Common.{◌≡◌, ℕ, true, false, cond, List, [], ◌∷◌, Some, None, refl, sym, ap, ◌∙◌, arith, length}
use Rattle.std.specs.FinMap.{FinMap, empty, insert, get, entries, find, put, entries-insert, get-entries, len-entries, len-empty, get-insert, IsAntisymmetric, slice_cmp-IsAntisymmetric, nat_cmp-IsAntisymmetric}
use Rattle.std.specs.Ordering.{is_eq, eq_by_cmp}
use Rattle.std.specs.Cmp.{IsTotalOrder, tied_itself}
use Rattle.std.specs.Cmp.Lexicographic.{nat_list_cmp_total}
use Rattle.std.proofs.lemmas.Cmp.{on_total, then_total}
use Rattle.std.specs.declared.cmp.Ordering.{Ordering}
use Rattle.std.specs.declared.cmp.Ordering.TheVariants.{Less, Equal, Greater}
use Rattle.sigtext.specs.Bytes.{bytes_cmp}
use Rattle.boxes.specs.State.{place_cmp}

pub bytes_total : IsTotalOrder bytes_cmp
bytes_total = nat_list_cmp_total

pub bytes_same : IsAntisymmetric bytes_cmp
bytes_same = slice_cmp-IsAntisymmetric nat_cmp-IsAntisymmetric

pub place_total : IsTotalOrder place_cmp
place_total = then_total (on_total (λ p. p.box) nat_list_cmp_total) (on_total (λ p. p.name) nat_list_cmp_total)

pub equal_is : (o : Ordering) → is_eq o ≡ true → o ≡ Equal
equal_is Less e = absurd cc
equal_is Equal e = refl
equal_is Greater e = absurd cc

nil_of : {X : Type 0} (xs : List X) → length xs ≡ 0 → xs ≡ []
nil_of [] e = refl
nil_of (x ∷ xs) e = absurd (omega arith)

pub no_entries : {K X : Type 0} (R : K → K → Ordering) → entries (empty {X = X} {R = R}) ≡ []
no_entries {X = X} R = nil_of (entries empty) (sym (len-entries empty) ∙ len-empty R X)

pub some_none : {X : Type 0} (x : X) → Some x ≡ None → ⊥
some_none x e = cc

-- the value that was inserted is found
pub get_same : {X : Type 0} (m : FinMap bytes_cmp X) (k : List ℕ) (v : X) → get (insert m k v) k ≡ Some v
get_same m k v = get-insert bytes_total m k v k ∙ ap (λ r. cond (is_eq r) (Some v) (get m k)) (tied_itself bytes_total k)

-- a value that is found was just inserted, or was there before
pub got : {X : Type 0} (m : FinMap bytes_cmp X) (k q : List ℕ) (v x : X) (C : Type 0)
    → get (insert m k v) q ≡ Some x → (q ≡ k → v ≡ x → C) → (get m q ≡ Some x → C) → C
got m k q v x C e here other =
    elim (eq_by_cmp bytes_cmp q k) as (λ t. eq_by_cmp bytes_cmp q k ≡ t → cond t (Some v) (get m q) ≡ Some x → C) [
      | true ↦ λ t is. let same : v ≡ x = cc in here (bytes_same q k (equal_is (bytes_cmp q k) t)) same
      | false ↦ λ t is. other is
    ] refl (sym (get-insert bytes_total m k v q) ∙ e)

-- the entries after an insertion, and the values of a map with these entries
pub entries_put : {K X : Type 0} (R : K → K → Ordering) (m : FinMap R X) (k : K) (v : X) (es : List (K × X)) → IsTotalOrder R → entries m ≡ es
    → entries (insert m k v) ≡ put R k v es
entries_put R m k v es total is = entries-insert total m k v ∙ ap (put R k v) is

pub get_of : {K X : Type 0} (R : K → K → Ordering) (m : FinMap R X) (es : List (K × X)) (q : K) → entries m ≡ es → get m q ≡ find R q es
get_of R m es q is = get-entries m q ∙ ap (find R q) is
