-- Looking up the boxes that a key is limited to.
use Rattle.std.proofs.Common.{◌≡◌, ℕ, true, false, cond, List, Some, refl, sym, ap, ◌∙◌}
use Rattle.std.specs.Prelude.{is_some}
use Rattle.std.specs.FinMap.{FinMap, get, insert, get-insert, IsAntisymmetric}
use Rattle.std.specs.Ordering.{is_eq, eq_by_cmp}
use Rattle.std.specs.Cmp.{IsTotalOrder, tied_itself}
use Rattle.std.specs.Cmp.Lexicographic.{nat_list_cmp_total}
use Rattle.std.proofs.lemmas.Cmp.{on_total, then_total}
use Rattle.std.proofs.lemmas.Map.Lookups.{exact_pairs}
use Rattle.sigtext.specs.Bytes.{bytes_cmp}
use Rattle.boxes.specs.State.{Limit, limit_cmp}
use Rattle.boxes.proofs.Lookups.{bytes_same, equal_is}

pub limit_total : IsTotalOrder limit_cmp
limit_total = then_total (on_total (λ l. l.key) nat_list_cmp_total) (on_total (λ l. l.box) nat_list_cmp_total)

pub limit_same : IsAntisymmetric limit_cmp
limit_same a b e =
    let pairs = exact_pairs bytes_cmp bytes_cmp bytes_same bytes_same (a.key, a.box) (b.key, b.box) e in
    ap (λ (p : List ℕ × List ℕ). record { key = p.0; box = p.1 }) pairs

-- a limit that was inserted is found
pub limit_here : (m : FinMap limit_cmp (Unit {0})) (key box : List ℕ) → is_some (get (insert m (record { key = key; box = box }) tt) (record { key = key; box = box })) ≡ true
limit_here m key box =
    let l : Limit = record { key = key; box = box } in
    ap is_some (get-insert limit_total m l tt l ∙ ap (λ r. cond (is_eq r) (Some tt) (get m l)) (tied_itself limit_total l))

-- a limit that is found was just inserted, or was there before
pub limit_got : (m : FinMap limit_cmp (Unit {0})) (key box k b : List ℕ) (C : Type 0)
    → is_some (get (insert m (record { key = key; box = box }) tt) (record { key = k; box = b })) ≡ true
    → (k ≡ key → b ≡ box → C) → (is_some (get m (record { key = k; box = b })) ≡ true → C) → C
limit_got m key box k b C e here other =
    let l : Limit = record { key = key; box = box } in
    let q : Limit = record { key = k; box = b } in
    elim (eq_by_cmp limit_cmp q l) as (λ t. eq_by_cmp limit_cmp q l ≡ t → is_some (cond t (Some tt) (get m q)) ≡ true → C) [
      | true ↦ λ t is. let same = limit_same q l (equal_is (limit_cmp q l) t) in here (ap (λ (x : Limit). x.key) same) (ap (λ (x : Limit). x.box) same)
      | false ↦ λ t is. other is
    ] refl (ap is_some (sym (get-insert limit_total m l tt q)) ∙ e)
