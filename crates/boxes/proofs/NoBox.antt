-- A box that does not exist holds nothing.
use Rattle.std.proofs.Common.{◌≡◌, ◌∙◌, ℕ, zero, suc, List, [], ◌∷◌, length, Option, Some, None, ap, subst}
use Rattle.std.specs.Prelude.{slice_get, IsSomeAnd, sum_by}
use Rattle.std.specs.List.{AllByRecursion}
use Rattle.std.specs.FinMap.{get}
use Rattle.sigtext.specs.Bytes.{same_bytes}
use Rattle.boxes.specs.State.{place_cmp, State}
use Rattle.boxes.specs.Totals.{used, count, files_of}
use Rattle.boxes.specs.Sound.{IsSound, IsReceipt}
use Rattle.boxes.proofs.EntrySums.{filter-none}
use Rattle.boxes.proofs.FileTotals.{place_same, texts_apart}
use Rattle.boxes.proofs.Lookups.{place_total}

pub all_at : {X : Type 0} (P : X → Type 0) (xs : List X) (i : ℕ) (x : X) → AllByRecursion P xs → slice_get xs i ≡ Some x → P x
all_at P [] i x h e = absurd cc
all_at P (y ∷ xs) zero x h e = let is : y ≡ x = cc in subst P is h.0
all_at P (y ∷ xs) (suc i) x h e = all_at P xs i x h.1 e

not_some : {X : Type 0} (P : X → Type 0) (o : Option X) → o ≡ None → IsSomeAnd o P → ⊥
not_some P None e h = h
not_some P (Some x) e h = absurd cc

-- a box that does not exist holds nothing
pub no_files : (s : State) (name : List ℕ) → IsSound s → get s.boxes name ≡ None → files_of s name ≡ []
no_files s name sound none =
    filter-none place_cmp place_total place_same (λ e. same_bytes e.0.box name) s.files (λ place f there.
    let it = sound.files place f there in
    let r = all_at (IsReceipt s) s.receipts it.listed.place it.receipt sound.receipts it.listed.listed in
    texts_apart place.box name (λ e. not_some _ (get s.boxes it.receipt.box) (ap (λ b. get s.boxes b) (it.box ∙ e) ∙ none) r.box))

pub none_used : (s : State) (name : List ℕ) → IsSound s → get s.boxes name ≡ None → used s name ≡ 0
none_used s name sound none = ap (sum_by (λ e. length e.1.bytes)) (no_files s name sound none)

pub none_counted : (s : State) (name : List ℕ) → IsSound s → get s.boxes name ≡ None → count s name ≡ 0
none_counted s name sound none = ap length (no_files s name sound none)
