-- What tables say about a sound state.
use Rattle.std.proofs.Common.{◌≡◌, ℕ, List, [], ◌∷◌, Option, Some, None, option_map, refl, sym, ◌∙◌}
use Rattle.std.specs.List.{AllByRecursion}
use Rattle.std.specs.FinMap.{get}
use Rattle.boxes.specs.declared.totals.Totals.{Totals}
use Rattle.boxes.specs.State.{Settings, Receipt, State}
use Rattle.boxes.specs.Sound.{IsSound, IsReceipt, IsDigest}
use Rattle.boxes.specs.Views.{AreTotals}
use Rattle.boxes.proofs.NoBox.{none_used, none_counted}
use Rattle.sqltables.specs.Tables.{Box, tables_of}
use Rattle.sqltables.specs.Questions.{AreTotalsOf}

pub box_found : (s : State) (name : List ℕ) → option_map (λ (b : Box). b.settings) ((tables_of s).box name) ≡ get s.boxes name
box_found s name = go (get s.boxes name) refl
  where
    go : (o : Option Settings) → get s.boxes name ≡ o → option_map (λ (b : Box). b.settings) ((tables_of s).box name) ≡ get s.boxes name
    go None none = rw none
    go (Some b) some = rw some

pub totals_found : (s : State) (name : List ℕ) (t : Totals) → IsSound s → AreTotalsOf ((tables_of s).box name) t → AreTotals s name t
totals_found s name t sound h = go (get s.boxes name) refl
  where
    go : (o : Option Settings) → get s.boxes name ≡ o → AreTotals s name t
    go None none = let e = rw none at h in record { used = e.0 ∙ sym (none_used s name sound none); count = e.1 ∙ sym (none_counted s name sound none) }
    go (Some b) some = let e = rw some at h in record { used = e.0; count = e.1 }

-- a box named by bytes that are not UTF-8 holds nothing
pub nothing_found : (s : State) (name : List ℕ) (t : Totals) → IsSound s → None ≡ get s.boxes name → t.used ≡ 0 → t.count ≡ 0 → AreTotals s name t
nothing_found s name t sound none used count = record { used = used ∙ sym (none_used s name sound (sym none)); count = count ∙ sym (none_counted s name sound (sym none)) }

all_digests : (s : State) (rs : List Receipt) → AllByRecursion (IsReceipt s) rs → AllByRecursion (λ r. IsDigest r.digest) rs
all_digests s [] all = tt
all_digests s (r ∷ rs) all = (all.0.digest, all_digests s rs all.1)

pub digests_known : (s : State) → IsSound s → AllByRecursion (λ r. IsDigest r.digest) s.receipts
digests_known s sound = all_digests s s.receipts sound.receipts
