-- A shelf means at most one state.
use Rattle.std.proofs.Common.{◌≡◌, ◌∙◌, ℕ, ◌+◌, List, [], ◌∷◌, Option, Some, None, refl, sym, ap}
use Rattle.std.specs.Prelude.{Vec, is_some}
use Rattle.std.specs.BTreeSet.{BTreeSet}
use Rattle.std.specs.declared.alloc.Global.{Global}
use Rattle.std.specs.FinMap.{FinMap, get, same_map, IsAntisymmetric}
use Rattle.std.specs.Cmp.{IsTotalOrder}
use Rattle.std.specs.declared.cmp.Ordering.{Ordering}
use Rattle.sigtext.specs.Bytes.{bytes_cmp}
use Rattle.boxes.specs.State.{place_cmp, limit_cmp, Receipt, State}
use Rattle.boxes.specs.Rows.{key_of, numbered}
use Rattle.boxes.proofs.Lookups.{bytes_total, bytes_same, place_total}
use Rattle.boxes.proofs.FileTotals.{place_same}
use Rattle.boxes.proofs.LimitedKeys.{limit_total, limit_same}
use Rattle.shelf.specs.declared.shelf.Shelf.{Shelf}
use Rattle.shelf.specs.Maps.{MapMeans}
use Rattle.shelf.specs.Shelves.{Holds, LimitsMean, bytes_of, place_of, shelved_settings, stored_file}

-- entries mean at most one map
one_map : {K K' X Y : Type 0} (R : K' → K' → Ordering) (f : K → K') (g : X → Y) → IsTotalOrder R → IsAntisymmetric R → (es : List (K × X)) (m n : FinMap R Y) → MapMeans R f g es m → MapMeans R f g es n → m ≡ n
one_map R f g o same es m n a b = same_map o same m n (λ q. a.each q ∙ sym (b.each q))

-- a limit has only one possible value
one_unit : (o p : Option (Unit {0})) → is_some o ≡ is_some p → o ≡ p
one_unit None None e = refl
one_unit None (Some x) e = absurd cc
one_unit (Some x) None e = absurd cc
one_unit (Some x) (Some y) e = refl

same_limits : (es : List (Vec ℕ Global × BTreeSet (Vec ℕ Global))) (m n : FinMap limit_cmp (Unit {0})) → LimitsMean es m → LimitsMean es n → m ≡ n
same_limits es m n a b = same_map limit_total limit_same m n (λ l. one_unit (get m l) (get n l) (a.each l ∙ sym (b.each l)))

one_list : (n : ℕ) (rs ss : List Receipt) → numbered n rs ≡ numbered n ss → rs ≡ ss
one_list n [] [] e = refl
one_list n [] (s ∷ ss) e = absurd cc
one_list n (r ∷ rs) [] e = absurd cc
one_list n (r ∷ rs) (s ∷ ss) e =
    let head : ◌≡◌ {A = ℕ × Receipt} (n, r) (n, s) = cc in
    let tail : numbered (n + 1) rs ≡ numbered (n + 1) ss = cc in
    let first : r ≡ s = ap (λ (p : ℕ × Receipt). p.1) head in
    let rest = one_list (n + 1) rs ss tail in
    cc

pub one_state : (k : Shelf) (s t : State) → Holds k s → Holds k t → s ≡ t
one_state k s t a b =
    let offset : s.offset ≡ t.offset = sym a.offset ∙ b.offset in
    let keys = one_map bytes_cmp bytes_of key_of bytes_total bytes_same k.keys.entries s.keys t.keys a.keys b.keys in
    let boxes = one_map bytes_cmp bytes_of shelved_settings bytes_total bytes_same k.boxes.entries s.boxes t.boxes a.boxes b.boxes in
    let files = one_map place_cmp place_of stored_file place_total place_same k.files.entries s.files t.files a.files b.files in
    let allowance : s.allowance ≡ t.allowance = sym a.allowance ∙ b.allowance in
    let limits = same_limits k.limits.entries s.limits t.limits a.limits b.limits in
    let receipts = one_list 1 s.receipts t.receipts (sym a.receipts ∙ b.receipts) in
    λ i. record { offset = offset i; allowance = allowance i; keys = keys i; boxes = boxes i; files = files i; receipts = receipts i; limits = limits i }

-- a shelf stages at most one text
pub one_text : (k : Shelf) (a b : List ℕ) → k.staged.items ≡ a → k.staged.items ≡ b → a ≡ b
one_text k a b x y = sym x ∙ y
