-- The lines of a keeper's answers about a state.
use Rattle.std.proofs.Common.{◌≡◌, ◌∙◌, ℕ, List, [], ◌∷◌, Some, decimal, refl, sym, ap, subst, arith}
use Rattle.std.specs.Prelude.{option_map, slice_get}
use Rattle.std.specs.FinMap.{get}
use Rattle.std.proofs.lemmas.Option.{same_Some}
use Rattle.hex.specs.Hex.{encode_lower}
use Rattle.boxes.specs.Rows.{key_of, numbered_receipt, receipt_in, settings_of}
use Rattle.boxes.specs.Sound.{IsMoment, IsReceipt, IsSound}
use Rattle.boxes.specs.State.{File, Key, Place, Receipt, Settings, State}
use Rattle.boxes.specs.Steps.{HasReceipt}
use Rattle.boxes.specs.Totals.{used, count}
use Rattle.boxes.specs.Views.{AreTotals, IsReceiptAt}
use Rattle.boxes.specs.declared.rows.BoxRow.{BoxRow}
use Rattle.boxes.specs.declared.rows.KeyRow.{KeyRow}
use Rattle.boxes.specs.declared.rows.ReceiptRow.{ReceiptRow}
use Rattle.boxes.specs.declared.totals.Totals.{Totals}
use Rattle.boxes.proofs.NoBox.{all_at}
use Rattle.std.specs.List.{join_with_byte}
use Rattle.lists.specs.Lists.{line}
use Rattle.links.specs.CommandTexts.{role_word}
use Rattle.lists.specs.Keys.{answer_word, AreLimits, IsKeyLine}
use Rattle.lists.specs.Boxes.{IsBoxLine, IsBoxRecord, IsTotalsLine}
use Rattle.lists.specs.Files.{IsFileLine, IsPlacedLine}

-- ---- keys

pub key_line_told : (s : State) (id : List ℕ) (row : KeyRow) (boxes : List (List ℕ)) (k : Key) (text : List ℕ) → Some (key_of row) ≡ get s.keys id → AreLimits s id boxes
    → text ≡ line (id ∷ role_word row.role ∷ answer_word row.revoked ∷ join_with_byte 32 boxes ∷ []) → get s.keys id ≡ Some k → IsKeyLine s (id, k) text
key_line_told s id row boxes k text told are is there =
    let same : key_of row ≡ k = same_Some (key_of row) k (told ∙ there) in
    (boxes, are, is ∙ (λ i. line (id ∷ role_word (same i).role ∷ answer_word (same i).revoked ∷ join_with_byte 32 boxes ∷ [])))

-- ---- boxes

pub box_moments : (s : State) (name : List ℕ) (row : BoxRow) → IsSound s → Some (settings_of row) ≡ get s.boxes name → IsMoment row.opens × IsMoment row.closes
box_moments s name row sound told = let it = (sound.boxes name (settings_of row) (sym told)).1 in (it.opens, it.closes)

pub box_line_told : (s : State) (name : List ℕ) (row : BoxRow) (totals : Totals) (b : Settings) (text : List ℕ) → Some (settings_of row) ≡ get s.boxes name
    → AreTotals s name totals → IsTotalsLine name (settings_of row) totals text → get s.boxes name ≡ Some b → IsBoxLine s (name, b) text
box_line_told s name row totals b text told are (fields, record_is, is) there =
    let same : settings_of row ≡ b = same_Some (settings_of row) b (told ∙ there) in
    let bytes = subst (λ (n : ℕ). IsBoxRecord name (settings_of row) n totals.count fields) are.used record_is in
    let files = subst (λ (n : ℕ). IsBoxRecord name (settings_of row) (used s name) n fields) are.count bytes in
    (fields, subst (λ (x : Settings). IsBoxRecord name x (used s name) (count s name) fields) same files, is)

-- ---- files

receipt_once : (s : State) (n : ℕ) (q r : Receipt) → HasReceipt s n q → HasReceipt s n r → q ≡ r
receipt_once s n q r a b =
    let place : a.place ≡ b.place = omega (arith, a.counted, b.counted) in
    same_Some q r (sym a.listed ∙ ap (λ (i : ℕ). slice_get s.receipts i) place ∙ b.listed)

-- the receipt that the keeper returned for a place
pub told_listed : (s : State) (place : Place) (row : ReceiptRow) → IsReceiptAt s place (Some row) → HasReceipt s row.number (receipt_in row)
told_listed s place row told = told.receipt row refl

pub file_moment : (s : State) (place : Place) (row : ReceiptRow) → IsSound s → IsReceiptAt s place (Some row) → IsMoment row.moment
file_moment s place row sound told =
    let it = told_listed s place row told in
    (all_at (IsReceipt s) s.receipts it.place (receipt_in row) sound.receipts it.listed).moment

pub file_line_told : (s : State) (place : Place) (row : ReceiptRow) (f : File) (text : List ℕ) → IsSound s → IsReceiptAt s place (Some row)
    → IsPlacedLine place (numbered_receipt row) text → get s.files place ≡ Some f → IsFileLine s (place, f) text
file_line_told s place row f text sound told (fields, it, is) there =
    let number : row.number ≡ f.receipt = same_Some row.number f.receipt (told.there ∙ ap (option_map (λ (x : File). x.receipt)) there) in
    let listed = subst (λ (n : ℕ). HasReceipt s n (receipt_in row)) number (told_listed s place row told) in
    let file = sound.files place f there in
    let one = receipt_once s f.receipt (receipt_in row) file.receipt listed file.listed in
    let size = ap (λ (r : Receipt). r.size) one ∙ file.size in
    let digest = ap (λ (r : Receipt). r.digest) one ∙ file.digest in (
      fields,
      record {
        receipt = receipt_in row;
        listed = listed;
        moment = it.moment;
        is_moment = it.is_moment;
        are = it.are ∙ (λ i. place.box ∷ place.name ∷ decimal (size i) ∷ encode_lower (digest i) ∷ decimal (number i) ∷ it.moment ∷ row.key.items ∷ []);
      },
      is,
    )
