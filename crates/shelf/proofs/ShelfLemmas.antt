-- What a shelf holds after a change.
use Rattle.std.proofs.Common.{◌≡◌, ◌∙◌, ℕ, suc, ◌+◌, ◌≤◌, true, false, cond, List, [], ◌∷◌, ◌++◌, map, length, Option, Some, None, refl, sym, ap, subst, arith}
use Rattle.std.specs.Prelude.{Vec, option_map, IsSome, IsSomeAnd}
use Rattle.std.specs.declared.alloc.Global.{Global}
use Rattle.std.specs.Ordering.{is_eq, eq_by_cmp}
use Rattle.std.specs.Cmp.{tied_itself}
use Rattle.std.specs.FinMap.{FinMap, get, insert}
use Rattle.std.specs.BTreeMap.{BTreeMap}
use Rattle.std.specs.BTreeSet.{BTreeSet}
use Rattle.std.proofs.lemmas.List.{map-append}
use Rattle.sigtext.specs.Bytes.{bytes_cmp, same_bytes}
use Rattle.boxes.specs.declared.rows.KeyRow.{KeyRow}
use Rattle.boxes.specs.declared.rows.ReceiptRow.{ReceiptRow}
use Rattle.boxes.specs.declared.totals.Totals.{Totals}
use Rattle.boxes.specs.State.{Settings, Place, place_cmp, File, Receipt, limit_cmp, State}
use Rattle.boxes.specs.Rows.{key_of, numbered, numbered_receipt}
use Rattle.boxes.specs.Totals.{used, count}
use Rattle.boxes.specs.Clerks.{clerks}
use Rattle.boxes.specs.Sound.{IsSound, IsReceipt}
use Rattle.boxes.specs.Views.{AreTotals}
use Rattle.boxes.proofs.Lookups.{bytes_total, bytes_same, equal_is}
use Rattle.boxes.proofs.FileTotals.{texts_apart}
use Rattle.boxes.proofs.NoBox.{all_at}
pub use Rattle.boxes.proofs.FileBoxes.{there_is, file_in_box}
use Rattle.shelf.specs.declared.shelf.Shelf.{Shelf}
use Rattle.shelf.specs.declared.shelf.ShelvedBox.{ShelvedBox}
use Rattle.shelf.specs.declared.shelf.StoredFile.{StoredFile}
use Rattle.shelf.specs.Maps.{found, MapMeans, Sets}
use Rattle.shelf.specs.Shelves.{Holds, LimitsMean, bytes_of, place_of, shelved_settings, stored_file}
use Rattle.shelf.proofs.MapLemmas.{means-set, means-same, some_of}

clash : false ≡ true → ⊥
clash e = cc

-- other bytes are staged
pub holds_staged : (k : Shelf) (s : State) (bytes : Vec ℕ Global) → Holds k s → Holds (record k { staged = bytes }) s
holds_staged k s bytes h = record {
  offset = h.offset;
  allowance = h.allowance;
  keys = h.keys;
  boxes = h.boxes;
  files = h.files;
  receipts = h.receipts;
  totals = h.totals;
  clerks = h.clerks;
  fewer = h.fewer;
  limits = h.limits;
}

-- a key was set
pub holds_keys : (k : Shelf) (s : State) (keys : BTreeMap (Vec ℕ Global) KeyRow) (id : List ℕ) (row : KeyRow) (n : ℕ) → Holds k s
    → Sets bytes_cmp bytes_of id (Some row) k.keys.entries keys.entries
    → n ≡ clerks (record s { keys = insert s.keys id (key_of row) }) → n ≤ length keys.entries
    → Holds (record k { keys = keys; clerks = n }) (record s { keys = insert s.keys id (key_of row) })
holds_keys k s keys id row n h sets counted fewer = record {
  offset = h.offset;
  allowance = h.allowance;
  keys = means-set bytes_cmp bytes_of bytes_total key_of k.keys.entries keys.entries s.keys id row h.keys sets;
  boxes = h.boxes;
  files = h.files;
  receipts = h.receipts;
  totals = λ name b e. let t = h.totals name b e in record { used = t.used; count = t.count };
  clerks = counted;
  fewer = fewer;
  limits = h.limits;
}

-- a box was set
pub holds_boxes : (k : Shelf) (s : State) (boxes : BTreeMap (Vec ℕ Global) ShelvedBox) (name : List ℕ) (b : ShelvedBox) → Holds k s
    → Sets bytes_cmp bytes_of name (Some b) k.boxes.entries boxes.entries → AreTotals s name b.totals
    → Holds (record k { boxes = boxes }) (record s { boxes = insert s.boxes name (shelved_settings b) })
holds_boxes k s boxes name b h sets are = record {
  offset = h.offset;
  allowance = h.allowance;
  keys = h.keys;
  boxes = means-set bytes_cmp bytes_of bytes_total shelved_settings k.boxes.entries boxes.entries s.boxes name b h.boxes sets;
  files = h.files;
  receipts = h.receipts;
  totals = λ q x e.
      elim (eq_by_cmp bytes_cmp q name) as (λ t. eq_by_cmp bytes_cmp q name ≡ t → cond t (Some b) (found bytes_cmp bytes_of k.boxes.entries q) ≡ Some x → AreTotals (record s { boxes = insert s.boxes name (shelved_settings b) }) q x.totals) [
        | true ↦ λ t there.
            let is : b ≡ x = cc in
            let q_is : name ≡ q = sym (bytes_same q name (equal_is (bytes_cmp q name) t)) in
            let a = subst (λ (y : ShelvedBox). AreTotals s q y.totals) is (subst (λ (y : List ℕ). AreTotals s y b.totals) q_is are) in
            record { used = a.used; count = a.count }
        | false ↦ λ t there. let a = h.totals q x there in record { used = a.used; count = a.count }
      ] refl (sym (sets.each q) ∙ e);
  clerks = h.clerks;
  fewer = h.fewer;
  limits = h.limits;
}

-- the files of one box changed, and receipts were added
pub holds_files : (k : Shelf) (s : State) (files : BTreeMap (Vec ℕ Global × Vec ℕ Global) StoredFile) (boxes : BTreeMap (Vec ℕ Global) ShelvedBox) (receipts : Vec ReceiptRow Global)
    → (fs : FinMap place_cmp File) (rs : List Receipt) (name : List ℕ) (b : ShelvedBox) (t : Totals) → Holds k s
    → MapMeans place_cmp place_of stored_file files.entries fs → map numbered_receipt receipts.items ≡ numbered 1 rs
    → found bytes_cmp bytes_of k.boxes.entries name ≡ Some b → Sets bytes_cmp bytes_of name (Some (record b { totals = t })) k.boxes.entries boxes.entries
    → AreTotals (record s { files = fs }) name t
    → ((q : List ℕ) → same_bytes name q ≡ false → (used (record s { files = fs }) q ≡ used s q) × (count (record s { files = fs }) q ≡ count s q))
    → Holds (record k { files = files; boxes = boxes; receipts = receipts }) (record s { files = fs; receipts = rs })
holds_files k s files boxes receipts fs rs name b t h means listed there sets are others = record {
  offset = h.offset;
  allowance = h.allowance;
  keys = h.keys;
  boxes = means-same bytes_cmp bytes_of bytes_total shelved_settings k.boxes.entries boxes.entries s.boxes name b (record b { totals = t }) h.boxes there refl sets;
  files = means;
  receipts = listed;
  totals = λ q x e.
      elim (eq_by_cmp bytes_cmp q name) as (λ c. eq_by_cmp bytes_cmp q name ≡ c → cond c (Some (record b { totals = t })) (found bytes_cmp bytes_of k.boxes.entries q) ≡ Some x → AreTotals (record s { files = fs; receipts = rs }) q x.totals) [
        | true ↦ λ c found_is.
            let kept : ShelvedBox = record b { totals = t } in
            let is : kept ≡ x = cc in
            let q_is : name ≡ q = sym (bytes_same q name (equal_is (bytes_cmp q name) c)) in
            let a = subst (λ (y : ShelvedBox). AreTotals (record s { files = fs }) q y.totals) is (subst (λ (y : List ℕ). AreTotals (record s { files = fs }) y t) q_is are) in
            record { used = a.used; count = a.count }
        | false ↦ λ c found_is.
            let a = h.totals q x found_is in
            let far = texts_apart name q (λ e. clash (sym c ∙ ap (λ y. eq_by_cmp bytes_cmp y name) (sym e) ∙ ap is_eq (tied_itself bytes_total name))) in
            let same = others q far in
            record { used = a.used ∙ sym same.0; count = a.count ∙ sym same.1 }
      ] refl (sym (sets.each q) ∙ e);
  clerks = h.clerks;
  fewer = h.fewer;
  limits = h.limits;
}

-- the limits were changed
pub holds_limits : (k : Shelf) (s : State) (limits : BTreeMap (Vec ℕ Global) (BTreeSet (Vec ℕ Global))) (ls : FinMap limit_cmp (Unit {0})) → Holds k s
    → LimitsMean limits.entries ls → Holds (record k { limits = limits }) (record s { limits = ls })
holds_limits k s limits ls h means = record {
  offset = h.offset;
  allowance = h.allowance;
  keys = h.keys;
  boxes = h.boxes;
  files = h.files;
  receipts = h.receipts;
  totals = λ name b e. let t = h.totals name b e in record { used = t.used; count = t.count };
  clerks = h.clerks;
  fewer = h.fewer;
  limits = means;
}

-- the kept box of a name, if the state has such a box
pub box_there : (k : Shelf) (s : State) (name : List ℕ) → Holds k s → IsSome (get s.boxes name)
    → (b : ShelvedBox) × (found bytes_cmp bytes_of k.boxes.entries name ≡ Some b) × (get s.boxes name ≡ Some (shelved_settings b))
box_there k s name h some =
    let b = there_is (get s.boxes name) some in
    let it = some_of shelved_settings (found bytes_cmp bytes_of k.boxes.entries name) b.0 (sym (h.boxes.each name) ∙ b.1) in
    (it.0, it.1, b.1 ∙ ap (λ (x : Settings). Some x) (sym it.2))

pub numbered-push : (n : ℕ) (rs : List Receipt) (r : Receipt) → numbered n (rs ++ r ∷ []) ≡ numbered n rs ++ (n + length rs, r) ∷ []
numbered-push n [] r = ap (λ k. (k, r) ∷ []) (let e : n ≡ n + 0 = omega arith in e)
numbered-push n (x ∷ rs) r =
    ap (λ (l : List (ℕ × Receipt)). (n, x) ∷ l) (numbered-push (n + 1) rs r ∙ ap (λ k. numbered (n + 1) rs ++ (k, r) ∷ []) (let e : n + 1 + length rs ≡ n + suc (length rs) = omega arith in e))

-- the length of the stored file
pub long_of : (o : Option StoredFile) → option_map (λ (x : StoredFile). length x.bytes.items) o ≡ option_map (λ (f : File). length f.bytes) (option_map stored_file o)
long_of None = refl
long_of (Some x) = refl

-- the entries of the boxes are unchanged
pub same_boxes : (k : Shelf) (s : State) (boxes : BTreeMap (Vec ℕ Global) ShelvedBox) → Holds k s → boxes.entries ≡ k.boxes.entries → Holds (record k { boxes = boxes }) s
same_boxes k s boxes h e = record {
  offset = h.offset;
  allowance = h.allowance;
  keys = h.keys;
  boxes = subst (λ es. MapMeans bytes_cmp bytes_of shelved_settings es s.boxes) (sym e) h.boxes;
  files = h.files;
  receipts = h.receipts;
  totals = λ name b there. h.totals name b (ap (λ es. found bytes_cmp bytes_of es name) (sym e) ∙ there);
  clerks = h.clerks;
  fewer = h.fewer;
  limits = h.limits;
}

-- a receipt was added
pub push_listed : (old new : List ReceiptRow) (row : ReceiptRow) (rs : List Receipt) (r : Receipt) → new ≡ old ++ row ∷ [] → map numbered_receipt old ≡ numbered 1 rs
    → numbered_receipt row ≡ (1 + length rs, r) → map numbered_receipt new ≡ numbered 1 (rs ++ r ∷ [])
push_listed old new row rs r items listed given =
    ap (map numbered_receipt) items ∙ map-append numbered_receipt old (row ∷ []) ∙ ap (λ (l : List (ℕ × Receipt)). l ++ numbered_receipt row ∷ []) listed
    ∙ ap (λ (p : ℕ × Receipt). numbered 1 rs ++ p ∷ []) given ∙ sym (numbered-push 1 rs r)
