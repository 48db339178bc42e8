-- The lines of an office that obeys every rule, and the maps that are read from them.
use Rattle.std.proofs.Common.{◌≡◌, ℕ, suc, pos, List, [], ◌∷◌, slice_get, Option, Some, IsTrue, Bool, false, true, refl, sym, ap, subst, ◌∙◌}
use Rattle.std.specs.Prelude.{Contains}
use Rattle.std.specs.List.{AllByRecursion}
use Rattle.std.specs.FinMap.{FinMap, get, same_map, nat_cmp-IsAntisymmetric}
use Rattle.std.specs.Ordering.{nat_cmp}
use Rattle.std.specs.Cmp.{nat_cmp_total}
use Rattle.sigtext.specs.Bytes.{bytes_cmp}
use Rattle.boxes.specs.State.{Key, Place, place_cmp, Receipt, Limit, limit_cmp}
use Rattle.boxes.proofs.Lookups.{bytes_total, bytes_same, place_total}
use Rattle.boxes.proofs.FileTotals.{place_same}
use Rattle.boxes.proofs.NoBox.{all_at}
use Rattle.sqltables.specs.Tables.{Box}
use Rattle.sqlaudit.specs.declared.rules.Lines.{Lines}
use Rattle.sqlaudit.specs.Outlines.{Outline, AreEntries, IsKeyEntry, IsKeyRule, IsBoxEntry, IsBoxRule, IsReceiptEntry, IsReceiptRule, IsFileEntry, IsFileRule, IsLimitEntry, IsLimitRule, HasClerkIn, AreSoundLines, IsPieceIn, used_in, count_in}
use Rattle.sqlaudit.specs.declared.lines.KeyLine.{KeyLine}
use Rattle.sqlaudit.specs.declared.lines.BoxLine.{BoxLine}
use Rattle.sqlaudit.specs.declared.lines.FileLine.{FileLine}
use Rattle.sqlaudit.specs.declared.lines.PieceLine.{PieceLine}
use Rattle.sqlaudit.specs.declared.lines.LimitLine.{LimitLine}
use Rattle.sqlaudit.specs.Sorting.{AreRuled, IsGood, IsGiven, IsFiled, HasTotals, limit_in}
use Rattle.sqlaudit.proofs.Entries.{with_rule, without_rule, rule_of_entries, same_look}
use Rattle.sqlaudit.proofs.KeyEntries.{one_key}
use Rattle.sqlaudit.proofs.BoxEntries.{one_box}
use Rattle.sqlaudit.proofs.ReceiptEntries.{one_given}
use Rattle.sqlaudit.proofs.FileEntries.{one_filed}
use Rattle.sqlaudit.proofs.LimitEntries.{limits_of}

-- if the answer is no, the claim does not hold
pub no : (P : Type 0) → (P → ⊥) → (IsTrue false → P) × (P → IsTrue false)
no P f = (λ h. absurd cc, λ p. absurd (f p))

-- a test whose answer was no
pub refuted : {b : Bool} → b ≡ false → IsTrue b → ⊥
refuted {b = b} is h = let e : false ≡ true = sym is ∙ h in cc

pub told : {b : Bool} → b ≡ true → IsTrue b
told is = is

abbrev pub GoodKey : KeyLine → List ℕ → Key → Type 0
GoodKey = IsGood IsKeyEntry IsKeyRule

abbrev pub GoodBox : BoxLine → List ℕ → Box → Type 0
GoodBox = IsGood IsBoxEntry IsBoxRule

module _ (lines : Lines) (a : AreSoundLines lines) where
  abbrev pub o : Outline
  o = a.office

  pub good_keys : AreEntries GoodKey (get o.keys) lines.keys.now
  good_keys = with_rule IsKeyEntry IsKeyRule (get o.keys) lines.keys.now a.lines_are.keys a.sound.keys

  pub good_boxes : AreEntries GoodBox (get o.boxes) lines.boxes.now
  good_boxes = with_rule IsBoxEntry IsBoxRule (get o.boxes) lines.boxes.now a.lines_are.boxes a.sound.boxes

  module _ (ks : FinMap bytes_cmp Key) (bs : FinMap bytes_cmp Box) (keys : AreEntries GoodKey (get ks) lines.keys.now) (boxes : AreEntries GoodBox (get bs) lines.boxes.now) where
    keys_are : o.keys ≡ ks
    keys_are = same_map bytes_total bytes_same o.keys ks (same_look bytes_cmp bytes_total bytes_same GoodKey one_key (get o.keys) (get ks) lines.keys.now good_keys keys)

    boxes_are : o.boxes ≡ bs
    boxes_are = same_map bytes_total bytes_same o.boxes bs (same_look bytes_cmp bytes_total bytes_same GoodBox one_box (get o.boxes) (get bs) lines.boxes.now good_boxes boxes)

    pub given : AreEntries (IsGiven ks bs) (slice_get o.receipts) lines.receipts.now
    given = with_rule IsReceiptEntry (λ at r. IsReceiptRule ks bs r) (slice_get o.receipts) lines.receipts.now a.lines_are.receipts
        (λ at r there. subst (λ (m : FinMap bytes_cmp Key). IsReceiptRule m bs r) keys_are (subst (λ (m : FinMap bytes_cmp Box). IsReceiptRule o.keys m r) boxes_are (all_at (IsReceiptRule o.keys o.boxes) o.receipts at r a.sound.receipts there)))

    pub has_clerk_too : HasClerkIn ks
    has_clerk_too = subst HasClerkIn keys_are a.sound.clerk

    pub limits_ruled : (line : LimitLine) → Contains lines.limits.now line → IsLimitRule ks bs (limit_in line)
    limits_ruled line there =
        let e = a.lines_are.limits.each line there in
        let same : e.0 ≡ limit_in line = λ i. record { key = sym e.2.key_is i; box = sym e.2.box_is i } in
        subst (IsLimitRule ks bs) same (subst (λ (m : FinMap bytes_cmp Key). IsLimitRule m bs e.0) keys_are (subst (λ (m : FinMap bytes_cmp Box). IsLimitRule o.keys m e.0) boxes_are (a.sound.limits e.0 e.1 e.3)))

    module _ (rs : List Receipt) (receipts : AreEntries (IsGiven ks bs) (slice_get rs) lines.receipts.now) where
      receipt_is : (at : ℕ) → slice_get o.receipts at ≡ slice_get rs at
      receipt_is = same_look nat_cmp nat_cmp_total nat_cmp-IsAntisymmetric (IsGiven ks bs) (one_given ks bs) (slice_get o.receipts) (slice_get rs) lines.receipts.now given receipts

      receipts_are : slice_get o.receipts ≡ slice_get rs
      receipts_are = λ i at. receipt_is at i

      -- a file's receipt exists
      pub filed_rule : (place : Place) (n : ℕ) → get o.files place ≡ Some n → IsFileRule (slice_get rs) place n
      filed_rule place n there = subst (λ (f : ℕ → Option Receipt). IsFileRule f place n) receipts_are (a.sound.files place n there)

      module _ (files : List FileLine) (of : AreEntries IsFileEntry (get o.files) files) (fs : FinMap place_cmp ℕ) (read : AreEntries (IsFiled rs) (get fs) files) where
        filed : AreEntries (IsFiled rs) (get o.files) files
        filed = with_rule IsFileEntry (IsFileRule (slice_get rs)) (get o.files) files of filed_rule

        files_are : o.files ≡ fs
        files_are = same_map place_total place_same o.files fs (same_look place_cmp place_total place_same (IsFiled rs) (one_filed rs) (get o.files) (get fs) files filed read)

        pub totals_told : (line : BoxLine) → Contains lines.boxes.now line → HasTotals rs fs line
        totals_told line there =
            let e = a.lines_are.boxes.each line there in
            let t = a.sound.totals e.0 e.1 e.3 in
            record {
              used = e.2.used_is ∙ ap (λ n. pos n) (t.0 ∙ (λ i. used_in (receipts_are i) (files_are i) ((sym e.2.name_is) i)));
              count = e.2.count_is ∙ ap (λ n. pos n) (t.1 ∙ (λ i. count_in (files_are i) ((sym e.2.name_is) i)));
            }

        pub piece_in : (line : PieceLine) → IsPieceIn (slice_get o.receipts) o.files line → IsPieceIn (slice_get rs) fs line
        piece_in line is = subst (λ (m : FinMap place_cmp ℕ). IsPieceIn (slice_get rs) m line) files_are (subst (λ (f : ℕ → Option Receipt). IsPieceIn f o.files line) receipts_are is)

pub all_from : {X : Type 0} (P : X → Type 0) (xs : List X) → ((i : ℕ) (x : X) → slice_get xs i ≡ Some x → P x) → AllByRecursion P xs
all_from P [] each = tt
all_from P (x ∷ xs) each = (each 0 x refl, all_from P xs (λ i y there. each (suc i) y there))

module _ (lines : Lines) (r : AreRuled lines) (files : List FileLine) (fs : FinMap place_cmp ℕ) (read : AreEntries (IsFiled r.receipts) (get fs) files)
    (totals : (line : BoxLine) → Contains lines.boxes.now line → HasTotals r.receipts fs line) where
  pub rule_of_limit : (limits : (ls : FinMap limit_cmp (Unit {0})) × AreEntries IsLimitEntry (get ls) lines.limits.now)
      → (limit : Limit) (there : Unit {0}) → get limits.0 limit ≡ Some there → IsLimitRule r.keys r.boxes limit
  rule_of_limit limits limit there is =
      let l = limits.1.all limit there is in
      subst (IsLimitRule r.keys r.boxes) (λ i. record { key = l.2.key_is i; box = l.2.box_is i }) (r.limits l.0 l.1)

  abbrev pub rs : List Receipt
  rs = r.receipts

  pub totals_of : (name : List ℕ) (b : Box) → get r.boxes name ≡ Some b → (b.used ≡ used_in (slice_get rs) fs name) × (b.count ≡ count_in fs name)
  totals_of name b there =
      let l = r.boxes_are.all name b there in
      let t = totals l.0 l.1 in
      let used : pos b.used ≡ pos (used_in (slice_get rs) fs l.0.name.items) = sym l.2.entry.used_is ∙ t.used in
      let count : pos b.count ≡ pos (count_in fs l.0.name.items) = sym l.2.entry.count_is ∙ t.count in
      let used_is : b.used ≡ used_in (slice_get rs) fs l.0.name.items = cc in
      let count_is : b.count ≡ count_in fs l.0.name.items = cc in
      (used_is ∙ ap (used_in (slice_get rs) fs) l.2.entry.name_is, count_is ∙ ap (count_in fs) l.2.entry.name_is)

  abbrev pub built_outline : Outline
  built_outline = record { offset = r.office.0; allowance = r.allowance.0; keys = r.keys; boxes = r.boxes; files = fs; receipts = rs; limits = (limits_of lines.limits.now).0 }

  abbrev pub built : AreSoundLines lines
  built = record {
    office = built_outline;
    lines_are = record {
      office = r.office.1;
      keys = without_rule IsKeyEntry IsKeyRule (get r.keys) lines.keys.now r.keys_are;
      boxes = without_rule IsBoxEntry IsBoxRule (get r.boxes) lines.boxes.now r.boxes_are;
      receipts = without_rule IsReceiptEntry (λ at x. IsReceiptRule r.keys r.boxes x) (slice_get rs) lines.receipts.now r.receipts_are;
      rules = r.allowance.1;
      limits = (limits_of lines.limits.now).1;
    };
    sound = record {
      east = r.office.2;
      keys = rule_of_entries IsKeyEntry IsKeyRule (get r.keys) lines.keys.now r.keys_are;
      boxes = rule_of_entries IsBoxEntry IsBoxRule (get r.boxes) lines.boxes.now r.boxes_are;
      files = rule_of_entries IsFileEntry (IsFileRule (slice_get rs)) (get fs) files read;
      receipts = all_from (IsReceiptRule r.keys r.boxes) rs (rule_of_entries IsReceiptEntry (λ at x. IsReceiptRule r.keys r.boxes x) (slice_get rs) lines.receipts.now r.receipts_are);
      totals = totals_of;
      clerk = r.clerk;
      allowance = r.allowance.2;
      limits = rule_of_limit (limits_of lines.limits.now);
    };
  }

  pub built_files : AreEntries IsFileEntry (get fs) files
  built_files = without_rule IsFileEntry (IsFileRule (slice_get rs)) (get fs) files read
