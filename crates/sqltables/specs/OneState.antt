-- Rows mean at most one sound state.
use Rattle.std.proofs.Common.{◌≡◌, inl, inr, ℕ, zero, suc, ◌+◌, ◌*◌, ℤ, pos, List, [], ◌∷◌, ◌++◌, take, drop, length, Bool, true, false, Option, None, Some, option_map, option_and_then, slice_get, arith, refl, sym, ap, subst, ◌∙◌, IsTrue}
use Rattle.std.specs.List.{AllByRecursion}
use Rattle.std.specs.FinMap.{get, same_map}
use Rattle.std.specs.Prelude.{nat_lt}
use Rattle.std.specs.List.{list_all}
use Rattle.std.proofs.Math.Seq.{take-add, take_all}
use Rattle.std.proofs.Math.ListN.{drop_of_length-le}
use Rattle.std.proofs.lemmas.Bool.{cases_Bool, and_parts, ltb-false}
use Rattle.sqlite_value.specs.declared.value.Value.TheVariants.{Int, Text, Blob}
use Rattle.sqlite_value.specs.Order.{Row}
use Rattle.sqlite_trees.specs.Tree.{Trees}
use Rattle.boxes.specs.declared.rows.Role.{Role}
use Rattle.boxes.specs.declared.rows.Role.TheVariants.{Clerk, Link}
use Rattle.boxes.specs.declared.rows.Mode.{Mode}
use Rattle.boxes.specs.declared.rows.Mode.TheVariants.{Keep, Replace}
use Rattle.boxes.specs.State.{Key, NameRule, AnyName, Ends, Begins, Settings, Place, File, Receipt, Limit, State}
use Rattle.boxes.specs.Sound.{IsSound, AreSettings, IsNameRule, IsRuleText, is_rule_byte}
use Rattle.boxes.proofs.Lookups.{bytes_total, bytes_same, place_total}
use Rattle.boxes.proofs.FileTotals.{place_same}
use Rattle.boxes.proofs.LimitedKeys.{limit_total, limit_same}
use Rattle.sqlite.specs.State.{HasCleanDisk}
use Rattle.sqlite.specs.State as sql
use Rattle.sqltables.specs.Schema.{Version, IsVersion, second_version, v2}
use Rattle.sqltables.specs.Tables.{Box, Part, RowsMean, IsOfficeRow, IsKeyRow, IsBoxRow, IsReceiptRow, IsFileRow, IsPieceRow, IsRulesRow, IsLimitRow, TablesMean, tables_of, flag, role_number, mode_number, rule_number, rule_text, joined, days_text, piece_of}
use Rattle.sqltables.specs.Kept.{KeepsState, RowsKeep}

-- ---- rows, and the lookups that they mean

-- P and Q: what is known about the values
module _ {K V : Type 0} {IsRow : Row → K → V → Type 0} (P : V → Type 0) (one : (row : Row) (k q : K) (v w : V) → IsRow row k v → IsRow row q w → P v → P w → (k ≡ q) × (v ≡ w)) (rows : List Row) where
  finds_too : (f g : K → Option V) → ((k : K) (v : V) → f k ≡ Some v → P v) → ((k : K) (v : V) → g k ≡ Some v → P v) → RowsMean IsRow f rows → RowsMean IsRow g rows
      → (k : K) (v : V) → f k ≡ Some v → g k ≡ Some v
  finds_too f g pf pg a b k v some =
      let r = a.all k v some in
      let e = b.each r.0 r.1 in
      let same = one r.0 k e.0 v e.1 r.2 e.2 (pf k v some) (pg e.0 e.1 e.3) in
      ap g same.0 ∙ e.3 ∙ ap Some (sym same.1)

  pub same_lookup : (f g : K → Option V) → ((k : K) (v : V) → f k ≡ Some v → P v) → ((k : K) (v : V) → g k ≡ Some v → P v) → RowsMean IsRow f rows → RowsMean IsRow g rows → (k : K) → f k ≡ g k
  same_lookup f g pf pg a b k = go (f k) refl
    where
      other : (o : Option V) → g k ≡ o → f k ≡ None → None ≡ g k
      other None is none = sym is
      other (Some w) is none = let e = sym none ∙ finds_too g f pg pf b a k w is in cc

      go : (o : Option V) → f k ≡ o → f k ≡ g k
      go None is = is ∙ other (g k) refl is
      go (Some v) is = is ∙ sym (finds_too f g pf pg a b k v is)

abbrev Anything : {V : Type 0} → V → Type 0
Anything v = Unit {0}

-- ---- values

int_of : (x y : ℤ) → Int x ≡ Int y → x ≡ y
int_of x y e = cc

text_of : (x y : List ℕ) → Text x ≡ Text y → x ≡ y
text_of x y e = cc

blob_of : (x y : List ℕ) → Blob x ≡ Blob y → x ≡ y
blob_of x y e = cc

number_of : (m n : ℕ) → Int (pos m) ≡ Int (pos n) → m ≡ n
number_of m n e = let same = int_of (pos m) (pos n) e in cc

same_flag : (a b : Bool) → Int (flag a) ≡ Int (flag b) → a ≡ b
same_flag true true e = refl
same_flag true false e = let n = number_of 1 0 e in cc
same_flag false true e = let n = number_of 0 1 e in cc
same_flag false false e = refl

same_role : (a b : Role) → Int (role_number a) ≡ Int (role_number b) → a ≡ b
same_role Clerk Clerk e = refl
same_role Clerk Link e = let n = number_of 1 0 e in cc
same_role Link Clerk e = let n = number_of 0 1 e in cc
same_role Link Link e = refl

same_mode : (a b : Mode) → Int (mode_number a) ≡ Int (mode_number b) → a ≡ b
same_mode Keep Keep e = refl
same_mode Keep Replace e = let n = number_of 0 1 e in cc
same_mode Replace Keep e = let n = number_of 1 0 e in cc
same_mode Replace Replace e = refl

same_days : (a b : List Bool) → days_text a ≡ days_text b → a ≡ b
same_days [] [] e = refl
same_days [] (y ∷ ys) e = cc
same_days (x ∷ xs) [] e = cc
same_days (true ∷ xs) (true ∷ ys) e = let tail : days_text xs ≡ days_text ys = cc in ap (◌∷◌ true) (same_days xs ys tail)
same_days (true ∷ xs) (false ∷ ys) e = let head : ◌≡◌ {A = ℕ} 0x31 0x30 = cc in let none : ⊥ = omega (arith, head) in absurd none
same_days (false ∷ xs) (true ∷ ys) e = let head : ◌≡◌ {A = ℕ} 0x30 0x31 = cc in let none : ⊥ = omega (arith, head) in absurd none
same_days (false ∷ xs) (false ∷ ys) e = let tail : days_text xs ≡ days_text ys = cc in ap (◌∷◌ false) (same_days xs ys tail)

-- ---- texts separated by commas

abbrev All : List ℕ → Type 0
All t = list_all is_rule_byte t ≡ true

no_comma : (b : ℕ) (t : List ℕ) → All (b ∷ t) → 0x2C ≡ b → ⊥
no_comma b t all same = let parts = and_parts (is_rule_byte b) (list_all is_rule_byte t) all in let e : is_rule_byte 0x2C ≡ true = ap is_rule_byte same ∙ parts.0 in cc

cut_once : (t u x y : List ℕ) → All t → All u → t ++ 0x2C ∷ x ≡ u ++ 0x2C ∷ y → (t ≡ u) × (x ≡ y)
cut_once [] [] x y a b e = let tail : x ≡ y = cc in (refl, tail)
cut_once [] (c ∷ u) x y a b e = let head : ◌≡◌ {A = ℕ} 0x2C c = cc in absurd (no_comma c u b head)
cut_once (c ∷ t) [] x y a b e = let head : ◌≡◌ {A = ℕ} 0x2C c = cc in absurd (no_comma c t a head)
cut_once (c ∷ t) (d ∷ u) x y a b e =
    let head : c ≡ d = cc in
    let tail : t ++ 0x2C ∷ x ≡ u ++ 0x2C ∷ y = cc in
    let rest = cut_once t u x y (and_parts (is_rule_byte c) (list_all is_rule_byte t) a).1 (and_parts (is_rule_byte d) (list_all is_rule_byte u) b).1 tail in
    (λ i. head i ∷ rest.0 i, rest.1)

never_cut : (t u x : List ℕ) → All u → t ++ 0x2C ∷ x ≡ u → ⊥
never_cut [] [] x b e = cc
never_cut [] (c ∷ u) x b e = let head : ◌≡◌ {A = ℕ} 0x2C c = cc in no_comma c u b head
never_cut (c ∷ t) [] x b e = cc
never_cut (c ∷ t) (d ∷ u) x b e = let tail : t ++ 0x2C ∷ x ≡ u = cc in never_cut t u x (and_parts (is_rule_byte d) (list_all is_rule_byte u) b).1 tail

not_empty : (n : ℕ) (t : List ℕ) → IsRuleText n t → [] ≡ t → ⊥
not_empty n [] w e = let some = w.word.some in omega (arith, some)
not_empty n (c ∷ t) w e = cc

ends_empty : (t x : List ℕ) → [] ≡ t ++ 0x2C ∷ x → ⊥
ends_empty [] x e = cc
ends_empty (c ∷ t) x e = cc

pub same_joined : (n : ℕ) (ts us : List (List ℕ)) → AllByRecursion (IsRuleText n) ts → AllByRecursion (IsRuleText n) us → joined ts ≡ joined us → ts ≡ us
same_joined n [] [] a b e = refl
same_joined n [] (u ∷ []) a b e = absurd (not_empty n u b.0 e)
same_joined n [] (u ∷ v ∷ us) a b e = absurd (ends_empty u (joined (v ∷ us)) e)
same_joined n (t ∷ []) [] a b e = absurd (not_empty n t a.0 (sym e))
same_joined n (t ∷ s ∷ ts) [] a b e = absurd (ends_empty t (joined (s ∷ ts)) (sym e))
same_joined n (t ∷ []) (u ∷ []) a b e = ap (λ x. x ∷ []) e
same_joined n (t ∷ []) (u ∷ v ∷ us) a b e = absurd (never_cut u t (joined (v ∷ us)) a.0.word.each (sym e))
same_joined n (t ∷ s ∷ ts) (u ∷ []) a b e = absurd (never_cut t u (joined (s ∷ ts)) b.0.word.each e)
same_joined n (t ∷ s ∷ ts) (u ∷ v ∷ us) a b e =
    let first = cut_once t u (joined (s ∷ ts)) (joined (v ∷ us)) a.0.word.each b.0.word.each e in
    let rest = same_joined n (s ∷ ts) (v ∷ us) a.1 b.1 first.1 in
    λ i. first.0 i ∷ rest i

same_rule : (a b : NameRule) → IsNameRule a → IsNameRule b → Int (rule_number a) ≡ Int (rule_number b) → Text (rule_text a) ≡ Text (rule_text b) → a ≡ b
same_rule AnyName AnyName x y kind text = refl
same_rule AnyName (Ends us) x y kind text = let n = number_of 0 1 kind in cc
same_rule AnyName (Begins u) x y kind text = let n = number_of 0 2 kind in cc
same_rule (Ends ts) AnyName x y kind text = let n = number_of 1 0 kind in cc
same_rule (Ends ts) (Ends us) x y kind text = ap Ends (same_joined 32 ts us x.2 y.2 (text_of (joined ts) (joined us) text))
same_rule (Ends ts) (Begins u) x y kind text = let n = number_of 1 2 kind in cc
same_rule (Begins t) AnyName x y kind text = let n = number_of 2 0 kind in cc
same_rule (Begins t) (Ends us) x y kind text = let n = number_of 2 1 kind in cc
same_rule (Begins t) (Begins u) x y kind text = ap Begins (text_of t u text)

-- ---- what one row means

one_offset : (version : ℤ) (row : Row) (k q : Unit {0}) (v w : ℤ) → IsOfficeRow version row k v → IsOfficeRow version row q w → Anything v → Anything w → (k ≡ q) × (v ≡ w)
one_offset version row k q v w a b x y = (refl, int_of v w (sym a.east_is ∙ b.east_is))

one_key : (row : Row) (k q : List ℕ) (v w : Key) → IsKeyRow row k v → IsKeyRow row q w → Anything v → Anything w → (k ≡ q) × (v ≡ w)
one_key row k q v w a b x y =
    let role = same_role v.role w.role (sym a.role_is ∙ b.role_is) in
    let secret = blob_of v.secret w.secret (sym a.secret_is ∙ b.secret_is) in
    let revoked = same_flag v.revoked w.revoked (sym a.revoked_is ∙ b.revoked_is) in
    (text_of k q (sym a.id_is ∙ b.id_is), λ i. record { role = role i; secret = secret i; revoked = revoked i })

abbrev pub HasSettings : Box → Type 0
HasSettings b = AreSettings b.settings

one_box : (row : Row) (k q : List ℕ) (v w : Box) → IsBoxRow row k v → IsBoxRow row q w → HasSettings v → HasSettings w → (k ≡ q) × (v ≡ w)
one_box row k q v w a b x y =
    let opens = number_of v.settings.opens w.settings.opens (sym a.opens_is ∙ b.opens_is) in
    let closes = number_of v.settings.closes w.settings.closes (sym a.closes_is ∙ b.closes_is) in
    let days = same_days v.settings.days w.settings.days (text_of (days_text v.settings.days) (days_text w.settings.days) (sym a.days_is ∙ b.days_is)) in
    let from = number_of v.settings.from_minute w.settings.from_minute (sym a.from_is ∙ b.from_is) in
    let to = number_of v.settings.to_minute w.settings.to_minute (sym a.to_is ∙ b.to_is) in
    let quota = number_of v.settings.quota w.settings.quota (sym a.quota_is ∙ b.quota_is) in
    let most = number_of v.settings.max_files w.settings.max_files (sym a.max_is ∙ b.max_is) in
    let mode = same_mode v.settings.mode w.settings.mode (sym a.mode_is ∙ b.mode_is) in
    let rule = same_rule v.settings.rule w.settings.rule x.rule y.rule (sym a.kind_is ∙ b.kind_is) (sym a.text_is ∙ b.text_is) in
    let used = number_of v.used w.used (sym a.used_is ∙ b.used_is) in
    let count = number_of v.count w.count (sym a.count_is ∙ b.count_is) in (
      text_of k q (sym a.name_is ∙ b.name_is),
      λ i. record {
        settings = record { opens = opens i; closes = closes i; days = days i; from_minute = from i; to_minute = to i; quota = quota i; max_files = most i; mode = mode i; rule = rule i };
        used = used i;
        count = count i;
      },
    )

one_receipt : (row : Row) (k q : ℕ) (v w : Receipt) → IsReceiptRow row k v → IsReceiptRow row q w → Anything v → Anything w → (k ≡ q) × (v ≡ w)
one_receipt row k q v w a b x y =
    let number = number_of (k + 1) (q + 1) (sym a.number_is ∙ b.number_is) in
    let box = text_of v.box w.box (sym a.box_is ∙ b.box_is) in
    let name = text_of v.name w.name (sym a.name_is ∙ b.name_is) in
    let size = number_of v.size w.size (sym a.length_is ∙ b.length_is) in
    let digest = blob_of v.digest w.digest (sym a.digest_is ∙ b.digest_is) in
    let moment = number_of v.moment w.moment (sym a.moment_is ∙ b.moment_is) in
    let key = text_of v.key w.key (sym a.key_is ∙ b.key_is) in
    (omega (arith, number), λ i. record { box = box i; name = name i; size = size i; digest = digest i; moment = moment i; key = key i })

one_file : (row : Row) (k q : Place) (v w : ℕ) → IsFileRow row k v → IsFileRow row q w → Anything v → Anything w → (k ≡ q) × (v ≡ w)
one_file row k q v w a b x y =
    let box = text_of k.box q.box (sym a.box_is ∙ b.box_is) in
    let name = text_of k.name q.name (sym a.name_is ∙ b.name_is) in
    (λ i. record { box = box i; name = name i }, number_of v w (sym a.receipt_is ∙ b.receipt_is))

pub one_piece : (row : Row) (k q : Part) (v w : List ℕ) → IsPieceRow row k v → IsPieceRow row q w → Anything v → Anything w → (k ≡ q) × (v ≡ w)
one_piece row k q v w a b x y =
    let box = text_of k.place.box q.place.box (sym a.box_is ∙ b.box_is) in
    let name = text_of k.place.name q.place.name (sym a.name_is ∙ b.name_is) in
    let at = number_of k.at q.at (sym a.part_is ∙ b.part_is) in
    (λ i. record { place = record { box = box i; name = name i }; at = at i }, blob_of v w (sym a.bytes_is ∙ b.bytes_is))

one_allowance : (row : Row) (k q : Unit {0}) (v w : ℕ) → IsRulesRow row k v → IsRulesRow row q w → Anything v → Anything w → (k ≡ q) × (v ≡ w)
one_allowance row k q v w a b x y = (refl, number_of v w (sym a.allowance_is ∙ b.allowance_is))

one_limit : (row : Row) (k q : Limit) (v w : Unit {0}) → IsLimitRow row k v → IsLimitRow row q w → Anything v → Anything w → (k ≡ q) × (v ≡ w)
one_limit row k q v w a b x y =
    let key = text_of k.key q.key (sym a.key_is ∙ b.key_is) in
    let box = text_of k.box q.box (sym a.box_is ∙ b.box_is) in
    (λ i. record { key = key i; box = box i }, refl)

-- ---- bytes and their pieces

-- the bytes of a piece, if it exists
abbrev bytes_in : Option (List ℕ) → List ℕ
bytes_in None = []
bytes_in (Some bytes) = bytes

piece_at : (xs : List ℕ) (n : ℕ) → take 65536 (drop (65536 * n) xs) ≡ bytes_in (piece_of xs n)
piece_at xs n = elim (cases_Bool (nat_lt (65536 * n) (length xs))) [
  | inl within ↦ rw within
  | inr beyond ↦ rw (beyond, drop_of_length-le xs (ltb-false (65536 * n) (length xs) beyond))
]

same_fronts : (xs ys : List ℕ) → ((n : ℕ) → piece_of xs n ≡ piece_of ys n) → (n : ℕ) → take (65536 * n) xs ≡ take (65536 * n) ys
same_fronts xs ys same zero = refl
same_fronts xs ys same (suc n) =
    let more : 65536 * suc n ≡ 65536 * n + 65536 = omega arith in
    ap (λ m. take m xs) more ∙ take-add (65536 * n) 65536 xs
    ∙ (λ i. same_fronts xs ys same n i ++ (piece_at xs n ∙ ap (bytes_in) (same n) ∙ sym (piece_at ys n)) i)
    ∙ sym (ap (λ m. take m ys) more ∙ take-add (65536 * n) 65536 ys)

pub same_pieces : (xs ys : List ℕ) → ((n : ℕ) → piece_of xs n ≡ piece_of ys n) → xs ≡ ys
same_pieces xs ys same =
    let n = length xs + length ys in
    sym (take_all (65536 * n) xs (omega arith)) ∙ same_fronts xs ys same n ∙ take_all (65536 * n) ys (omega arith)

-- ---- the whole state

same_list : {X : Type 0} (xs ys : List X) → ((i : ℕ) → slice_get xs i ≡ slice_get ys i) → xs ≡ ys
same_list [] [] h = refl
same_list [] (y ∷ ys) h = let e = h 0 in cc
same_list (x ∷ xs) [] h = let e = h 0 in cc
same_list (x ∷ xs) (y ∷ ys) h = let e = h 0 in let head : x ≡ y = cc in let rest = same_list xs ys (λ i. h (suc i)) in rw (head, rest)

-- a box is determined by its settings
same_settings : (s t : State) (name : List ℕ) → (tables_of s).box name ≡ (tables_of t).box name → get s.boxes name ≡ get t.boxes name
same_settings s t name e = go (get s.boxes name) (get t.boxes name) refl refl
  where
    go : (a b : Option Settings) → get s.boxes name ≡ a → get t.boxes name ≡ b → get s.boxes name ≡ get t.boxes name
    go None None x y = x ∙ sym y
    go None (Some w) x y = let f = rw (x, y) at e in cc
    go (Some v) None x y = let f = rw (x, y) at e in cc
    go (Some v) (Some w) x y =
        let f = rw (x, y) at e in
        let g = ap (option_map (λ (c : Box). c.settings)) f in
        let same : v ≡ w = cc in
        x ∙ ap Some same ∙ sym y

-- a file is determined by its number and its pieces
same_file : (a b : Option File) → option_map (λ f. f.receipt) a ≡ option_map (λ f. f.receipt) b → ((n : ℕ) → option_and_then (λ f. piece_of f.bytes n) a ≡ option_and_then (λ f. piece_of f.bytes n) b) → a ≡ b
same_file None None e h = refl
same_file None (Some y) e h = cc
same_file (Some x) None e h = cc
same_file (Some x) (Some y) e h =
    let number : x.receipt ≡ y.receipt = cc in
    let bytes = same_pieces x.bytes y.bytes h in
    λ i. Some (record { bytes = bytes i; receipt = number i })

module _ (s : State) (sound : IsSound s) where
  pub known_box : (name : List ℕ) (b : Box) → (tables_of s).box name ≡ Some b → HasSettings b
  known_box name b is = go (get s.boxes name) refl
    where
      go : (o : Option Settings) → get s.boxes name ≡ o → HasSettings b
      go None none = let e = rw none at is in cc
      go (Some settings) some =
          let e = rw some at is in
          let same : settings ≡ b.settings = let f = ap (option_map (λ (c : Box). c.settings)) e in cc in
          subst AreSettings same (sound.boxes name settings some).1

same_allowance : (v : Version) → IsVersion v → (trees : Trees) (a b : State) → TablesMean v trees (tables_of a) → TablesMean v trees (tables_of b) → a.allowance ≡ b.allowance
unfolding IsVersion
same_allowance v (inl first) trees a b one two = (one.unlimited first).0 ∙ sym (two.unlimited first).0
same_allowance v (inr second) trees a b one two =
    let both : Some a.allowance ≡ Some b.allowance = same_lookup Anything one_allowance (trees 11) (λ u. Some a.allowance) (λ u. Some b.allowance) (λ k v e. tt) (λ k v e. tt) (one.rules second) (two.rules second) tt in
    cc

same_limits : (v : Version) → IsVersion v → (trees : Trees) (a b : State) → TablesMean v trees (tables_of a) → TablesMean v trees (tables_of b) → (l : Limit) → get a.limits l ≡ get b.limits l
unfolding IsVersion
same_limits v (inl first) trees a b one two l = (one.unlimited first).1 l ∙ sym ((two.unlimited first).1 l)
same_limits v (inr second) trees a b one two l = same_lookup Anything one_limit (trees 12) (get a.limits) (get b.limits) (λ k v e. tt) (λ k v e. tt) (one.limits second) (two.limits second) l

pub one_office : (v : Version) → IsVersion v → (trees : Trees) (a b : State) → IsSound a → IsSound b → TablesMean v trees (tables_of a) → TablesMean v trees (tables_of b) → a ≡ b
one_office v ours trees a b sound other one two =
    let offset : Some a.offset ≡ Some b.offset = same_lookup Anything (one_offset v.number) (trees 0) (λ u. Some a.offset) (λ u. Some b.offset) (λ k v e. tt) (λ k v e. tt) one.office two.office tt in
    let east : a.offset ≡ b.offset = cc in
    let allowance = same_allowance v ours trees a b one two in
    let limits = same_map limit_total limit_same a.limits b.limits (same_limits v ours trees a b one two) in
    let key = same_lookup Anything one_key (trees 1) (get a.keys) (get b.keys) (λ k v e. tt) (λ k v e. tt) one.keys two.keys in
    let box = same_lookup HasSettings one_box (trees 3) (tables_of a).box (tables_of b).box (known_box a sound) (known_box b other) one.boxes two.boxes in
    let receipt = same_lookup Anything one_receipt (trees 5) (slice_get a.receipts) (slice_get b.receipts) (λ k v e. tt) (λ k v e. tt) one.receipts two.receipts in
    let number = same_lookup Anything one_file (trees 6) (tables_of a).file (tables_of b).file (λ k v e. tt) (λ k v e. tt) one.files two.files in
    let piece = same_lookup Anything one_piece (trees 9) (tables_of a).piece (tables_of b).piece (λ k v e. tt) (λ k v e. tt) one.pieces two.pieces in
    let keys : a.keys ≡ b.keys = same_map bytes_total bytes_same a.keys b.keys key in
    let boxes : a.boxes ≡ b.boxes = same_map bytes_total bytes_same a.boxes b.boxes (λ name. same_settings a b name (box name)) in
    let files : a.files ≡ b.files = same_map place_total place_same a.files b.files (λ place. same_file (get a.files place) (get b.files place) (number place) (λ n. piece (record { place = place; at = n }))) in
    let receipts = same_list a.receipts b.receipts receipt in
    λ i. record { offset = east i; allowance = allowance i; keys = keys i; boxes = boxes i; files = files i; receipts = receipts i; limits = limits i }

-- the rows that a crash leaves mean only one sound state
pub one_left : (trees : Trees) (a b : State) → RowsKeep trees a → RowsKeep trees b → a ≡ b
one_left trees a b one two = one_office v2 second_version trees a b one.sound two.sound one.means.means two.means.means

-- an open file means only one state
pub one_kept : (s : sql.State) (a b : State) → HasCleanDisk s → IsTrue s.is_open → KeepsState s a → KeepsState s b → a ≡ b
one_kept s a b clean is_open one two =
    let first = ((one.means clean).tables is_open).holds in
    let second = ((two.means clean).tables is_open).holds in
    one_office v2 second_version s.now.trees a b one.sound two.sound first.means second.means
