-- The queries for what comes next: which rows their WHERE passes, and which texts these rows hold.
use Rattle.std.proofs.Common.{◌≡◌, ℕ, List, [], ◌∷◌, ◌&&◌, true, false, Option, None, Some, refl, sym, ap, ◌∙◌}
use Rattle.std.specs.Prelude.{is_some, IsSome}
use Rattle.std.specs.List.{list_all}
use Rattle.std.specs.Ordering.{is_gt}
use Rattle.std.proofs.Math.Bool.{and-true}
use Rattle.std.proofs.lemmas.Bool.{and_parts, and_from}
use Rattle.sigtext.specs.Bytes.{bytes_cmp, same_bytes}
use Rattle.sqlite_value.specs.declared.value.Value.TheVariants.{Text}
use Rattle.sqlite_value.specs.Order.{Row, column}
use Rattle.sqlite_sql.specs.Term.{Term, holds}
use Rattle.boxes.specs.State.{Limit}
use Rattle.sqltables.specs.Tables.{Tables, IsKeyRow, IsBoxRow, IsFileRow, IsLimitRow, placed}
use Rattle.sqltables.specs.Questions.{HasLimit}
use Rattle.sqltables.proofs.Forms.{is}
use Rattle.sqltables.proofs.Rows.{equal_texts}
use Rattle.sqltables.proofs.Keys.{tells_bytes, by_order}
use Rattle.sqlquestions.proofs.FollowingTexts.{behind}
use Rattle.sqlquestions.proofs.FirstBehind.{Follows, greater_texts, is_behind, passes_behind}

is_there : {X : Type 0} (o : Option X) (x : X) → o ≡ Some x → IsSome o
is_there o x is = ap is_some is

some_there : {X : Type 0} (o : Option X) → IsSome o → (x : X) × (o ≡ Some x)
some_there None h = absurd (let e : false ≡ true = h in cc)
some_there (Some x) h = (x, refl)

-- ---- by a text alone

abbrev later : List Term
later = behind 1 0 ∷ []

passes_later : (after text : List ℕ) (row : Row) → column row 1 ≡ Text text → list_all (holds ((Text after ∷ []) ∷ row ∷ [])) later ≡ is_gt (bytes_cmp text after)
passes_later after text row is = rw (is, greater_texts text after) (and-true (is_gt (bytes_cmp text after)))

module _ {V : Type 0} (IsRow : Row → List ℕ → V → Type 0) (lookup : List ℕ → Option V) (named : (row : Row) (name : List ℕ) (v : V) → IsRow row name v → column row 1 ≡ Text name) (after : List ℕ) where
  pub follows_text : Follows IsRow lookup later 1 (Text after ∷ []) (λ name. IsSome (lookup name)) after
  follows_text = record {
    sound = λ row name v is there hit.
        let at = named row name v is in
        (name, at, is_there (lookup name) v there, is_behind after name (sym (passes_later after name row at) ∙ hit));
    complete = λ name stands comes.
        let v = some_there (lookup name) stands in
        (name, v.0, v.1, λ row is. let at = named row name v.0 is in (at, passes_later after name row at ∙ passes_behind after name comes));
  }

pub follows_key : (tables : Tables) (after : List ℕ) → Follows IsKeyRow tables.key later 1 (Text after ∷ []) (λ id. IsSome (tables.key id)) after
follows_key tables after = follows_text IsKeyRow tables.key (λ row id key is. is.id_is) after

pub follows_box : (tables : Tables) (after : List ℕ) → Follows IsBoxRow tables.box later 1 (Text after ∷ []) (λ name. IsSome (tables.box name)) after
follows_box tables after = follows_text IsBoxRow tables.box (λ row name box is. is.name_is) after

-- ---- within a box, or for a key

abbrev later_within : List Term
later_within = is 1 0 ∷ behind 2 1 ∷ []

passes_within : (within after first second : List ℕ) (row : Row) → column row 1 ≡ Text first → column row 2 ≡ Text second
    → list_all (holds ((Text within ∷ Text after ∷ []) ∷ row ∷ [])) later_within ≡ same_bytes first within && is_gt (bytes_cmp second after)
passes_within within after first second row is_first is_second =
    rw (is_first, is_second, equal_texts first within, ← by_order first within, greater_texts second after) (ap (◌&&◌ (same_bytes first within)) (and-true (is_gt (bytes_cmp second after))))

module _ {K V : Type 0} (IsRow : Row → K → V → Type 0) (lookup : K → Option V) (pair : List ℕ → List ℕ → K) (first second : K → List ℕ) (paired : (k : K) → pair (first k) (second k) ≡ k)
    (firsts : (a b : List ℕ) → first (pair a b) ≡ a) (seconds : (a b : List ℕ) → second (pair a b) ≡ b)
    (first_is : (row : Row) (k : K) (v : V) → IsRow row k v → column row 1 ≡ Text (first k)) (second_is : (row : Row) (k : K) (v : V) → IsRow row k v → column row 2 ≡ Text (second k)) (within after : List ℕ) where
  pub follows_pair : Follows IsRow lookup later_within 2 (Text within ∷ Text after ∷ []) (λ name. IsSome (lookup (pair within name))) after
  follows_pair = record {
    sound = λ row k v is there hit.
        let parts = and_parts (same_bytes (first k) within) (is_gt (bytes_cmp (second k) after)) (sym (passes_within within after (first k) (second k) row (first_is row k v is) (second_is row k v is)) ∙ hit) in
        let same : pair within (second k) ≡ k = ap (λ a. pair a (second k)) (sym (tells_bytes.only (first k) within parts.0)) ∙ paired k in
        (second k, second_is row k v is, is_there (lookup (pair within (second k))) v (ap lookup same ∙ there), is_behind after (second k) parts.1);
    complete = λ name stands comes.
        let k = pair within name in
        let v = some_there (lookup k) stands in (
          k,
          v.0,
          v.1,
          λ row is.
              let at_first = first_is row k v.0 is ∙ ap Text (firsts within name) in
              let at_second = second_is row k v.0 is ∙ ap Text (seconds within name) in
              (at_second, passes_within within after within name row at_first at_second ∙ and_from (same_bytes within within) (is_gt (bytes_cmp name after)) (tells_bytes.itself within) (passes_behind after name comes)),
        );
  }

pub follows_file : (tables : Tables) (in_box after : List ℕ)
    → Follows IsFileRow tables.file later_within 2 (Text in_box ∷ Text after ∷ []) (λ name. IsSome (tables.file (placed in_box name))) after
follows_file tables in_box after =
    follows_pair IsFileRow tables.file placed (λ p. p.box) (λ p. p.name) (λ p. refl) (λ a b. refl) (λ a b. refl) (λ row p n is. is.box_is) (λ row p n is. is.name_is) in_box after

abbrev limited : List ℕ → List ℕ → Limit
limited key box = record { key = key; box = box }

pub follows_limit : (tables : Tables) (id after : List ℕ) → Follows IsLimitRow tables.limit later_within 2 (Text id ∷ Text after ∷ []) (HasLimit tables id) after
follows_limit tables id after =
    follows_pair IsLimitRow tables.limit limited (λ l. l.key) (λ l. l.box) (λ l. refl) (λ a b. refl) (λ a b. refl) (λ row l one is. is.key_is) (λ row l one is. is.box_is) id after
