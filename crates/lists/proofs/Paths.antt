-- Paths of exported files: their bytes, and which folders have the names of their boxes.
use Rattle.std.proofs.Common.{◌≡◌, ◌≢◌, ◌∙◌, inl, inr, codes, ℕ, zero, suc, ◌-◌, ◌^◌, ◌<◌, ◌≤◌, Bool, true, false, List, [], ◌∷◌, ◌++◌, length, get_or, refl, sym, ap, subst, arith, ⊎_elim, length-append}
use Rattle.std.specs.Prelude.{◌&&◌, IsTrue, slice_index}
use Rattle.std.specs.List.{list_all}
use Rattle.std.proofs.lemmas.Bool.{cases_lt, false≢true}
use Rattle.std.proofs.lemmas.Bool.Decides.{nat_tests}
use Rattle.std.proofs.lemmas.List.{ext_get_or, get_or_append_left, get_or-append_right, take_all}
use Rattle.std.proofs.lemmas.Str.{IsCharBoundary-end, IsUtf8-from_ascii}
use Rattle.std.proofs.lemmas.Str.Ascii.{IsAscii-from_reads}
use Rattle.boxes.specs.Sound.{is_box_byte, IsBoxName}
use Rattle.boxes.specs.State.{Place}
use Rattle.lists.specs.Exports.{IsPath}
use Rattle.lists.specs.Names.{IsCalled, IsFolderName, IsFront, IsPart, is_plain, MayStand}
use Rattle.lists.proofs.Components.{component, folder_component}

-- ---- no byte is escaped

abbrev Unescaped : ℕ → Type 0
Unescaped b = (b ≢ 10) × (b ≢ 92)

plain_unescaped : (b : ℕ) → IsTrue (is_plain b) → Unescaped b
plain_unescaped b is = (λ e. false≢true (sym (ap is_plain e) ∙ is), λ e. false≢true (sym (ap is_plain e) ∙ is))

each_joined : (P : ℕ → Type 0) (xs ys : List ℕ) → ((i : ℕ) → i < length xs → P (get_or xs i 0)) → ((i : ℕ) → i < length ys → P (get_or ys i 0))
    → (i : ℕ) → i < length (xs ++ ys) → P (get_or (xs ++ ys) i 0)
each_joined P xs ys first second i h = ⊎_elim
    (λ (low : i < length xs). subst P (sym (get_or_append_left xs ys 0 i low)) (first i low))
    (λ (high : length xs ≤ i).
    subst P (sym (get_or-append_right xs ys (length xs) i 0 refl high)) (second (i - length xs) (omega (arith, length-append xs ys))))
    (cases_lt i (length xs))

abbrev slash : List ℕ
slash = 47 ∷ []

slash_unescaped : (i : ℕ) → i < length slash → Unescaped (get_or slash i 0)
slash_unescaped i h =
    let first : 0 ≡ i = omega arith in
    subst (λ (k : ℕ). Unescaped (get_or slash k 0)) first ((λ e. omega (arith, e)), (λ e. omega (arith, e)))

pub path_unescaped : (place : Place) (number : ℕ) (path : List ℕ) → number < 2 ^ 64 → IsPath place number path
    → (i : ℕ) → i < length path → (slice_index path i ≢ 10) × (slice_index path i ≢ 92)
path_unescaped place number path small is =
    let folder = folder_component place.box is.folder is.is_folder in
    let name = component number place.name is.name small is.is_name in
    let behind = each_joined Unescaped slash is.name slash_unescaped (λ i h. plain_unescaped (get_or is.name i 0) (name.plain i h)) in
    subst (λ (t : List ℕ). (i : ℕ) → i < length t → Unescaped (get_or t i 0)) (sym is.is)
    (each_joined Unescaped is.folder (47 ∷ is.name) (λ i h. plain_unescaped (get_or is.folder i 0) (folder.plain i h)) behind)

-- ---- a folder of the box's own name

both : (a b : Bool) → (a && b) ≡ true → (a ≡ true) × (b ≡ true)
both true b e = (refl, e)
both false b e = absurd cc

byte_at : (p : ℕ → Bool) (xs : List ℕ) → list_all p xs ≡ true → (i : ℕ) → i < length xs → p (get_or xs i 0) ≡ true
byte_at p [] all i h = absurd (omega arith)
byte_at p (x ∷ xs) all zero h = (both (p x) (list_all p xs) all).0
byte_at p (x ∷ xs) all (suc i) h = byte_at p xs (both (p x) (list_all p xs) all).1 i (omega arith)

box_plain : (b : ℕ) → is_box_byte b ≡ true → is_plain b ≡ true
box_plain b e = grind (arith, nat_tests)

box_ascii : (b : ℕ) → is_box_byte b ≡ true → b < 128
box_ascii b e = grind (arith, nat_tests)

module _ (box : List ℕ) (named : IsBoxName box) (begins : slice_index box 0 ≢ 46) (ends : slice_index box (length box - 1) ≢ 46) where
  each : (i : ℕ) → i < length box → is_box_byte (get_or box i 0) ≡ true
  each = byte_at is_box_byte box named.each

  whole_front : (front : List ℕ) → IsFront box front → front ≡ box
  whole_front front is =
      let ascii = IsAscii-from_reads box (length box) (omega arith) (λ k h. box_ascii (get_or box k 0) (each k h)) in
      let cut = is.text (IsUtf8-from_ascii box ascii) in
      ⊎_elim
      (λ (less : cut.size < length box). absurd (cut.most (length box) less (omega (arith, named.short)) (IsCharBoundary-end box)))
      (λ (all : length box ≤ cut.size). cut.is ∙ take_all cut.size box all)
      (cases_lt cut.size (length box))

  may_stand : (i : ℕ) → i < length box → MayStand box i
  may_stand i h = record {
    plain = box_plain (get_or box i 0) (each i h);
    begun = λ dots. begins (dots 0 (omega arith));
    no_dot = λ end dot. let at : length box - 1 ≡ i = omega arith in ends (ap (λ (k : ℕ). get_or box k 0) at ∙ dot);
    no_space = λ end space. false≢true (sym (ap is_box_byte space) ∙ each i h);
  }

  own_name : box ≢ codes "files.csv" → box ≢ codes "sha256sums" → (name : List ℕ) → IsCalled box name → name ≡ box
  own_name files sums name (inl (is, called)) = absurd (files is)
  own_name files sums name (inr (inl (is, called))) = absurd (sums is)
  own_name files sums name (inr (inr (other, another, called))) = called

  pub own_folder : box ≢ codes "files.csv" → box ≢ codes "sha256sums" → (text : List ℕ) → IsFolderName box text → text ≡ box
  own_folder files sums text is =
      let front = subst (λ (name : List ℕ). IsFront name is.front) (own_name files sums is.called is.is_called) is.is_front in
      let part = subst (λ (f : List ℕ). IsPart f text) (whole_front is.front front) is.is_part in
      let (are, long) = part.some named.some in
      ext_get_or 0 text box long (λ i h. are.kept i h (may_stand i (omega (arith, long))))
