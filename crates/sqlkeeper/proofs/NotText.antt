-- Nothing in a sound state is named by bytes that are not UTF-8.
use Rattle.std.proofs.Common.{◌≡◌, ℕ, ◌<◌, ◌≤◌, Bool, true, List, [], ◌∷◌, length, Option, Some, None, option_map, All, ⊎_elim, arith, lit<, refl, sym, ap, subst}
use Rattle.std.specs.Prelude.{IsUtf8, slice_index, IsSomeAnd}
use Rattle.std.specs.List.{list_all}
use Rattle.std.specs.FinMap.{get}
use Rattle.std.proofs.Math.ListN.{get_or-eq_default}
use Rattle.std.proofs.lemmas.Bool.{and_parts, cases_lt}
use Rattle.std.proofs.lemmas.Bool.Decides.{nat_tests}
use Rattle.std.proofs.lemmas.Str.{IsUtf8-from_ascii}
use Rattle.std.proofs.lemmas.List.Elements.{All-nil, All-cons}
use Rattle.sigtext.specs.Bytes.{IsWord}
use Rattle.sigv4.specs.Credential.{is_key_byte}
use Rattle.boxes.specs.State.{Place, File, State}
use Rattle.boxes.specs.Limits.{IsLimitedTo}
use Rattle.boxes.specs.Rows.{IsFileAt}
use Rattle.boxes.specs.Rules.{HasBytes}
use Rattle.boxes.specs.Views.{IsReceiptAt}
use Rattle.boxes.specs.Sound.{IsSound, IsReceipt, is_box_byte}
use Rattle.boxes.proofs.NoBox.{all_at}

module _ (test : ℕ → Bool) (small : (b : ℕ) → test b ≡ true → b < 128) where
  all_ascii : (text : List ℕ) → list_all test text ≡ true → All (λ b. b < 128) text
  all_ascii [] e = All-nil (λ b. b < 128)
  all_ascii (c ∷ text) e = let p = and_parts (test c) (list_all test text) e in All-cons (λ b. b < 128) c text (small c p.0) (all_ascii text p.1)

  -- an index past the end gives 0
  ascii_at : (text : List ℕ) → All (λ b. b < 128) text → (i : ℕ) → slice_index text i < 128
  ascii_at text all i =
      ⊎_elim (λ (within : i < length text). all i 0 within) (λ (past : length text ≤ i). subst (λ (n : ℕ). n < 128) (sym (get_or-eq_default text 0 past)) (lit< tt)) (cases_lt i (length text))

  pub word_text : (n : ℕ) (text : List ℕ) → IsWord test n text → IsUtf8 text
  word_text n text word = IsUtf8-from_ascii text (ascii_at text (all_ascii text word.each))

key_small : (b : ℕ) → is_key_byte b ≡ true → b < 128
key_small b e = grind (arith, nat_tests)

box_small : (b : ℕ) → is_box_byte b ≡ true → b < 128
box_small b e = grind (arith, nat_tests)

none_if : {X : Type 0} (o : Option X) → ((x : X) → o ≡ Some x → ⊥) → None ≡ o
none_if None none = refl
none_if (Some x) none = absurd (none x refl)

pub no_key : (s : State) → IsSound s → (id : List ℕ) → (IsUtf8 id → ⊥) → None ≡ get s.keys id
no_key s sound id none = none_if (get s.keys id) (λ k there. none (word_text is_key_byte key_small 64 id (sound.keys id k there).0))

pub no_box : (s : State) → IsSound s → (name : List ℕ) → (IsUtf8 name → ⊥) → None ≡ get s.boxes name
no_box s sound name none = none_if (get s.boxes name) (λ b there. none (word_text is_box_byte box_small 63 name (sound.boxes name b there).0))

some_box : {X : Type 0} (o : Option X) (P : X → Type 0) → IsSomeAnd o P → None ≡ o → ⊥
some_box None P h e = h
some_box (Some x) P h e = cc

pub no_file_in : (s : State) → IsSound s → (place : Place) → (IsUtf8 place.box → ⊥) → None ≡ get s.files place
no_file_in s sound place none = none_if (get s.files place) (λ f there.
    let it = sound.files place f there in
    let r = all_at (IsReceipt s) s.receipts it.listed.place it.receipt sound.receipts it.listed.listed in
    some_box (get s.boxes it.receipt.box) _ r.box (subst (λ b. None ≡ get s.boxes b) (sym it.box) (no_box s sound place.box none)))

pub no_file_named : (s : State) → IsSound s → (place : Place) → (IsUtf8 place.name → ⊥) → None ≡ get s.files place
no_file_named s sound place none = none_if (get s.files place) (λ f there.
    let it = sound.files place f there in
    let r = all_at (IsReceipt s) s.receipts it.listed.place it.receipt sound.receipts it.listed.listed in
    none (subst IsUtf8 it.name r.name.text))

-- a key named by bytes that are not UTF-8 is limited to no box
pub no_limit : (s : State) → IsSound s → (id box : List ℕ) → (IsUtf8 id → ⊥) → IsLimitedTo s id box → ⊥
no_limit s sound id box none held = some_box (get s.keys id) _ (sound.limits id box held).link (no_key s sound id none)

pub none_at : (s : State) (place : Place) → None ≡ get s.files place → IsFileAt s place None
none_at s place none = record { file = none; receipt = λ f is. absurd cc }

pub no_receipt_at : (s : State) (place : Place) → None ≡ get s.files place → IsReceiptAt s place None
no_receipt_at s place none = record { there = ap (option_map (λ (f : File). f.receipt)) none; receipt = λ r is. absurd cc }

pub no_bytes_at : (s : State) (place : Place) (bytes : List ℕ) → None ≡ get s.files place → HasBytes s place bytes → ⊥
no_bytes_at s place bytes none has = some_box (get s.files place) _ has none
