-- An accepted upload keeps the state sound.
use Rattle.std.proofs.Common.{◌≡◌, ◌∙◌, ◌⊎◌, ℕ, zero, suc, ◌+◌, ◌-◌, ◌≤◌, ◌<◌, List, [], ◌∷◌, ◌++◌, true, false, cond, length, Option, Some, None, refl, sym, ap, subst, arith, ⊎_elim, inl, inr, rules}
use Rattle.std.specs.Prelude.{slice_get, IsSome, IsSomeAnd, IfSome, IsNone, ⊤}
use Rattle.std.specs.List.{AllByRecursion}
use Rattle.std.specs.Ordering.{eq_by_cmp}
use Rattle.std.specs.FinMap.{get, get-insert}
use Rattle.std.proofs.lemmas.List.Elements.{recursion_from_All}
use Rattle.sha2.proofs.Facts256.{length-sha256}
use Rattle.sigtext.specs.Bytes.{same_bytes}
use Rattle.sigtext.specs.declared.refusal.Refusal.{Refusal}
use Rattle.sigtext.specs.declared.refusal.Refusal.TheVariants as rule
use Rattle.sigv4.specs.Hmac.{sha256}
use Rattle.sigv4.proofs.Digests.{small_sha256}
use Rattle.boxes.specs.State.{Place, place_cmp, File, Receipt, Settings, State}
use Rattle.boxes.specs.Totals.{used, count}
use Rattle.boxes.specs.Opening.{Fits}
use Rattle.boxes.specs.Rules.{Upload, NewBytesRule, standing_bytes}
use Rattle.boxes.specs.Steps.{after_upload, receipt_of, HasReceipt}
use Rattle.boxes.specs.Sound.{IsDigest, IsSound, IsReceipt, IsFileOf}
use Rattle.boxes.specs.Changes.{IsTaken}
use Rattle.boxes.proofs.Lookups.{place_total, equal_is}
use Rattle.boxes.proofs.FileTotals.{ones, place_same, used_here, used_there, count_here, count_there, texts_alike}

all_append : {X : Type 0} (P Q : X → Type 0) (xs : List X) (y : X) → ((x : X) → P x → Q x) → AllByRecursion P xs → Q y → AllByRecursion Q (xs ++ y ∷ [])
all_append P Q [] y each all last = (last, tt)
all_append P Q (x ∷ xs) y each all last = (each x all.0, all_append P Q xs y each all.1 last)

get_front : {X : Type 0} (xs : List X) (y : X) (i : ℕ) (x : X) → slice_get xs i ≡ Some x → slice_get (xs ++ y ∷ []) i ≡ Some x
get_front [] y i x e = absurd cc
get_front (z ∷ xs) y zero x e = e
get_front (z ∷ xs) y (suc i) x e = get_front xs y i x e

get_last : {X : Type 0} (xs : List X) (y : X) → slice_get (xs ++ y ∷ []) (length xs) ≡ Some y
get_last [] y = refl
get_last (x ∷ xs) y = get_last xs y

some_and : {X : Type 0} (P : X → Type 0) (o : Option X) → IsSome o → IfSome o P → IsSomeAnd o P
some_and P None there holds = absurd cc
some_and P (Some x) there holds = holds

if_some : {X : Type 0} (P : X → Type 0) (o : Option X) (x : X) → o ≡ Some x → IfSome o P → P x
if_some P None x e h = absurd cc
if_some P (Some y) x e h = let is : y ≡ x = cc in subst P is h

trivial : {X : Type 0} (o : Option X) → IfSome o (λ x. ⊤)
trivial None = tt
trivial (Some x) = tt

digest_of : (bytes : List ℕ) → IsDigest (sha256 bytes)
digest_of bytes = (length-sha256 bytes, recursion_from_All (λ b. b < 256) (sha256 bytes) (small_sha256 bytes))

module _ (s : State) (u : Upload) (sound : IsSound s) (may : IsTaken s u) where
  abbrev after : State
  after = after_upload s u

  abbrev file : File
  file = record { bytes = u.bytes; receipt = length s.receipts + 1 }

  old_receipt : (r : Receipt) → IsReceipt s r → IsReceipt after r
  old_receipt r h = record { box = h.box; name = h.name; short = h.short; size = h.size; digest = h.digest; moment = h.moment; key = h.key }

  new_receipt : IsReceipt after (receipt_of u)
  new_receipt =
      let named = (may.rules rule.NameNotAllowed).0 in
      record {
        box = some_and (λ b. Fits b.rule u.place.name) (get s.boxes u.place.box) (may.rules rule.NoSuchBox).0 named.1;
        name = named.0;
        short = (may.rules rule.NameTooLong).0;
        size = may.brought.short;
        digest = digest_of u.bytes;
        moment = may.brought.moment;
        key = some_and (λ k. ⊤) (get s.keys u.key) may.brought.key (trivial (get s.keys u.key));
      }

  old_listed : (n : ℕ) (r : Receipt) → HasReceipt s n r → HasReceipt after n r
  old_listed n r h = record { place = h.place; counted = h.counted; listed = get_front s.receipts (receipt_of u) h.place r h.listed }

  old_file : (place : Place) (f : File) → IsFileOf s place f → IsFileOf after place f
  old_file place f h = record { bytes = h.bytes; receipt = h.receipt; listed = old_listed f.receipt h.receipt h.listed; box = h.box; name = h.name; size = h.size; digest = h.digest }

  new_file : IsFileOf after u.place file
  new_file = record { bytes = may.brought.bytes; receipt = receipt_of u; listed = record { place = length s.receipts; counted = refl; listed = get_last s.receipts (receipt_of u) }; box = refl; name = refl; size = refl; digest = refl }

  all_files : (place : Place) (f : File) → get after.files place ≡ Some f → IsFileOf after place f
  all_files place f e =
      elim (eq_by_cmp place_cmp place u.place) as (λ t. eq_by_cmp place_cmp place u.place ≡ t → cond t (Some file) (get s.files place) ≡ Some f → IsFileOf after place f) [
        | true ↦ λ t is.
            let same : u.place ≡ place = sym (place_same place u.place (equal_is (place_cmp place u.place) t)) in
            let it : file ≡ f = cc in
            subst (λ p. IsFileOf after p f) same (subst (IsFileOf after u.place) it new_file)
        | false ↦ λ t is. old_file place f (sound.files place f is)
      ] refl (sym (get-insert place_total s.files u.place file place) ∙ e)

  -- rules 30 to 33 hold for the box
  new_rule : (r : Refusal) (b : Settings) → get s.boxes u.place.box ≡ Some b → NewBytesRule r s b u
  new_rule r b e = ⊎_elim (λ stands. absurd (may.new stands)) (λ rules. if_some (λ x. NewBytesRule r s x u) (get s.boxes u.place.box) b e rules) (may.rules r).1

  quota : (name : List ℕ) (b : Settings) → get s.boxes name ≡ Some b → used after name ≤ b.quota
  quota name b e =
      elim (same_bytes u.place.box name) as (λ t. same_bytes u.place.box name ≡ t → used after name ≤ b.quota) [
        | true ↦ λ t.
            let same : u.place.box ≡ name = texts_alike u.place.box name t in
            let here = used_here s u.place file (s.receipts ++ receipt_of u ∷ []) in
            let room : used s u.place.box - standing_bytes s u.place + length u.bytes ≤ b.quota = new_rule rule.QuotaPassed b (ap (get s.boxes) same ∙ e) in
            let it : used after u.place.box ≤ b.quota = omega arith in
            subst (λ n. used after n ≤ b.quota) same it
        | false ↦ λ t. rw (used_there s u.place file (s.receipts ++ receipt_of u ∷ []) name t) (sound.quotas name b e).0
      ] refl

  one_or_none : (o : Option File) → (o ≡ None) ⊎ (ones o ≡ 1)
  one_or_none None = inl refl
  one_or_none (Some f) = inr refl

  none_is : {X : Type 0} (o : Option X) → o ≡ None → IsNone o
  none_is None e = search rules
  none_is (Some x) e = absurd cc

  number : (name : List ℕ) (b : Settings) → get s.boxes name ≡ Some b → count after name ≤ b.max_files
  number name b e =
      elim (same_bytes u.place.box name) as (λ t. same_bytes u.place.box name ≡ t → count after name ≤ b.max_files) [
        | true ↦ λ t.
            let same : u.place.box ≡ name = texts_alike u.place.box name t in
            let here = count_here s u.place file (s.receipts ++ receipt_of u ∷ []) in
            let b_is : get s.boxes u.place.box ≡ Some b = ap (get s.boxes) same ∙ e in
            let was : count s u.place.box ≤ b.max_files = (sound.quotas u.place.box b b_is).1 in
            let it : count after u.place.box ≤ b.max_files = ⊎_elim (λ none.
            let room : count s u.place.box < b.max_files = new_rule rule.TooManyFiles b b_is (none_is (get s.files u.place) none) in omega arith)
            (λ one. omega arith) (one_or_none (get s.files u.place)) in
            subst (λ n. count after n ≤ b.max_files) same it
        | false ↦ λ t. rw (count_there s u.place file (s.receipts ++ receipt_of u ∷ []) name t) (sound.quotas name b e).1
      ] refl

  pub upload_keeps_soundness : IsSound after
  upload_keeps_soundness = record {
    east = sound.east;
    allowance = sound.allowance;
    keys = sound.keys;
    boxes = sound.boxes;
    files = all_files;
    receipts = all_append (IsReceipt s) (IsReceipt after) s.receipts (receipt_of u) old_receipt sound.receipts new_receipt;
    quotas = λ name b e. (quota name b e, number name b e);
    clerk = let k = sound.clerk in record { id = k.id; key = k.key; there = k.there; clerk = k.clerk; unrevoked = k.unrevoked };
    limits = λ key box held. let was = sound.limits key box held in record { link = was.link; box_there = was.box_there };
  }
