-- An office without the bytes of its files obeys the rules that the office obeys.
use Rattle.std.proofs.Common.{◌≡◌, ℕ, ◌-◌, List, length, Option, None, Some, option_map, unwrap_or, slice_get, refl, sym, ap, subst, ◌∙◌, arith}
use Rattle.std.specs.Prelude.{IsSome, IsSomeAnd}
use Rattle.std.specs.List.{AllByRecursion}
use Rattle.std.specs.FinMap.{get}
use Rattle.std.proofs.lemmas.List.Elements.{All-weaker, All-from_recursion, recursion_from_All}
use Rattle.sigtext.specs.Bytes.{bytes_cmp, same_bytes}
use Rattle.boxes.specs.State.{Settings, Place, place_cmp, File, Receipt, Limit, State}
use Rattle.boxes.specs.Opening.{Fits}
use Rattle.boxes.specs.Sound.{IsSound, IsReceipt}
use Rattle.boxes.specs.Totals.{used, count}
use Rattle.boxes.proofs.Lookups.{bytes_same, place_total}
use Rattle.boxes.proofs.FileTotals.{place_same}
use Rattle.sqltables.specs.Tables.{Box, tables_of}
use Rattle.sqlaudit.specs.Outlines.{Outline, IsBoxRule, IsReceiptRule, IsFileRule, IsLimitRule, IsSoundOutline, size_in, used_in, count_in}
use Rattle.sqlaudit.proofs.Mapped.{mapped, get_mapped}
use Rattle.sqlaudit.proofs.MappedSums.{sum_mapped, count_mapped}
use Rattle.sqltables.proofs.StandingFiles.{standing, kept, listed_at}

abbrev box_of : State → List ℕ → Settings → Box
box_of s name settings = record { settings = settings; used = used s name; count = count s name }

abbrev number_at : Place → File → ℕ
number_at place f = f.receipt

abbrev pub outline_of : State → Outline
outline_of s = record {
  offset = s.offset;
  allowance = s.allowance;
  keys = s.keys;
  boxes = mapped bytes_cmp (box_of s) s.boxes;
  files = mapped place_cmp number_at s.files;
  receipts = s.receipts;
  limits = s.limits;
}

-- ---- its maps are the tables

pub box_look : (s : State) (name : List ℕ) → get (outline_of s).boxes name ≡ (tables_of s).box name
box_look s name = get_mapped bytes_cmp (box_of s) bytes_same s.boxes name

pub file_look : (s : State) (place : Place) → get (outline_of s).files place ≡ (tables_of s).file place
file_look s place = get_mapped place_cmp number_at place_same s.files place

-- an implication that holds for each item
each_then : {X : Type 0} (P Q : X → Type 0) (xs : List X) → ((x : X) → P x → Q x) → AllByRecursion P xs → AllByRecursion Q xs
each_then P Q xs more all = recursion_from_All Q xs (All-weaker P Q more xs (All-from_recursion P xs all))

-- ---- a sound office

-- the receipt of a file gives its length
pub size_known : (s : State) → IsSound s → (place : Place) (f : File) → get s.files place ≡ Some f → size_in (slice_get s.receipts) f.receipt ≡ length f.bytes
size_known s sound place f there =
    let it = sound.files place f there in
    let at : f.receipt - 1 ≡ it.listed.place = omega (arith, it.listed.counted) in
    ap (λ (o : Option Receipt). unwrap_or (option_map (λ r. r.size) o) 0) (ap (slice_get s.receipts) at ∙ it.listed.listed) ∙ it.size

module _ (s : State) (sound : IsSound s) where
  abbrev size : ℕ → ℕ
  size = size_in (slice_get s.receipts)

  used_same : (name : List ℕ) → used_in (slice_get s.receipts) (outline_of s).files name ≡ used s name
  used_same name = sum_mapped place_cmp number_at (λ place. same_bytes place.box name) place_total place_same s.files (λ e. size e.1) (λ e. length e.1.bytes) (size_known s sound)

  count_same : (name : List ℕ) → count_in (outline_of s).files name ≡ count s name
  count_same name = count_mapped place_cmp number_at (λ place. same_bytes place.box name) s.files

  -- a box of the outline is one of the office
  box_there : (name : List ℕ) (b : Box) → get (outline_of s).boxes name ≡ Some b → (settings : Settings) × (get s.boxes name ≡ Some settings) × (box_of s name settings ≡ b)
  box_there name b is = go (get s.boxes name) refl
    where
      go : (o : Option Settings) → get s.boxes name ≡ o → (settings : Settings) × (get s.boxes name ≡ Some settings) × (box_of s name settings ≡ b)
      go None none = let e = sym (ap (option_map (box_of s name)) none) ∙ sym (box_look s name) ∙ is in absurd cc
      go (Some settings) some =
          let e = sym (ap (option_map (box_of s name)) some) ∙ sym (box_look s name) ∙ is in
          let same : box_of s name settings ≡ b = cc in
          (settings, some, same)

  rule_of_box : (name : List ℕ) (settings : Settings) → get s.boxes name ≡ Some settings → IsBoxRule name (box_of s name settings)
  rule_of_box name settings there =
      let b = sound.boxes name settings there in
      let q = sound.quotas name settings there in
      record { name_form = b.0; settings_form = b.1; quota = q.0; files = q.1 }

  rule_of_file : (place : Place) (number : ℕ) → get (outline_of s).files place ≡ Some number → IsFileRule (slice_get s.receipts) place number
  rule_of_file place number is =
      let it = standing s place number (sym (file_look s place) ∙ is) in
      let k = kept s sound place number it in
      record { at = k.listed.place; counted = listed_at s sound place number it; given = k.receipt; listed = k.listed.listed; box = k.box; name = k.name }

  rule_of_receipt : (r : Receipt) → IsReceipt s r → IsReceiptRule s.keys (outline_of s).boxes r
  rule_of_receipt r h = record {
    box = subst (λ (x : Option Box). IsSomeAnd x (λ b. Fits b.settings.rule r.name)) (sym (box_look s r.box)) (go (get s.boxes r.box) h.box);
    name = h.name;
    short = h.short;
    size = h.size;
    digest = h.digest;
    moment = h.moment;
    key = h.key;
  }
    where
      go : (o : Option Settings) → IsSomeAnd o (λ b. Fits b.rule r.name) → IsSomeAnd (option_map (box_of s r.box) o) (λ b. Fits b.settings.rule r.name)
      go None none = none
      go (Some b) fits = fits

  rule_of_limit : (limit : Limit) (there : Unit {0}) → get s.limits limit ≡ Some there → IsLimitRule s.keys (outline_of s).boxes limit
  rule_of_limit limit there is =
      let h = sound.limits limit.key limit.box (subst IsSome (sym is) refl) in
      record { link = h.link; box_there = subst IsSome (sym (box_look s limit.box)) (go (get s.boxes limit.box) h.box_there) }
    where
      go : (o : Option Settings) → IsSome o → IsSome (option_map (box_of s limit.box) o)
      go None none = none
      go (Some b) some = some

  pub sound_outline : IsSoundOutline (outline_of s)
  sound_outline = record {
    east = sound.east;
    keys = λ id k there. let h = sound.keys id k there in record { id_form = h.0; secret_form = h.1 };
    boxes = λ name b is. let it = box_there name b is in subst (IsBoxRule name) it.2 (rule_of_box name it.0 it.1);
    files = rule_of_file;
    receipts = each_then (IsReceipt s) (IsReceiptRule s.keys (outline_of s).boxes) s.receipts rule_of_receipt sound.receipts;
    totals = λ name b is.
        let it = box_there name b is in
        (sym (ap (λ (c : Box). c.used) it.2) ∙ sym (used_same name), sym (ap (λ (c : Box). c.count) it.2) ∙ sym (count_same name));
    allowance = sound.allowance;
    limits = rule_of_limit;
    clerk = record { id = sound.clerk.id; key = sound.clerk.key; there = sound.clerk.there; clerk = sound.clerk.clerk; unrevoked = sound.clerk.unrevoked };
  }
