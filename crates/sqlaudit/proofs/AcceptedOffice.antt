-- The office given by a sound outline and the bytes of its files.
use Rattle.std.proofs.Common.{◌≡◌, ◌∙◌, ℕ, ◌≤◌, List, length, Option, Some, None, option_map, refl, sym, ap, subst}
use Rattle.std.specs.Prelude.{slice_get, IsSome, IsSomeAnd}
use Rattle.std.specs.FinMap.{get}
use Rattle.sqlite_value.specs.Order.{Row}
use Rattle.sqlite_trees.proofs.ListLemmas.{all_weaker}
use Rattle.sigtext.specs.Bytes.{bytes_cmp, same_bytes}
use Rattle.boxes.specs.State.{Settings, Place, place_cmp, File, Receipt, State as Office}
use Rattle.boxes.specs.Opening.{Fits}
use Rattle.boxes.specs.Sound.{IsSound, AreSettings, IsReceipt, IsFileOf, IsLimitOf}
use Rattle.boxes.specs.Limits.{IsLimitedTo}
use Rattle.boxes.proofs.FileBoxes.{there_is}
use Rattle.boxes.specs.Totals.{used, count}
use Rattle.boxes.proofs.Lookups.{bytes_same, place_total, some_none}
use Rattle.boxes.proofs.FileTotals.{place_same}
use Rattle.sqltables.specs.Tables.{Box, tables_of}
use Rattle.sqlaudit.specs.Outlines.{Outline, IsSoundOutline, IsReceiptRule, size_in, used_in, count_in}
use Rattle.sqlaudit.proofs.Mapped.{mapped, get_mapped}
use Rattle.sqlaudit.proofs.MappedSums.{sum_mapped, count_mapped}
use Rattle.sqlaudit.proofs.AcceptedFiles.{IsStored, told_size}

-- if a mapped value is found, an original value existed
was_there : {V W : Type 0} (g : V → W) (o : Option V) (w : W) → option_map g o ≡ Some w → (v : V) × (o ≡ Some v) × (g v ≡ w)
was_there g None w is = absurd (some_none w (sym is))
was_there g (Some v) w is = (v, refl, cc)

still_fits : (o : Option Box) (name : List ℕ) → IsSomeAnd o (λ b. Fits b.settings.rule name) → IsSomeAnd (option_map (λ b. b.settings) o) (λ b. Fits b.rule name)
still_fits None name h = h
still_fits (Some b) name h = h

still_some : (o : Option Box) → IsSome o → IsSome (option_map (λ b. b.settings) o)
still_some None h = h
still_some (Some b) h = h

module _ (o : Outline) (bytes : Place → List ℕ) where
  abbrev settings_in : List ℕ → Box → Settings
  settings_in name b = b.settings

  abbrev file_in : Place → ℕ → File
  file_in place number = record { bytes = bytes place; receipt = number }

  abbrev pub office : Office
  office = record { offset = o.offset; allowance = o.allowance; keys = o.keys; boxes = mapped bytes_cmp settings_in o.boxes; files = mapped place_cmp file_in o.files; receipts = o.receipts; limits = o.limits }

  box_found : (name : List ℕ) → get office.boxes name ≡ option_map (λ b. b.settings) (get o.boxes name)
  box_found name = get_mapped bytes_cmp settings_in bytes_same o.boxes name

  pub file_found : (place : Place) → get office.files place ≡ option_map (file_in place) (get o.files place)
  file_found place = get_mapped place_cmp file_in place_same o.files place

  module _ (rows : List Row) (sound : IsSoundOutline o) (stored : (place : Place) (number : ℕ) → get o.files place ≡ Some number → IsStored rows o place number (bytes place)) where
    -- ---- its tables

    used_same : (name : List ℕ) → used office name ≡ used_in (slice_get o.receipts) o.files name
    used_same name = sum_mapped place_cmp file_in (λ place. same_bytes place.box name) place_total place_same o.files (λ e. length e.1.bytes) (λ e. size_in (slice_get o.receipts) e.1)
        (λ place number there. sym (told_size rows o place number (bytes place) (stored place number there)))

    count_same : (name : List ℕ) → count office name ≡ count_in o.files name
    count_same name = count_mapped place_cmp file_in (λ place. same_bytes place.box name) o.files

    abbrev told : List ℕ → Settings → Box
    told name b = record { settings = b; used = used office name; count = count office name }

    pub box_same : (name : List ℕ) → get o.boxes name ≡ (tables_of office).box name
    box_same name = go (get o.boxes name) refl
      where
        go : (b : Option Box) → get o.boxes name ≡ b → get o.boxes name ≡ (tables_of office).box name
        go None none = none ∙ sym (ap (option_map (told name)) (box_found name ∙ ap (option_map (λ (b : Box). b.settings)) none))
        go (Some b) some =
            let totals = sound.totals name b some in
            let used_is : b.used ≡ used office name = totals.0 ∙ sym (used_same name) in
            let count_is : b.count ≡ count office name = totals.1 ∙ sym (count_same name) in
            some ∙ (λ i. Some (record { settings = b.settings; used = used_is i; count = count_is i }))
            ∙ sym (ap (option_map (told name)) (box_found name ∙ ap (option_map (λ (c : Box). c.settings)) some))

    pub number_same : (place : Place) → get o.files place ≡ (tables_of office).file place
    number_same place = sym (ap (option_map (λ (f : File). f.receipt)) (file_found place)
        ∙ elim (get o.files place) as (λ n. option_map (λ (f : File). f.receipt) (option_map (file_in place) n) ≡ n) [ None ↦ refl | Some n ↦ refl ])

    -- ---- its rules

    file_is : (place : Place) (number : ℕ) → get o.files place ≡ Some number → IsFileOf office place (file_in place number)
    file_is place number there =
        let it = stored place number there in
        record {
          bytes = it.octets;
          receipt = it.given;
          listed = record { place = it.at; counted = it.counted; listed = it.listed };
          box = it.box;
          name = it.name;
          size = it.size;
          digest = it.digest;
        }

    receipt_is : (r : Receipt) → IsReceiptRule o.keys o.boxes r → IsReceipt office r
    receipt_is r rule = record {
      box = subst (λ (b : Option Settings). IsSomeAnd b (λ b. Fits b.rule r.name)) (sym (box_found r.box)) (still_fits (get o.boxes r.box) r.name rule.box);
      name = rule.name;
      short = rule.short;
      size = rule.size;
      digest = rule.digest;
      moment = rule.moment;
      key = rule.key;
    }

    limit_is : (key box : List ℕ) → IsLimitedTo office key box → IsLimitOf office key box
    limit_is key box told =
        let there = there_is (get o.limits (record { key = key; box = box })) told in
        let rule = sound.limits (record { key = key; box = box }) there.0 there.1 in
        record { link = rule.link; box_there = subst IsSome (sym (box_found box)) (still_some (get o.boxes box) rule.box_there) }

    box_was : (name : List ℕ) (b : Settings) → get office.boxes name ≡ Some b → (box : Box) × (get o.boxes name ≡ Some box) × (box.settings ≡ b)
    box_was name b there = was_there (λ (box : Box). box.settings) (get o.boxes name) b (sym (box_found name) ∙ there)

    pub office_sound : IsSound office
    office_sound = record {
      east = sound.east;
      keys = λ id k there. let rule = sound.keys id k there in (rule.id_form, rule.secret_form);
      boxes = λ name b there.
          let it = box_was name b there in
          let rule = sound.boxes name it.0 it.1 in
          (rule.name_form, subst AreSettings it.2 rule.settings_form);
      files = λ place f there.
          let it = was_there (file_in place) (get o.files place) f (sym (file_found place) ∙ there) in
          subst (IsFileOf office place) it.2 (file_is place it.0 it.1);
      receipts = all_weaker (IsReceiptRule o.keys o.boxes) (IsReceipt office) receipt_is o.receipts sound.receipts;
      quotas = λ name b there.
          let it = box_was name b there in
          let rule = sound.boxes name it.0 it.1 in
          let totals = sound.totals name it.0 it.1 in
          let used_is : it.0.used ≡ used office name = totals.0 ∙ sym (used_same name) in
          let count_is : it.0.count ≡ count office name = totals.1 ∙ sym (count_same name) in (
            subst (λ (s : Settings). used office name ≤ s.quota) it.2 (subst (λ n. n ≤ it.0.settings.quota) used_is rule.quota),
            subst (λ (s : Settings). count office name ≤ s.max_files) it.2 (subst (λ n. n ≤ it.0.settings.max_files) count_is rule.files),
          );
      allowance = sound.allowance;
      limits = limit_is;
      clerk = record { id = sound.clerk.id; key = sound.clerk.key; there = sound.clerk.there; clerk = sound.clerk.clerk; unrevoked = sound.clerk.unrevoked };
    }
