-- The tables of a state after an upload are those that `set a file` writes. This file involves no SQL.
use Rattle.std.proofs.Common.{◌≡◌, inl, inr, ℕ, ◌+◌, zero, suc, List, [], ◌∷◌, ◌++◌, length, slice_get, cond, false, Some, refl, sym, ap, ◌∙◌}
use Rattle.std.specs.Prelude.{nat_eq}
use Rattle.std.specs.FinMap.{FinMap, get, insert, get-insert}
use Rattle.std.specs.Ordering.{eq_by_cmp}
use Rattle.std.specs.Cmp.{tied_then}
use Rattle.std.proofs.Math.Dec.{eqb-suc-zero, eqb-zero-suc, eqb-suc-suc}
use Rattle.std.proofs.lemmas.Bool.{cases_Bool}
use Rattle.sigtext.specs.Bytes.{same_bytes, bytes_cmp}
use Rattle.boxes.specs.State.{Place, place_cmp, File, Settings, State}
use Rattle.boxes.specs.Totals.{used, count}
use Rattle.boxes.specs.Rules.{Upload}
use Rattle.boxes.specs.Steps.{receipt_of, after_upload}
use Rattle.boxes.proofs.Lookups.{place_total}
use Rattle.boxes.proofs.FileTotals.{used_there, count_there}
use Rattle.sqltables.specs.Tables.{Tables, Box, Part, put, tables_of, same_place}
use Rattle.sqltables.specs.Changes.{with_upload}
use Rattle.sqltables.proofs.Keys.{tells_bytes, by_order, differs}

-- the test of the tables agrees with the order of the map
pub same_by_order : (a b : Place) → eq_by_cmp place_cmp a b ≡ same_place a b
same_by_order a b = sym (tied_then (bytes_cmp a.box b.box) (bytes_cmp a.name b.name)) ∙ rw (by_order a.box b.box, by_order a.name b.name)

pub get_set : (files : FinMap place_cmp File) (place : Place) (f : File) (q : Place) → get (insert files place f) q ≡ cond (same_place q place) (Some f) (get files q)
get_set files place f q = get-insert place_total files place f q ∙ ap (λ b. cond b (Some f) (get files q)) (same_by_order q place)

pub get_pushed : {X : Type 0} (xs : List X) (x : X) (i : ℕ) → slice_get (xs ++ x ∷ []) i ≡ put nat_eq (slice_get xs) (length xs) x i
get_pushed [] x zero = refl
get_pushed [] x (suc i) = rw (eqb-suc-zero i)
get_pushed (y ∷ xs) x zero = rw (eqb-zero-suc (length xs))
get_pushed (y ∷ xs) x (suc i) = rw (eqb-suc-suc i (length xs)) (get_pushed xs x i)

-- names that differ also differ in the other direction
pub turned : (a b : List ℕ) → same_bytes a b ≡ false → same_bytes b a ≡ false
turned a b apart = differs tells_bytes b a (λ e. let hit = sym apart ∙ ap (same_bytes a) e ∙ tells_bytes.itself a in cc)

module _ (s : State) (u : Upload) (b : Settings) (there : get s.boxes u.place.box ≡ Some b) where
  abbrev after : State
  after = after_upload s u

  abbrev row : Box
  row = record { settings = b; used = used after u.place.box; count = count after u.place.box }

  abbrev written : Tables
  written = with_upload (tables_of s) u.place u.bytes (length s.receipts) (receipt_of u) row

  abbrev set : File
  set = record { bytes = u.bytes; receipt = length s.receipts + 1 }

  box_is : (name : List ℕ) → (tables_of after).box name ≡ written.box name
  box_is name = elim (cases_Bool (same_bytes name u.place.box)) [
    | inl here ↦ let e = tells_bytes.only name u.place.box here in rw (here, e, there)
    | inr other ↦
        let apart : same_bytes u.place.box name ≡ false = turned name u.place.box other in
        let used_is : used after name ≡ used s name = used_there s u.place set after.receipts name apart in
        let count_is : count after name ≡ count s name = count_there s u.place set after.receipts name apart in
        rw (other, used_is, count_is)
  ]

  file_is : (place : Place) → (tables_of after).file place ≡ written.file place
  file_is place = elim (cases_Bool (same_place place u.place)) [
    | inl here ↦ rw (get_set s.files u.place set place, here)
    | inr other ↦ rw (get_set s.files u.place set place, other)
  ]

  piece_is : (part : Part) → (tables_of after).piece part ≡ written.piece part
  piece_is part = elim (cases_Bool (same_place part.place u.place)) [
    | inl here ↦ rw (get_set s.files u.place set part.place, here)
    | inr other ↦ rw (get_set s.files u.place set part.place, other)
  ]

  pub upload_tables : tables_of after ≡ written
  upload_tables = λ i. record (tables_of s) {
    box = λ name. box_is name i;
    receipt = λ at. get_pushed s.receipts (receipt_of u) at i;
    file = λ place. file_is place i;
    piece = λ part. piece_is part i;
  }
