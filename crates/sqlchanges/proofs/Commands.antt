-- The tables of a state after a command of the desk are those that its statements write. This file involves no SQL.
use Rattle.std.proofs.Common.{◌≡◌, ◌&&◌, inl, inr, ℕ, List, cond, false, true, Option, Some, None, Ordering, Less, Equal, Greater, refl, sym, ap, ◌∙◌}
use Rattle.std.specs.Prelude.{IsSome}
use Rattle.std.specs.Ordering.{is_eq, eq_by_cmp, ordering_then}
use Rattle.std.specs.FinMap.{FinMap, get, insert, remove, get-insert, get-remove}
use Rattle.std.proofs.lemmas.Bool.{cases_Bool}
use Rattle.sigtext.specs.Bytes.{same_bytes, bytes_cmp}
use Rattle.boxes.specs.State.{Key, Place, place_cmp, File, Settings, Limit, limit_cmp, State}
use Rattle.boxes.specs.Sound.{IsSound}
use Rattle.boxes.specs.Totals.{used, count}
use Rattle.boxes.specs.declared.rows.Role.{Role}
use Rattle.boxes.specs.Steps.{AddKey, RevokeKey, AddBox, CloseBox, LimitKey, SetAllowance}
use Rattle.boxes.specs.Changes.{IsObeyed}
use Rattle.boxes.proofs.CommandSteps.{key_added_is, key_revoked_is, box_added_is, box_closed_is, key_limited_is, allowance_set_is}
use Rattle.boxes.proofs.FileTotals.{used_still, count_still}
use Rattle.boxes.proofs.Lookups.{bytes_total, place_total}
use Rattle.boxes.proofs.LimitedKeys.{limit_total}
use Rattle.boxes.proofs.NoBox.{none_used, none_counted}
use Rattle.boxes.proofs.MapLemmas.{is_none_is}
use Rattle.sqltables.specs.Tables.{Tables, Box, Part, put, without, tables_of, same_place, same_limit}
use Rattle.sqltables.specs.Changes.{with_key, with_box, with_drop, with_limit, with_allowance, closing_at}
use Rattle.sqltables.proofs.Keys.{tells_bytes, by_order}
use Rattle.sqlchanges.proofs.Uploads.{same_by_order, turned}

-- a map keyed by bytes, with one entry set
pub get_put : {X : Type 0} (m : FinMap bytes_cmp X) (k : List ℕ) (x : X) (q : List ℕ) → get (insert m k x) q ≡ put same_bytes (get m) k x q
get_put m k x q = get-insert bytes_total m k x q ∙ ap (λ b. cond b (Some x) (get m q)) (sym (by_order q k))

-- the files with one removed
get_gone : (files : FinMap place_cmp File) (place q : Place) → get (remove files place) q ≡ without (λ p. same_place p place) (get files) q
get_gone files place q = get-remove place_total files place q ∙ ap (λ b. cond b None (get files q)) (same_by_order q place)

-- the row of a box that exists in the state
abbrev pub row_of : State → List ℕ → Settings → Box
row_of s name b = record { settings = b; used = used s name; count = count s name }

key_tables : (s : State) (id : List ℕ) (key : Key) → tables_of (record s { keys = insert s.keys id key }) ≡ with_key (tables_of s) id key
key_tables s id key = λ i. record (tables_of s) { key = λ q. get_put s.keys id key q i }

module _ (s : State) (name : List ℕ) (b : Settings) where
  abbrev boxed : State
  boxed = record s { boxes = insert s.boxes name b }

  box_is : (q : List ℕ) → (tables_of boxed).box q ≡ (with_box (tables_of s) name (row_of s name b)).box q
  box_is q = elim (cases_Bool (same_bytes q name)) [
    | inl here ↦ let e = tells_bytes.only q name here in rw (get_put s.boxes name b q, here, e)
    | inr other ↦ rw (get_put s.boxes name b q, other)
  ]

  -- setting a box keeps its totals
  box_tables : tables_of boxed ≡ with_box (tables_of s) name (row_of s name b)
  box_tables = λ i. record (tables_of s) { box = λ q. box_is q i }

  -- a box that did not exist before holds nothing
  new_box_tables : IsSound s → get s.boxes name ≡ None → tables_of boxed ≡ with_box (tables_of s) name (record { settings = b; used = 0; count = 0 })
  new_box_tables sound none =
      box_tables ∙ (λ i. with_box (tables_of s) name (record { settings = b; used = none_used s name sound none i; count = none_counted s name sound none i }))

pub adds_key : (s : State) (id : List ℕ) (role : Role) (secret : List ℕ) (after : State) → IsObeyed s (AddKey id role secret) after
    → ((tables_of s).key id ≡ None) × (tables_of after ≡ with_key (tables_of s) id (record { role = role; secret = secret; revoked = false }))
adds_key s id role secret after obeyed = (is_none_is (get s.keys id) obeyed.possible, ap tables_of (key_added_is s id role secret after obeyed.step) ∙ key_tables s id _)

pub revokes_key : (s : State) (id : List ℕ) (after : State) → IsObeyed s (RevokeKey id) after
    → (k : Key) × ((tables_of s).key id ≡ Some k) × (tables_of after ≡ with_key (tables_of s) id (record k { revoked = true }))
revokes_key s id after obeyed = let it = key_revoked_is s id after obeyed.step in (it.0, it.1, ap tables_of it.2 ∙ key_tables s id _)

pub adds_box : (s : State) (name : List ℕ) (b : Settings) (after : State) → IsSound s → IsObeyed s (AddBox name b) after
    → ((tables_of s).box name ≡ None) × (tables_of after ≡ with_box (tables_of s) name (record { settings = b; used = 0; count = 0 }))
adds_box s name b after sound obeyed =
    let none = is_none_is (get s.boxes name) obeyed.possible in
    (rw none, ap tables_of (box_added_is s name b after obeyed.step) ∙ new_box_tables s name b sound none)

pub closes_box : (s : State) (name : List ℕ) (moment : ℕ) (after : State) → IsObeyed s (CloseBox name moment) after
    → (b : Box) × ((tables_of s).box name ≡ Some b) × (tables_of after ≡ with_box (tables_of s) name (closing_at moment b))
closes_box s name moment after obeyed =
    let it = box_closed_is s name moment after obeyed.step in
    (row_of s name it.0, rw it.1, ap tables_of it.2 ∙ box_tables s name (record it.0 { closes = moment }))

-- limits are compared as SQL compares them
limits_by_order : (q l : Limit) → same_limit q l ≡ eq_by_cmp limit_cmp q l
limits_by_order q l = ap (λ b. b && same_bytes q.box l.box) (by_order q.key l.key) ∙ then_both (bytes_cmp q.key l.key) q.box l.box
  where
    then_both : (o : Ordering) (x y : List ℕ) → (is_eq o && same_bytes x y) ≡ is_eq (ordering_then o (bytes_cmp x y))
    then_both Less x y = refl
    then_both Equal x y = by_order x y
    then_both Greater x y = refl

limit_tables : (s : State) (l : Limit) → tables_of (record s { limits = insert s.limits l tt }) ≡ with_limit (tables_of s) l
limit_tables s l = λ i. record (tables_of s) { limit = λ q. (get-insert limit_total s.limits l tt q ∙ ap (λ b. cond b (Some tt) (get s.limits q)) (sym (limits_by_order q l))) i }

not_there : (o : Option (Unit {0})) → (IsSome o → ⊥) → o ≡ None
not_there None none = refl
not_there (Some u) none = absurd (none refl)

pub limits_key : (s : State) (id box : List ℕ) (after : State) → IsObeyed s (LimitKey id box) after
    → ((tables_of s).limit (record { key = id; box = box }) ≡ None) × (tables_of after ≡ with_limit (tables_of s) (record { key = id; box = box }))
limits_key s id box after obeyed =
    (not_there (get s.limits (record { key = id; box = box })) obeyed.possible.2, ap tables_of (key_limited_is s id box after obeyed.step) ∙ limit_tables s (record { key = id; box = box }))

pub sets_seconds : (s : State) (seconds : ℕ) (after : State) → IsObeyed s (SetAllowance seconds) after → tables_of after ≡ with_allowance (tables_of s) seconds
sets_seconds s seconds after obeyed = ap tables_of (allowance_set_is s seconds after obeyed.step)

module _ (s : State) (place : Place) (b : Settings) (there : get s.boxes place.box ≡ Some b) (f : File) (stands : get s.files place ≡ Some f) where
  abbrev after : State
  after = record s { files = remove s.files place }

  abbrev written : Tables
  written = with_drop (tables_of s) place (row_of after place.box b)

  totals_are : (name : List ℕ) → (tables_of after).box name ≡ written.box name
  totals_are name = elim (cases_Bool (same_bytes name place.box)) [
    | inl here ↦ let e = tells_bytes.only name place.box here in rw (here, e, there)
    | inr other ↦
        let apart : same_bytes place.box name ≡ false = turned name place.box other in
        let used_is : used after name ≡ used s name = used_still s place f stands name apart in
        let count_is : count after name ≡ count s name = count_still s place f stands name apart in
        rw (other, used_is, count_is)
  ]

  file_is : (q : Place) → (tables_of after).file q ≡ written.file q
  file_is q = elim (cases_Bool (same_place q place)) [
    | inl here ↦ rw (get_gone s.files place q, here)
    | inr other ↦ rw (get_gone s.files place q, other)
  ]

  piece_is : (part : Part) → (tables_of after).piece part ≡ written.piece part
  piece_is part = elim (cases_Bool (same_place part.place place)) [
    | inl here ↦ rw (get_gone s.files place part.place, here)
    | inr other ↦ rw (get_gone s.files place part.place, other)
  ]

  pub drop_tables : tables_of after ≡ written
  drop_tables = λ i. record (tables_of s) {
    box = λ name. totals_are name i;
    file = λ q. file_is q i;
    piece = λ part. piece_is part i;
  }
