use Rattle.std.proofs.Common.{rules, ◌≡◌, ◌∙◌, ◌+◌, ◌≤◌, ◌<◌, ◌^◌, ◌++◌, ◌∷◌, [], ℕ, List, Some, length, map, inl, option_map, refl, sym, ap, subst, arith}
use mathlib.Core.List.{not-mem-nil}
use Rattle.std.specs.FinMap.{get, insert}
use Rattle.std.specs.Vec.{vec_len, vec_capacity}
use Rattle.sigtext.specs.declared.refusal.Refusal.TheVariants as rule
use Rattle.boxes.specs.declared.rows.ReceiptRow.{ReceiptRow}
use Rattle.boxes.specs.State.{Place, place_cmp, File}
use Rattle.boxes.specs.Rows.{numbered_receipt}
use Rattle.boxes.specs.Steps.{receipt_of}
use Rattle.boxes.specs.Changes.{upload_in}
use Rattle.boxes.specs.Totals.{used, count}
use Rattle.boxes.proofs.Lookups.{place_total}
use Rattle.boxes.proofs.FileTotals.{used_there, count_there}
use Rattle.shelf.specs.declared.shelf.Shelf.{Shelf}
use Rattle.shelf.specs.declared.shelf.StoredFile.{StoredFile}
use Rattle.shelf.specs.Maps.{found, MapMeans}
use Rattle.shelf.specs.Shelves.{Holds, place_of, shelved_settings, stored_file}
use Rattle.shelf.proofs.MapLemmas.{means-set, sets_of}
use Rattle.shelf.proofs.ShelfLemmas.{holds_files, box_there, long_of, push_listed}
use Rattle.shelf.proofs.shelf.Shelf.set_file.Goals as goal

pub returns-in-Ok-insert-clause-made : goal.returns-in-Ok-insert-clause-made
returns-in-Ok-insert-clause-made c s after h sound set =
    let k : Shelf = c.args.self.now in
    let file = c.args.file.now in
    let bytes = c.args.bytes.items in
    let u = upload_in file bytes in
    let place : Place = u.place in
    let b = box_there k s place.box h (set.taken.rules rule.NoSuchBox).0 in
    let made = c.in-Ok.ensures in
    let number = set.file.number in
    let f : File = record { bytes = bytes; receipt = length s.receipts + 1 } in
    let was_is = c.in-Ok-insert.ensures.old ∙ ap (found place_cmp place_of k.files.entries) made.0 in
    let stood : c.length_of.result ≡ option_map (λ (g : File). length g.bytes) (get s.files place)
    = c.length_of.ensures ∙ ap (option_map (λ (x : StoredFile). length x.bytes.items)) was_is ∙ long_of (found place_cmp place_of k.files.entries place)
    ∙ ap (option_map (λ (g : File). length g.bytes)) (sym (h.files.each place)) in
    let quota = sound.quotas place.box (shelved_settings b.0) b.2 in
    let settings = (sound.boxes place.box (shelved_settings b.0) b.2).1 in
    let held_bytes : used s place.box ≤ b.0.row.quota = quota.0 in
    let held_files : count s place.box ≤ b.0.row.max_files = quota.1 in
    let most_bytes : b.0.row.quota ≤ 1000000000000 = settings.quota in
    let most_files : b.0.row.max_files ≤ 1000000 = settings.max_files in
    let short : length bytes ≤ 8388608 = set.taken.brought.short in
    let counted : vec_len c.args.bytes ≡ length bytes = search rules in
    let size : length bytes ≡ c.len-size.result = sym counted ∙ sym c.len-size.ensures in
    let low : used s place.box + c.len-size.result < 2 ^ 64 = omega (arith, held_bytes, most_bytes, short, size) in
    let few : count s place.box + 1 < 2 ^ 64 = omega (arith, held_files, most_files) in
    let are = c.set-totals.ensures s place f (c.totals_of-totals.ensures s h sound) size stood low few in
    let key = c.in-Ok.place in
    let stored = c.in-Ok.stored in
    let inserted : insert s.files (place_of key) (stored_file stored) ≡ insert s.files place f
    = ap (λ (p : Place). insert s.files p (stored_file stored)) made.0 ∙ ap (insert s.files place) (made.1 ∙ ap (λ (n : ℕ). record { bytes = bytes; receipt = n }) number) in
    let sets = sets_of place_cmp place_of place_total k.files c.insert.new.self (place_of key) (Some stored) c.in-Ok-insert.ensures.updates in
    let means = subst (MapMeans place_cmp place_of stored_file c.insert.new.self.entries) inserted
    (means-set place_cmp place_of place_total stored_file k.files.entries c.insert.new.self.entries s.files (place_of key) stored h.files sets) in
    let room : vec_len c.reserve.new.self < vec_capacity c.reserve.new.self = (let e = c.in-Ok-reserve.ensures.ok in omega arith) in
    let pushes = c.push.ensures.succeeds room in
    let items : c.push.new.self.items ≡ k.receipts.items ++ c.in-Ok.receipt ∷ [] = rw pushes at c.push.ensures.items ∙ ap (λ (l : List ReceiptRow). l ++ c.in-Ok.receipt ∷ []) c.reserve.ensures.items in
    let next : file.number ≡ 1 + length s.receipts = omega (arith, number) in
    let given : numbered_receipt c.in-Ok.receipt ≡ (1 + length s.receipts, receipt_of u)
    = made.2
    ∙ ap (λ (n : ℕ). (file.number, record { box = file.in_box.now; name = file.name.now; size = n; digest = file.digest; moment = file.moment; key = file.key.now })) set.file.size
    ∙ ap (λ (d : List ℕ). (file.number, record { box = file.in_box.now; name = file.name.now; size = length bytes; digest = d; moment = file.moment; key = file.key.now })) set.file.digest
    ∙ ap (λ (n : ℕ). (n, receipt_of u)) next in
    let listed = push_listed k.receipts.items c.push.new.self.items c.in-Ok.receipt s.receipts (receipt_of u) items h.receipts given in
    let held = holds_files k s c.insert.new.self c.set_totals.new.boxes c.push.new.self (insert s.files place f) (s.receipts ++ receipt_of u ∷ []) place.box b.0 c.set-totals.result
    h means listed b.1 (c.set_totals.ensures b.0 b.1) are (λ q far. (used_there s place f s.receipts q far, count_there s place f s.receipts q far)) in
    subst (Holds (record k { files = c.insert.new.self; boxes = c.set_totals.new.boxes; receipts = c.push.new.self })) (sym set.sets) held

pub has_room-requires : goal.has_room-requires
has_room-requires c = tt

pub saturating_add-self-requires : goal.saturating_add-self-requires
saturating_add-self-requires c = tt

pub drop-bytes-requires : goal.drop-bytes-requires
drop-bytes-requires c κs = (λ a m. absurd (not-mem-nil m), λ a m. absurd (not-mem-nil m))

pub returns-then-not-has_room-clause-made : goal.returns-then-not-has_room-clause-made
returns-then-not-has_room-clause-made c = λ s after h sound set. tt

pub returns-then-not-has_room-clause-room : goal.returns-then-not-has_room-clause-room
returns-then-not-has_room-clause-room c = tt

pub totals_of-totals-requires : goal.totals_of-totals-requires
totals_of-totals-requires c = tt

pub len-size-requires : goal.len-size-requires
len-size-requires c κs = (λ a m. absurd (not-mem-nil m), λ a m. absurd (not-mem-nil m))

pub new_file-requires : goal.new_file-requires
new_file-requires c = tt

pub count-requires : goal.count-requires
count-requires c = tt

pub returns-in_default-clause-made : goal.returns-in_default-clause-made
returns-in_default-clause-made c = λ s after h sound set. tt

pub returns-in_default-clause-same : goal.returns-in_default-clause-same
returns-in_default-clause-same c = c.count.ensures.same

pub returns-in_default-clause-count : goal.returns-in_default-clause-count
returns-in_default-clause-count c = record { err = c.count.ensures.rose; ok = tt }

pub returns-in_default-clause-fault : goal.returns-in_default-clause-fault
returns-in_default-clause-fault c = inl (c.count.ensures.result, c.has_room.ensures.0 c.if-not-has_room.false)

pub returns-in_default-clause-room : goal.returns-in_default-clause-room
returns-in_default-clause-room c = tt

pub returns-in_default-clause-staged : goal.returns-in_default-clause-staged
returns-in_default-clause-staged c = c.count.ensures.staged

pub reserve-requires : goal.reserve-requires
reserve-requires c κs = (λ a m. absurd (not-mem-nil m), λ a m. absurd (not-mem-nil m))

pub count-requires-in_default-reserve : goal.count-requires-in_default-reserve
count-requires-in_default-reserve c = tt

pub drop-receipt-requires : goal.drop-receipt-requires
drop-receipt-requires c κs = (λ a m. absurd (not-mem-nil m), λ a m. absurd (not-mem-nil m))

pub drop-receipt-requires-in_default-reserve : goal.drop-receipt-requires-in_default-reserve
drop-receipt-requires-in_default-reserve c κs = (λ a m. absurd (not-mem-nil m), λ a m. absurd (not-mem-nil m))

pub drop-receipt-requires-in_default-reserve-2 : goal.drop-receipt-requires-in_default-reserve-2
drop-receipt-requires-in_default-reserve-2 c κs = (λ a m. absurd (not-mem-nil m), λ a m. absurd (not-mem-nil m))

pub drop-stored-requires : goal.drop-stored-requires
drop-stored-requires c κs = (λ a m. absurd (not-mem-nil m), λ a m. absurd (not-mem-nil m))

pub drop-place-requires : goal.drop-place-requires
drop-place-requires c κs = (λ a m. absurd (not-mem-nil m), λ a m. absurd (not-mem-nil m))

pub drop-place-requires-in_default-reserve : goal.drop-place-requires-in_default-reserve
drop-place-requires-in_default-reserve c κs = (λ a m. absurd (not-mem-nil m), λ a m. absurd (not-mem-nil m))

pub returns-in_default-reserve-clause-made : goal.returns-in_default-reserve-clause-made
returns-in_default-reserve-clause-made c = λ s after h sound set. tt

pub returns-in_default-reserve-clause-same : goal.returns-in_default-reserve-clause-same
returns-in_default-reserve-clause-same c s h =
    c.count-in_default-reserve.ensures.same s (record {
      offset = h.offset;
      allowance = h.allowance;
      keys = h.keys;
      boxes = h.boxes;
      files = h.files;
      receipts = ap (map numbered_receipt) c.reserve.ensures.items ∙ h.receipts;
      totals = h.totals;
      clerks = h.clerks;
      fewer = h.fewer;
      limits = h.limits;
    })

pub returns-in_default-reserve-clause-count : goal.returns-in_default-reserve-clause-count
returns-in_default-reserve-clause-count c = record { err = c.count-in_default-reserve.ensures.rose; ok = tt }

pub returns-in_default-reserve-clause-fault : goal.returns-in_default-reserve-clause-fault
returns-in_default-reserve-clause-fault c = inl (c.count-in_default-reserve.ensures.result, c.has_room.ensures.0 c.if-not-has_room.false)

pub returns-in_default-reserve-clause-room : goal.returns-in_default-reserve-clause-room
returns-in_default-reserve-clause-room c = tt

pub returns-in_default-reserve-clause-staged : goal.returns-in_default-reserve-clause-staged
returns-in_default-reserve-clause-staged c = c.count-in_default-reserve.ensures.staged

pub insert-requires : goal.insert-requires
insert-requires c κs = (λ a m. absurd (not-mem-nil m), (λ a m. absurd (not-mem-nil m), λ a m. absurd (not-mem-nil m)))

pub push-requires : goal.push-requires
push-requires c κs = (λ a m. absurd (not-mem-nil m), λ a m. absurd (not-mem-nil m))

pub drop-push-requires : goal.drop-push-requires
drop-push-requires c κs = (λ a m. absurd (not-mem-nil m), λ a m. absurd (not-mem-nil m))

pub drop-push-requires-in-Ok-insert : goal.drop-push-requires-in-Ok-insert
drop-push-requires-in-Ok-insert c κs = (λ a m. absurd (not-mem-nil m), λ a m. absurd (not-mem-nil m))

pub drop-push-requires-in-Ok-insert-2 : goal.drop-push-requires-in-Ok-insert-2
drop-push-requires-in-Ok-insert-2 c κs = (λ a m. absurd (not-mem-nil m), λ a m. absurd (not-mem-nil m))

pub length_of-requires : goal.length_of-requires
length_of-requires c = tt

pub set-totals-requires : goal.set-totals-requires
set-totals-requires c = tt

pub set_totals-requires : goal.set_totals-requires
set_totals-requires c = tt

pub drop-old-requires : goal.drop-old-requires
drop-old-requires c κs = (λ a m. absurd (not-mem-nil m), λ a m. absurd (not-mem-nil m))

pub count-requires-in-Err : goal.count-requires-in-Err
count-requires-in-Err c = tt

pub drop-requires : goal.drop-requires
drop-requires c κs = (λ a m. absurd (not-mem-nil m), λ a m. absurd (not-mem-nil m))

pub drop-requires-in-Err : goal.drop-requires-in-Err
drop-requires-in-Err c κs = (λ a m. absurd (not-mem-nil m), λ a m. absurd (not-mem-nil m))

pub drop-requires-in-Err-2 : goal.drop-requires-in-Err-2
drop-requires-in-Err-2 c κs = (λ a m. absurd (not-mem-nil m), λ a m. absurd (not-mem-nil m))

pub drop-receipt-requires-in-Err-insert : goal.drop-receipt-requires-in-Err-insert
drop-receipt-requires-in-Err-insert c κs = (λ a m. absurd (not-mem-nil m), λ a m. absurd (not-mem-nil m))

pub drop-receipt-requires-in-Err-insert-2 : goal.drop-receipt-requires-in-Err-insert-2
drop-receipt-requires-in-Err-insert-2 c κs = (λ a m. absurd (not-mem-nil m), λ a m. absurd (not-mem-nil m))

pub drop-receipt-requires-in-Err-insert-3 : goal.drop-receipt-requires-in-Err-insert-3
drop-receipt-requires-in-Err-insert-3 c κs = (λ a m. absurd (not-mem-nil m), λ a m. absurd (not-mem-nil m))

pub returns-in-Ok-insert-clause-same : goal.returns-in-Ok-insert-clause-same
returns-in-Ok-insert-clause-same c = λ s h. tt

pub returns-in-Ok-insert-clause-fault : goal.returns-in-Ok-insert-clause-fault
returns-in-Ok-insert-clause-fault c = tt

pub returns-in-Ok-insert-clause-room : goal.returns-in-Ok-insert-clause-room
returns-in-Ok-insert-clause-room c = c.has_room.ensures.0 c.if-not-has_room.false

pub returns-in-Err-clause-made : goal.returns-in-Err-clause-made
returns-in-Err-clause-made c = λ s after h sound set. tt

pub returns-in-Err-clause-same : goal.returns-in-Err-clause-same
returns-in-Err-clause-same c s h =
    c.count-in-Err.ensures.same s (record {
      offset = h.offset;
      allowance = h.allowance;
      keys = h.keys;
      boxes = h.boxes;
      files = subst (λ entries. MapMeans place_cmp place_of stored_file entries s.files) (sym c.in-Err.ensures.err) h.files;
      receipts = ap (map numbered_receipt) c.reserve.ensures.items ∙ h.receipts;
      totals = h.totals;
      clerks = h.clerks;
      fewer = h.fewer;
      limits = h.limits;
    })

pub returns-in-Err-clause-count : goal.returns-in-Err-clause-count
returns-in-Err-clause-count c = record { err = c.count-in-Err.ensures.rose; ok = tt }

pub returns-in-Err-clause-fault : goal.returns-in-Err-clause-fault
returns-in-Err-clause-fault c = inl (c.count-in-Err.ensures.result, c.has_room.ensures.0 c.if-not-has_room.false)

pub returns-in-Err-clause-room : goal.returns-in-Err-clause-room
returns-in-Err-clause-room c = tt

pub returns-in-Err-clause-staged : goal.returns-in-Err-clause-staged
returns-in-Err-clause-staged c = c.count-in-Err.ensures.staged

pub returns-in-Ok-insert-clause-staged : goal.returns-in-Ok-insert-clause-staged
returns-in-Ok-insert-clause-staged c = grind arith

pub returns-then-not-has_room-clause-count : goal.returns-then-not-has_room-clause-count
returns-then-not-has_room-clause-count c = grind arith

pub returns-then-not-has_room-clause-fault : goal.returns-then-not-has_room-clause-fault
returns-then-not-has_room-clause-fault c = grind arith

pub returns-then-not-has_room-clause-same : goal.returns-then-not-has_room-clause-same
returns-then-not-has_room-clause-same c = grind arith
