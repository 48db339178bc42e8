-- The INSERT of a receipt.
use Rattle.std.proofs.Common.{◌≡◌, ℕ, ◌+◌, pos, List, [], ◌∷◌, map, drop, None, Ok, arith, refl, ap}
use Rattle.std.specs.Prelude.{nat_eq}
use Rattle.sqlite_value.specs.declared.value.Value.TheVariants.{Null, Int, Text, Blob}
use Rattle.sqlite_value.specs.Order.{Row}
use Rattle.sqlite_rules.specs.Edit.{numbered}
use Rattle.sqlite_rules.specs.Cast.{cast_row}
use Rattle.sqlite_rules.specs.declared.error.Rowids.TheVariants.{Chosen}
use Rattle.sqlite.specs.State.{State, Executes}
use Rattle.sqlite.specs.Term.{Term, lit, col}
use Rattle.boxes.specs.State.{Receipt}
use Rattle.sqltables.specs.Schema.{Version}
use Rattle.sqltables.specs.Tables.{Tables, TablesMean, RowsMean, IsReceiptRow, put}
use Rattle.sqltables.specs.Changes.{with_receipt}
use Rattle.sqltables.specs.Means.{Holds}
use Rattle.sqltables.proofs.Says.{Says}
use Rattle.sqltables.proofs.Texts.{insert_receipt, insert_receipt_command}
use Rattle.sqltables.proofs.Ours.{IsOurs, receipts_at}
use Rattle.sqltables.proofs.Rows.{cast_null, cast_int}
use Rattle.sqltables.proofs.Maps.{means_put}
use Rattle.sqltables.proofs.Keys.{adds_put, tells_numbers}
use Rattle.sqlchanges.proofs.Steps.{inserts_row}

abbrev pub given_receipt : ℕ → Receipt → Row
given_receipt at r = Int (pos (at + 1)) ∷ Text r.box ∷ Text r.name ∷ Int (pos r.size) ∷ Blob r.digest ∷ Int (pos r.moment) ∷ Text r.key ∷ []

abbrev receipt_row : ℕ → Receipt → Row
receipt_row at r = Int (pos (at + 1)) ∷ Null ∷ Text r.box ∷ Text r.name ∷ Int (pos r.size) ∷ Blob r.digest ∷ Int (pos r.moment) ∷ Text r.key ∷ []

abbrev terms : List Term
terms = col 0 0 ∷ lit Null ∷ col 0 1 ∷ col 0 2 ∷ col 0 3 ∷ col 0 4 ∷ col 0 5 ∷ col 0 6 ∷ []

news_are : (rows : List Row) (at : ℕ) (r : Receipt) → numbered Chosen rows (map (λ s. cast_row receipts_at (drop 0 s)) (receipt_row at r ∷ [])) ≡ receipt_row at r ∷ []
news_are rows at r = rw (cast_null, cast_int (pos (at + 1)), cast_int (pos r.size), cast_int (pos r.moment))

pub puts_receipt : (v : Version) (ours : IsOurs v.schema) (says : Says v.schema insert_receipt insert_receipt_command) (old new : State) (count : ℕ) (tables : Tables) (at : ℕ) (r : Receipt)
    → old.now.schema ≡ v.schema → TablesMean v old.now.trees tables → tables.receipt at ≡ None → Executes insert_receipt (given_receipt at r) old new (Ok count)
    → Holds v new.now (with_receipt tables at r)
puts_receipt v ours says old new count tables at r has means free ran =
    let rows = old.now.trees 5 in
    let row = receipt_row at r in
    let done = inserts_row v.schema ours receipts_at 3 ours.receipts insert_receipt (given_receipt at r) old new count (λ db. refl) has ran terms 8 says row (news_are rows at r) in
    let receipts : RowsMean IsReceiptRow (put nat_eq tables.receipt at r) (new.now.trees 5) = rw done.1.is
    (means_put (put nat_eq tables.receipt at r) rows row at r (pos (at + 1)) means.receipts
    (record { number_is = refl; box_is = refl; name_is = refl; length_is = refl; digest_is = refl; moment_is = refl; key_is = refl }) refl
    (adds_put tells_numbers tables.receipt at r free) done.1.fresh) in
    let stay = done.0.stay in
    record {
      schema = done.0.same_schema;
      sound = done.0.sound;
      means = record {
        office = rw (stay.office (λ e. omega (arith, e))) means.office;
        keys = rw (stay.keys (λ e. omega (arith, e))) means.keys;
        boxes = rw (stay.boxes (λ e. omega (arith, e))) means.boxes;
        receipts = receipts;
        files = rw (stay.files (λ e. omega (arith, e))) means.files;
        pieces = rw (stay.pieces (λ e. omega (arith, e))) means.pieces;
        unlimited = means.unlimited;
        rules = λ two. rw (stay.rules (ap (λ (w : Version). w.schema) two) (λ e. omega (arith, e))) (means.rules two);
        limits = λ two. rw (stay.limits (ap (λ (w : Version). w.schema) two) (λ e. omega (arith, e))) (means.limits two);
      };
    }
