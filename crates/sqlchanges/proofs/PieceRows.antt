-- The INSERT of a piece, and the DELETE of a file's pieces.
use Rattle.std.proofs.Common.{◌≡◌, ℕ, ℤ, pos, List, [], ◌∷◌, map, drop, None, Ok, arith, refl, ap, sym, subst}
use Rattle.sqlite_value.specs.declared.value.Value.TheVariants.{Null, Int, Text, Blob}
use Rattle.sqlite_value.specs.Order.{Row}
use Rattle.sqlite_rules.specs.Edit.{numbered, next_rowid}
use Rattle.sqlite_rules.specs.Cast.{cast_row}
use Rattle.sqlite_rules.specs.declared.error.Rowids.TheVariants.{Chosen}
use Rattle.sqlite.specs.State.{State, Executes}
use Rattle.sqlite.specs.Term.{Term, lit, col}
use Rattle.boxes.specs.State.{Place}
use Rattle.sqltables.specs.Schema.{Version}
use Rattle.sqltables.specs.Tables.{Tables, TablesMean, RowsMean, IsPieceRow, Part, same_place}
use Rattle.sqltables.specs.Changes.{with_piece, without_pieces}
use Rattle.sqltables.specs.Means.{Holds}
use Rattle.sqltables.proofs.Says.{Says}
use Rattle.sqltables.proofs.Places.{given_place, filter, passes_place}
use Rattle.sqltables.proofs.Texts.{insert_piece, insert_piece_command, delete_pieces, delete_pieces_command}
use Rattle.sqltables.proofs.Ours.{IsOurs, OthersStay, pieces_at}
use Rattle.sqltables.proofs.Rows.{cast_null, cast_int}
use Rattle.sqltables.proofs.Updates.{HaveRowids}
use Rattle.sqltables.proofs.Maps.{means_put, means_without, Adds}
use Rattle.sqltables.proofs.Keys.{adds_put, tells_parts}
use Rattle.sqlchanges.proofs.Steps.{inserts_row, deletes_rows}

abbrev pub given_piece : Part → List ℕ → Row
given_piece part bytes = Text part.place.box ∷ Text part.place.name ∷ Int (pos part.at) ∷ Blob bytes ∷ []

abbrev piece_row : ℤ → Part → List ℕ → Row
piece_row n part bytes = Int n ∷ Text part.place.box ∷ Text part.place.name ∷ Int (pos part.at) ∷ Blob bytes ∷ []

abbrev terms : List Term
terms = lit Null ∷ col 0 0 ∷ col 0 1 ∷ col 0 2 ∷ col 0 3 ∷ []

news_are : (rows : List Row) (part : Part) (bytes : List ℕ)
    → numbered Chosen rows (map (λ s. cast_row pieces_at (drop 0 s)) ((Null ∷ given_piece part bytes) ∷ [])) ≡ piece_row (next_rowid rows) part bytes ∷ []
news_are rows part bytes = rw (cast_null, cast_int (pos part.at))

-- the other tables mean the same as before
others_mean : (v : Version) (tables after : Tables) (old new : State) → TablesMean v old.now.trees tables → OthersStay v.schema 9 old.now.trees new.now.trees
    → (pieces : RowsMean IsPieceRow after.piece (new.now.trees 9)) → after ≡ record tables { piece = after.piece } → TablesMean v new.now.trees after
others_mean v tables after old new means stay pieces same =
    let at_tables : TablesMean v new.now.trees (record tables { piece = after.piece }) = record {
      office = rw (stay.office (λ e. omega (arith, e))) means.office;
      keys = rw (stay.keys (λ e. omega (arith, e))) means.keys;
      boxes = rw (stay.boxes (λ e. omega (arith, e))) means.boxes;
      receipts = rw (stay.receipts (λ e. omega (arith, e))) means.receipts;
      files = rw (stay.files (λ e. omega (arith, e))) means.files;
      pieces = pieces;
      unlimited = means.unlimited;
      rules = λ two. rw (stay.rules (ap (λ (w : Version). w.schema) two) (λ e. omega (arith, e))) (means.rules two);
      limits = λ two. rw (stay.limits (ap (λ (w : Version). w.schema) two) (λ e. omega (arith, e))) (means.limits two);
    } in
    subst (TablesMean v new.now.trees) (sym same) at_tables

-- in general: `after` has one more piece
pub adds_piece : (v : Version) (ours : IsOurs v.schema) (says : Says v.schema insert_piece insert_piece_command) (old new : State) (count : ℕ) (tables after : Tables) (part : Part) (bytes : List ℕ)
    → old.now.schema ≡ v.schema → TablesMean v old.now.trees tables → Adds tables.piece after.piece part bytes → after ≡ record tables { piece = after.piece }
    → Executes insert_piece (given_piece part bytes) old new (Ok count) → Holds v new.now after
adds_piece v ours says old new count tables after part bytes has means adds same ran =
    let rows = old.now.trees 9 in
    let row = piece_row (next_rowid rows) part bytes in
    let done = inserts_row v.schema ours pieces_at 5 ours.pieces insert_piece (given_piece part bytes) old new count (λ db. refl) has ran terms 5 says row (news_are rows part bytes) in
    let pieces : RowsMean IsPieceRow after.piece (new.now.trees 9) = rw done.1.is
    (means_put after.piece rows row part bytes (next_rowid rows) means.pieces (record { box_is = refl; name_is = refl; part_is = refl; bytes_is = refl }) refl adds done.1.fresh) in
    record { schema = done.0.same_schema; sound = done.0.sound; means = others_mean v tables after old new means done.0.stay pieces same }

pub puts_piece : (v : Version) (ours : IsOurs v.schema) (says : Says v.schema insert_piece insert_piece_command) (old new : State) (count : ℕ) (tables : Tables) (part : Part) (bytes : List ℕ)
    → old.now.schema ≡ v.schema → TablesMean v old.now.trees tables → tables.piece part ≡ None
    → Executes insert_piece (given_piece part bytes) old new (Ok count) → Holds v new.now (with_piece tables part bytes)
puts_piece v ours says old new count tables part bytes has means free ran =
    adds_piece v ours says old new count tables (with_piece tables part bytes) part bytes has means (adds_put tells_parts tables.piece part bytes free) refl ran

-- ---- DELETE

pub drops_pieces : (v : Version) (ours : IsOurs v.schema) (says : Says v.schema delete_pieces delete_pieces_command) (old new : State) (count : ℕ) (tables : Tables) (place : Place)
    → old.now.schema ≡ v.schema → TablesMean v old.now.trees tables
    → Executes delete_pieces (given_place place) old new (Ok count) → Holds v new.now (without_pieces tables place)
drops_pieces v ours says old new count tables place has means ran =
    let rows = old.now.trees 9 in
    let apart : HaveRowids rows = record { keyed = means.pieces.keyed; apart = means.pieces.apart } in
    let done = deletes_rows v.schema ours pieces_at 5 ours.pieces delete_pieces (given_place place) old new count (λ db. refl) has ran filter says apart in
    let pieces = means_without (λ part. same_place part.place place) rows (new.now.trees 9) _ means.pieces done.1 (λ row part bytes is. passes_place place part.place row is.box_is is.name_is) in
    record { schema = done.0.same_schema; sound = done.0.sound; means = others_mean v tables (without_pieces tables place) old new means done.0.stay pieces refl }
