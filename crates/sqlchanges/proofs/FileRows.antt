-- The INSERT of a file, the UPDATE of its receipt, and the DELETE of a file.
use Rattle.std.proofs.Common.{◌≡◌, ℕ, ℤ, pos, List, [], ◌∷◌, map, drop, Option, None, Some, Ok, arith, refl, ap, sym, ◌∙◌}
use Rattle.std.specs.List.{list_all}
use Rattle.sqlite_value.specs.declared.value.Value.TheVariants.{Null, Int, Text}
use Rattle.sqlite_value.specs.Order.{Row, column}
use Rattle.sqlite_sql.specs.Term.{holds, eval_all}
use Rattle.sqlite_schema.specs.declared.schema.Kind.TheVariants.{Integer}
use Rattle.sqlite_rules.specs.Edit.{numbered, next_rowid}
use Rattle.sqlite_rules.specs.Cast.{cast_row, cast, as_text}
use Rattle.sqlite_rules.specs.declared.error.Rowids.TheVariants.{Chosen}
use Rattle.sqlite.specs.State.{State, Executes}
use Rattle.sqlite.specs.Term.{Term, lit, col}
use Rattle.boxes.specs.State.{Place}
use Rattle.sqltables.specs.Schema.{Version}
use Rattle.sqltables.specs.Tables.{Tables, TablesMean, RowsMean, IsFileRow, put, without, same_place}
use Rattle.sqltables.specs.Changes.{with_file, without_file}
use Rattle.sqltables.specs.Means.{Holds}
use Rattle.sqltables.proofs.Says.{Says}
use Rattle.sqltables.proofs.Forms.{is}
use Rattle.sqltables.proofs.Texts.{insert_file, insert_file_command, update_file, update_file_command, delete_file, delete_file_command}
use Rattle.sqltables.proofs.Ours.{IsOurs, OthersStay, files_at}
use Rattle.sqltables.proofs.Rows.{cast_null, cast_int}
use Rattle.sqltables.proofs.Updates.{HaveRowids}
use Rattle.sqltables.proofs.Maps.{means_put, means_update, means_without, Hits}
use Rattle.sqltables.proofs.Keys.{adds_put, sets_put, tells_places}
use Rattle.sqltables.proofs.Places.{given_place, passes_place}
use Rattle.sqlchanges.proofs.Steps.{inserts_row, updates_rows, deletes_rows}

abbrev pub given_file : Place → ℕ → Row
given_file place number = Text place.box ∷ Text place.name ∷ Int (pos number) ∷ []

abbrev file_row : ℤ → Place → ℕ → Row
file_row n place number = Int n ∷ given_file place number

abbrev terms : List Term
terms = lit Null ∷ col 0 0 ∷ col 0 1 ∷ col 0 2 ∷ []

news_are : (rows : List Row) (place : Place) (number : ℕ) → numbered Chosen rows (map (λ s. cast_row files_at (drop 0 s)) ((Null ∷ given_file place number) ∷ [])) ≡ file_row (next_rowid rows) place number ∷ []
news_are rows place number = rw (cast_null, cast_int (pos number))

-- the other tables mean the same as before
others_mean : (v : Version) (tables : Tables) (file : Place → Option ℕ) (old new : State) → TablesMean v old.now.trees tables → OthersStay v.schema 6 old.now.trees new.now.trees
    → RowsMean IsFileRow file (new.now.trees 6) → TablesMean v new.now.trees (record tables { file = file })
others_mean v tables file old new means stay files = record {
  office = rw (stay.office (λ e. omega (arith, e))) means.office;
  keys = rw (stay.keys (λ e. omega (arith, e))) means.keys;
  boxes = rw (stay.boxes (λ e. omega (arith, e))) means.boxes;
  receipts = rw (stay.receipts (λ e. omega (arith, e))) means.receipts;
  files = files;
  pieces = rw (stay.pieces (λ e. omega (arith, e))) means.pieces;
  unlimited = means.unlimited;
  rules = λ two. rw (stay.rules (ap (λ (w : Version). w.schema) two) (λ e. omega (arith, e))) (means.rules two);
  limits = λ two. rw (stay.limits (ap (λ (w : Version). w.schema) two) (λ e. omega (arith, e))) (means.limits two);
}

pub puts_file : (v : Version) (ours : IsOurs v.schema) (says : Says v.schema insert_file insert_file_command) (old new : State) (count : ℕ) (tables : Tables) (place : Place) (number : ℕ)
    → old.now.schema ≡ v.schema → TablesMean v old.now.trees tables → tables.file place ≡ None
    → Executes insert_file (given_file place number) old new (Ok count) → Holds v new.now (with_file tables place number)
puts_file v ours says old new count tables place number has means free ran =
    let rows = old.now.trees 6 in
    let row = file_row (next_rowid rows) place number in
    let done = inserts_row v.schema ours files_at 4 ours.files insert_file (given_file place number) old new count (λ db. refl) has ran terms 4 says row (news_are rows place number) in
    let files : RowsMean IsFileRow (put same_place tables.file place number) (new.now.trees 6) = rw done.1.is
    (means_put (put same_place tables.file place number) rows row place number (next_rowid rows) means.files (record { box_is = refl; name_is = refl; receipt_is = refl }) refl
    (adds_put tells_places tables.file place number free) done.1.fresh) in
    record { schema = done.0.same_schema; sound = done.0.sound; means = others_mean v tables (put same_place tables.file place number) old new means done.0.stay files }

-- ---- UPDATE

abbrev filter : List Term
filter = is 1 0 ∷ is 2 1 ∷ []

abbrev set_terms : List Term
set_terms = col 1 0 ∷ col 1 1 ∷ col 1 2 ∷ col 0 2 ∷ []

abbrev kept : Row → Place → ℕ → Row
kept r place number = cast_row files_at (eval_all set_terms (given_file place number ∷ r ∷ []))

passes : (place q : Place) (number : ℕ) (row : Row) → column row 1 ≡ Text q.box → column row 2 ≡ Text q.name → list_all (holds (given_file place number ∷ row ∷ [])) filter ≡ same_place q place
passes place q number row box name = passes_place place q row box name

hits_file : (place : Place) (number : ℕ) → Hits IsFileRow (λ r. list_all (holds (given_file place number ∷ r ∷ [])) filter) (λ r. kept r place number) place (λ old. number)
hits_file place number = record {
  hit = λ r q v is pass. tells_places.only q place (sym (passes place q number r is.box_is is.name_is) ∙ pass);
  miss = λ r q v is fails same. let e = sym fails ∙ passes place q number r is.box_is is.name_is ∙ ap (λ x. same_place x place) same ∙ tells_places.itself place in cc;
  moved = λ r v is. record { box_is = ap as_text is.box_is; name_is = ap as_text is.name_is; receipt_is = cast_int (pos number) };
  keeps = λ r n is. ap (cast Integer) is ∙ cast_int n;
}

pub sets_file : (v : Version) (ours : IsOurs v.schema) (says : Says v.schema update_file update_file_command) (old new : State) (n : ℕ) (tables : Tables) (place : Place) (was number : ℕ)
    → old.now.schema ≡ v.schema → TablesMean v old.now.trees tables → tables.file place ≡ Some was
    → Executes update_file (given_file place number) old new (Ok n) → Holds v new.now (with_file tables place number)
sets_file v ours says old new n tables place was number has means there ran =
    let rows = old.now.trees 6 in
    let given = given_file place number in
    let apart : HaveRowids rows = record { keyed = means.files.keyed; apart = means.files.apart } in
    let done = updates_rows v.schema ours files_at 4 ours.files update_file given old new n (λ db. refl) has ran filter set_terms says apart in
    let files = means_update (put same_place tables.file place number) rows (new.now.trees 6) (λ r. list_all (holds (given ∷ r ∷ [])) filter) (λ r. kept r place number) place (λ old. number)
    means.files done.1 (hits_file place number) (sets_put tells_places tables.file place was (λ old. number) there) in
    record { schema = done.0.same_schema; sound = done.0.sound; means = others_mean v tables (put same_place tables.file place number) old new means done.0.stay files }

-- ---- DELETE

pub drops_file : (v : Version) (ours : IsOurs v.schema) (says : Says v.schema delete_file delete_file_command) (old new : State) (count : ℕ) (tables : Tables) (place : Place)
    → old.now.schema ≡ v.schema → TablesMean v old.now.trees tables
    → Executes delete_file (given_place place) old new (Ok count) → Holds v new.now (without_file tables place)
drops_file v ours says old new count tables place has means ran =
    let rows = old.now.trees 6 in
    let apart : HaveRowids rows = record { keyed = means.files.keyed; apart = means.files.apart } in
    let done = deletes_rows v.schema ours files_at 4 ours.files delete_file (given_place place) old new count (λ db. refl) has ran filter says apart in
    let files = means_without (λ q. same_place q place) rows (new.now.trees 6) _ means.files done.1 (λ row q number is. passes_place place q row is.box_is is.name_is) in
    record { schema = done.0.same_schema; sound = done.0.sound; means = others_mean v tables (without (λ q. same_place q place) tables.file) old new means done.0.stay files }
