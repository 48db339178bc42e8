-- The INSERT of a box.
use Rattle.std.proofs.Common.{◌≡◌, ℕ, pos, List, [], ◌∷◌, ◌++◌, map, drop, None, Ok, refl}
use Rattle.sigtext.specs.Bytes.{same_bytes}
use Rattle.sqlite_value.specs.declared.value.Value.TheVariants.{Null, Int, Text}
use Rattle.sqlite_value.specs.Order.{Row}
use Rattle.sqlite_rules.specs.Edit.{numbered, next_rowid}
use Rattle.sqlite_rules.specs.Cast.{cast_row}
use Rattle.sqlite_rules.specs.declared.error.Rowids.TheVariants.{Chosen}
use Rattle.sqlite.specs.State.{State, Executes}
use Rattle.sqlite.specs.Term.{Term, lit, col}
use Rattle.boxes.specs.State.{Settings}
use Rattle.sqltables.specs.Schema.{Version}
use Rattle.sqltables.specs.Tables.{Tables, TablesMean, RowsMean, Box, IsBoxRow, put, mode_number, rule_number, rule_text, days_text}
use Rattle.sqltables.specs.Changes.{with_box}
use Rattle.sqltables.specs.Means.{Holds}
use Rattle.sqltables.proofs.Says.{Says}
use Rattle.sqltables.proofs.Forms.{whole_number}
use Rattle.sqltables.proofs.Texts.{insert_box, insert_box_command}
use Rattle.sqltables.proofs.Ours.{IsOurs, boxes_at}
use Rattle.sqltables.proofs.Rows.{cast_null, cast_int}
use Rattle.sqltables.proofs.Maps.{means_put}
use Rattle.sqltables.proofs.Keys.{adds_put, tells_bytes}
use Rattle.sqlchanges.proofs.Steps.{inserts_row}
use Rattle.sqlchanges.proofs.TotalRows.{boxes_mean}

abbrev pub given_box : List ℕ → Settings → Row
given_box name b =
    Text name ∷ Int (pos b.opens) ∷ Int (pos b.closes) ∷ Text (days_text b.days) ∷ Int (pos b.from_minute) ∷ Int (pos b.to_minute) ∷ Int (pos b.quota) ∷ Int (pos b.max_files)
    ∷ Int (mode_number b.mode) ∷ Int (rule_number b.rule) ∷ Text (rule_text b.rule) ∷ []

-- the values in the order of the columns, without the rowid
abbrev box_values : List ℕ → Settings → Row
box_values name b = given_box name b ++ Int (pos 0) ∷ Int (pos 0) ∷ []

abbrev pub new_box : Settings → Box
new_box b = record { settings = b; used = 0; count = 0 }

abbrev terms : List Term
terms = lit Null ∷ col 0 0 ∷ col 0 1 ∷ col 0 2 ∷ col 0 3 ∷ col 0 4 ∷ col 0 5 ∷ col 0 6 ∷ col 0 7 ∷ col 0 8 ∷ col 0 9 ∷ col 0 10 ∷ whole_number 0 ∷ whole_number 0 ∷ []

news_are : (rows : List Row) (name : List ℕ) (b : Settings)
    → numbered Chosen rows (map (λ s. cast_row boxes_at (drop 0 s)) ((Null ∷ box_values name b) ∷ [])) ≡ (Int (next_rowid rows) ∷ box_values name b) ∷ []
news_are rows name b = rw (
  cast_null,
  cast_int (pos b.opens),
  cast_int (pos b.closes),
  cast_int (pos b.from_minute),
  cast_int (pos b.to_minute),
  cast_int (pos b.quota),
  cast_int (pos b.max_files),
  cast_int (mode_number b.mode),
  cast_int (rule_number b.rule),
  cast_int (pos 0),
)

pub puts_box : (v : Version) (ours : IsOurs v.schema) (says : Says v.schema insert_box insert_box_command) (old new : State) (count : ℕ) (tables : Tables) (name : List ℕ) (b : Settings)
    → old.now.schema ≡ v.schema → TablesMean v old.now.trees tables → tables.box name ≡ None
    → Executes insert_box (given_box name b) old new (Ok count) → Holds v new.now (with_box tables name (new_box b))
puts_box v ours says old new count tables name b has means free ran =
    let rows = old.now.trees 3 in
    let row = Int (next_rowid rows) ∷ box_values name b in
    let done = inserts_row v.schema ours boxes_at 2 ours.boxes insert_box (given_box name b) old new count (λ db. refl) has ran terms 14 says row (news_are rows name b) in
    let boxes : RowsMean IsBoxRow (put same_bytes tables.box name (new_box b)) (new.now.trees 3) = rw done.1.is
    (means_put (put same_bytes tables.box name (new_box b)) rows row name (new_box b) (next_rowid rows) means.boxes
    (record {
      name_is = refl;
      opens_is = refl;
      closes_is = refl;
      days_is = refl;
      from_is = refl;
      to_is = refl;
      quota_is = refl;
      max_is = refl;
      mode_is = refl;
      kind_is = refl;
      text_is = refl;
      used_is = refl;
      count_is = refl;
    }) refl (adds_put tells_bytes tables.box name (new_box b) free) done.1.fresh) in
    record { schema = done.0.same_schema; sound = done.0.sound; means = boxes_mean v tables (put same_bytes tables.box name (new_box b)) old new means done.0.stay boxes }
