-- The UPDATE of a box's totals.
use Rattle.std.proofs.Common.{◌≡◌, ℕ, pos, List, [], ◌∷◌, Option, Some, Ok, arith, refl, ap, sym, ◌∙◌}
use Rattle.std.specs.List.{list_all}
use Rattle.std.proofs.Math.Bool.{and-true}
use Rattle.sigtext.specs.Bytes.{same_bytes}
use Rattle.sqlite_value.specs.declared.value.Value.TheVariants.{Int, Text}
use Rattle.sqlite_value.specs.Order.{Row, column}
use Rattle.sqlite_sql.specs.Term.{holds, eval_all}
use Rattle.sqlite_schema.specs.declared.schema.Kind.TheVariants.{Integer}
use Rattle.sqlite_rules.specs.Cast.{cast_row, cast, as_text}
use Rattle.sqlite.specs.State.{State, Executes}
use Rattle.sqlite.specs.Term.{Term, col}
use Rattle.sqltables.specs.Schema.{Version}
use Rattle.sqltables.specs.Tables.{Tables, TablesMean, RowsMean, Box, IsBoxRow, put}
use Rattle.sqltables.specs.Changes.{with_totals, with_box}
use Rattle.sqltables.specs.Means.{Holds}
use Rattle.sqltables.proofs.Says.{Says}
use Rattle.sqltables.proofs.Forms.{is}
use Rattle.sqltables.proofs.Texts.{update_totals, update_totals_command}
use Rattle.sqltables.proofs.Ours.{IsOurs, OthersStay, boxes_at}
use Rattle.sqltables.proofs.Rows.{cast_int, equal_texts}
use Rattle.sqltables.proofs.Updates.{HaveRowids}
use Rattle.sqltables.proofs.Maps.{Hits, means_update}
use Rattle.sqltables.proofs.Keys.{sets_put, tells_bytes, by_order}
use Rattle.sqlchanges.proofs.Steps.{updates_rows}

-- the other tables mean the same as before
pub boxes_mean : (v : Version) (tables : Tables) (box : List ℕ → Option Box) (old new : State) → TablesMean v old.now.trees tables → OthersStay v.schema 3 old.now.trees new.now.trees
    → RowsMean IsBoxRow box (new.now.trees 3) → TablesMean v new.now.trees (record tables { box = box })
boxes_mean v tables box old new means stay boxes = record {
  office = rw (stay.office (λ e. omega (arith, e))) means.office;
  keys = rw (stay.keys (λ e. omega (arith, e))) means.keys;
  boxes = boxes;
  receipts = rw (stay.receipts (λ e. omega (arith, e))) means.receipts;
  files = rw (stay.files (λ e. omega (arith, e))) means.files;
  pieces = rw (stay.pieces (λ e. omega (arith, e))) means.pieces;
  unlimited = means.unlimited;
  rules = λ two. rw (stay.rules (ap (λ (w : Version). w.schema) two) (λ e. omega (arith, e))) (means.rules two);
  limits = λ two. rw (stay.limits (ap (λ (w : Version). w.schema) two) (λ e. omega (arith, e))) (means.limits two);
}

abbrev pub given_totals : List ℕ → ℕ → ℕ → Row
given_totals name used count = Text name ∷ Int (pos used) ∷ Int (pos count) ∷ []

abbrev filter : List Term
filter = is 1 0 ∷ []

abbrev terms : List Term
terms = col 1 0 ∷ col 1 1 ∷ col 1 2 ∷ col 1 3 ∷ col 1 4 ∷ col 1 5 ∷ col 1 6 ∷ col 1 7 ∷ col 1 8 ∷ col 1 9 ∷ col 1 10 ∷ col 1 11 ∷ col 0 1 ∷ col 0 2 ∷ []

-- WHERE passes the row of this text
pub passes_text : (given : Row) (text q : List ℕ) (row : Row) → column given 0 ≡ Text text → column row 1 ≡ Text q → list_all (holds (given ∷ row ∷ [])) filter ≡ same_bytes q text
passes_text given text q row here is = rw (here, is, equal_texts q text, ← by_order q text) (and-true (same_bytes q text))

abbrev kept : Row → List ℕ → ℕ → ℕ → Row
kept r name used count = cast_row boxes_at (eval_all terms (given_totals name used count ∷ r ∷ []))

hits_box : (name : List ℕ) (used count : ℕ)
    → Hits IsBoxRow (λ r. list_all (holds (given_totals name used count ∷ r ∷ [])) filter) (λ r. kept r name used count) name (with_totals used count)
hits_box name used count = record {
  hit = λ r q v is passes. tells_bytes.only q name (sym (passes_text given name q r refl is.name_is) ∙ passes);
  miss = λ r q v is fails same. let e = sym fails ∙ passes_text given name q r refl is.name_is ∙ ap (λ x. same_bytes x name) same ∙ tells_bytes.itself name in cc;
  moved = λ r v is. record {
    name_is = ap as_text is.name_is;
    opens_is = number is.opens_is;
    closes_is = number is.closes_is;
    days_is = ap as_text is.days_is;
    from_is = number is.from_is;
    to_is = number is.to_is;
    quota_is = number is.quota_is;
    max_is = number is.max_is;
    mode_is = number is.mode_is;
    kind_is = number is.kind_is;
    text_is = ap as_text is.text_is;
    used_is = cast_int (pos used);
    count_is = cast_int (pos count);
  };
  keeps = λ r n is. number is;
}
  where
    given : Row
    given = given_totals name used count

    number : {n : _} {v : _} → v ≡ Int n → cast Integer v ≡ Int n
    number {n} e = ap (cast Integer) e ∙ cast_int n

pub sets_totals : (v : Version) (ours : IsOurs v.schema) (says : Says v.schema update_totals update_totals_command) (old new : State) (n : ℕ) (tables : Tables) (name : List ℕ) (box : Box) (used count : ℕ)
    → old.now.schema ≡ v.schema → TablesMean v old.now.trees tables → tables.box name ≡ Some box
    → Executes update_totals (given_totals name used count) old new (Ok n) → Holds v new.now (with_box tables name (with_totals used count box))
sets_totals v ours says old new n tables name box used count has means there ran =
    let rows = old.now.trees 3 in
    let given = given_totals name used count in
    let apart : HaveRowids rows = record { keyed = means.boxes.keyed; apart = means.boxes.apart } in
    let done = updates_rows v.schema ours boxes_at 2 ours.boxes update_totals given old new n (λ db. refl) has ran filter terms says apart in
    let boxes = means_update (put same_bytes tables.box name (with_totals used count box)) rows (new.now.trees 3) (λ r. list_all (holds (given ∷ r ∷ [])) filter) (λ r. kept r name used count)
    name (with_totals used count) means.boxes done.1 (hits_box name used count) (sets_put tells_bytes tables.box name box (with_totals used count) there) in
    record { schema = done.0.same_schema; sound = done.0.sound; means = boxes_mean v tables (put same_bytes tables.box name (with_totals used count box)) old new means done.0.stay boxes }
