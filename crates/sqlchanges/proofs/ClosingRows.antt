-- The UPDATE of the moment at which a box closes.
use Rattle.std.proofs.Common.{◌≡◌, ℕ, pos, List, [], ◌∷◌, Some, Ok, refl, ap, sym, ◌∙◌}
use Rattle.std.specs.List.{list_all}
use Rattle.sigtext.specs.Bytes.{same_bytes}
use Rattle.sqlite_value.specs.declared.value.Value.TheVariants.{Int, Text}
use Rattle.sqlite_value.specs.Order.{Row}
use Rattle.sqlite_sql.specs.Term.{holds, eval_all}
use Rattle.sqlite_schema.specs.declared.schema.Kind.TheVariants.{Integer}
use Rattle.sqlite_rules.specs.Cast.{cast_row, cast, as_text}
use Rattle.sqlite.specs.State.{State, Executes}
use Rattle.sqlite.specs.Term.{Term, col}
use Rattle.sqltables.specs.Schema.{Version}
use Rattle.sqltables.specs.Tables.{Tables, TablesMean, Box, IsBoxRow, put}
use Rattle.sqltables.specs.Changes.{closing_at, with_box}
use Rattle.sqltables.specs.Means.{Holds}
use Rattle.sqltables.proofs.Says.{Says}
use Rattle.sqltables.proofs.Forms.{is}
use Rattle.sqltables.proofs.Texts.{update_closes, update_closes_command}
use Rattle.sqltables.proofs.Ours.{IsOurs, boxes_at}
use Rattle.sqltables.proofs.Rows.{cast_int}
use Rattle.sqltables.proofs.Updates.{HaveRowids}
use Rattle.sqltables.proofs.Maps.{Hits, means_update}
use Rattle.sqltables.proofs.Keys.{sets_put, tells_bytes}
use Rattle.sqlchanges.proofs.Steps.{updates_rows}
use Rattle.sqlchanges.proofs.TotalRows.{passes_text, boxes_mean}

abbrev pub given_closing : List ℕ → ℕ → Row
given_closing name moment = Text name ∷ Int (pos moment) ∷ []

abbrev filter : List Term
filter = is 1 0 ∷ []

abbrev terms : List Term
terms = col 1 0 ∷ col 1 1 ∷ col 1 2 ∷ col 0 1 ∷ col 1 4 ∷ col 1 5 ∷ col 1 6 ∷ col 1 7 ∷ col 1 8 ∷ col 1 9 ∷ col 1 10 ∷ col 1 11 ∷ col 1 12 ∷ col 1 13 ∷ []

abbrev kept : Row → List ℕ → ℕ → Row
kept r name moment = cast_row boxes_at (eval_all terms (given_closing name moment ∷ r ∷ []))

hits_box : (name : List ℕ) (moment : ℕ)
    → Hits IsBoxRow (λ r. list_all (holds (given_closing name moment ∷ r ∷ [])) filter) (λ r. kept r name moment) name (closing_at moment)
hits_box name moment = record {
  hit = λ r q v is passes. tells_bytes.only q name (sym (passes_text given name q r refl is.name_is) ∙ passes);
  miss = λ r q v is fails same. let e = sym fails ∙ passes_text given name q r refl is.name_is ∙ ap (λ x. same_bytes x name) same ∙ tells_bytes.itself name in cc;
  moved = λ r v is. record {
    name_is = ap as_text is.name_is;
    opens_is = number is.opens_is;
    closes_is = cast_int (pos moment);
    days_is = ap as_text is.days_is;
    from_is = number is.from_is;
    to_is = number is.to_is;
    quota_is = number is.quota_is;
    max_is = number is.max_is;
    mode_is = number is.mode_is;
    kind_is = number is.kind_is;
    text_is = ap as_text is.text_is;
    used_is = number is.used_is;
    count_is = number is.count_is;
  };
  keeps = λ r n is. number is;
}
  where
    given : Row
    given = given_closing name moment

    number : {n : _} {v : _} → v ≡ Int n → cast Integer v ≡ Int n
    number {n} e = ap (cast Integer) e ∙ cast_int n

pub sets_closing : (v : Version) (ours : IsOurs v.schema) (says : Says v.schema update_closes update_closes_command) (old new : State) (n : ℕ) (tables : Tables) (name : List ℕ) (box : Box) (moment : ℕ)
    → old.now.schema ≡ v.schema → TablesMean v old.now.trees tables → tables.box name ≡ Some box
    → Executes update_closes (given_closing name moment) old new (Ok n) → Holds v new.now (with_box tables name (closing_at moment box))
sets_closing v ours says old new n tables name box moment has means there ran =
    let rows = old.now.trees 3 in
    let given = given_closing name moment in
    let apart : HaveRowids rows = record { keyed = means.boxes.keyed; apart = means.boxes.apart } in
    let done = updates_rows v.schema ours boxes_at 2 ours.boxes update_closes given old new n (λ db. refl) has ran filter terms says apart in
    let boxes = means_update (put same_bytes tables.box name (closing_at moment box)) rows (new.now.trees 3) (λ r. list_all (holds (given ∷ r ∷ [])) filter) (λ r. kept r name moment)
    name (closing_at moment) means.boxes done.1 (hits_box name moment) (sets_put tells_bytes tables.box name box (closing_at moment) there) in
    record { schema = done.0.same_schema; sound = done.0.sound; means = boxes_mean v tables (put same_bytes tables.box name (closing_at moment box)) old new means done.0.stay boxes }
