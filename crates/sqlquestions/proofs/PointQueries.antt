-- The queries by key: which rows their WHERE passes, and what they show.
use Rattle.std.proofs.Common.{◌≡◌, ℕ, ◌+◌, pos, List, [], ◌∷◌, Bool, true, Some, arith, refl}
use Rattle.std.specs.Prelude.{nat_eq}
use Rattle.std.specs.List.{list_all}
use Rattle.std.proofs.lemmas.Bool.{eqb-true, eq-eqb}
use Rattle.std.proofs.Math.Bool.{and-true}
use Rattle.sigtext.specs.Bytes.{same_bytes}
use Rattle.sqlite_value.specs.declared.value.Value.TheVariants.{Int, Text}
use Rattle.sqlite_value.specs.Order.{Row, column}
use Rattle.sqlite_sql.specs.Term.{Term, col, holds}
use Rattle.boxes.specs.State.{Place}
use Rattle.sqltables.specs.Tables.{Tables, IsOfficeRow, IsKeyRow, IsBoxRow, IsReceiptRow, IsFileRow, IsRulesRow, same_place}
use Rattle.sqltables.specs.Questions.{shown_office, shown_key, shown_box, shown_totals, shown_receipt, shown_number}
use Rattle.sqltables.proofs.Forms.{is}
use Rattle.sqltables.proofs.Rows.{equal_texts, equal_numbers}
use Rattle.sqltables.proofs.Keys.{Tells, tells_bytes, tells_places, by_order}
use Rattle.sqltables.proofs.Places.{given_place, passes_place}
use Rattle.sqltables.proofs.Asked.{Picks}

-- ---- the only row

pub tells_one : Tells {K = Unit {0}} (λ a b. true)
tells_one = record { only = λ a b same. refl; itself = λ a. refl }

pub picks_office : (version : _) (tables : Tables) → Picks (IsOfficeRow version) (λ one. Some tables.offset) (λ a b. true) tells_one [] (col 1 2 ∷ col 1 3 ∷ []) (shown_office version) [] tt
picks_office version tables = record {
  passes = λ row q offset is. refl;
  shows = λ row offset is. rw (is.version_is, is.east_is);
}

pub picks_allowance : (tables : Tables) → Picks IsRulesRow (λ one. Some tables.allowance) (λ a b. true) tells_one [] (col 1 2 ∷ []) shown_number [] tt
picks_allowance tables = record {
  passes = λ row q seconds is. refl;
  shows = λ row seconds is. rw is.allowance_is;
}

-- ---- by a text

abbrev by_text : List Term
by_text = is 1 0 ∷ []

pub passes_text : (text q : List ℕ) (row : Row) → column row 1 ≡ Text q → list_all (holds ((Text text ∷ []) ∷ row ∷ [])) by_text ≡ same_bytes q text
passes_text text q row is = rw (is, equal_texts q text, ← by_order q text) (and-true (same_bytes q text))

pub picks_key : (tables : Tables) (id : List ℕ) → Picks IsKeyRow tables.key same_bytes tells_bytes by_text (col 1 2 ∷ col 1 3 ∷ col 1 4 ∷ []) shown_key (Text id ∷ []) id
picks_key tables id = record {
  passes = λ row q v is. passes_text id q row is.id_is;
  shows = λ row v is. rw (is.role_is, is.secret_is, is.revoked_is);
}

pub picks_box : (tables : Tables) (name : List ℕ)
    → Picks IsBoxRow tables.box same_bytes tells_bytes by_text
    (col 1 2 ∷ col 1 3 ∷ col 1 4 ∷ col 1 5 ∷ col 1 6 ∷ col 1 7 ∷ col 1 8 ∷ col 1 9 ∷ col 1 10 ∷ col 1 11 ∷ col 1 12 ∷ col 1 13 ∷ []) shown_box (Text name ∷ []) name
picks_box tables name = record {
  passes = λ row q v is. passes_text name q row is.name_is;
  shows = λ row v is.
      rw (is.opens_is, is.closes_is, is.days_is, is.from_is, is.to_is, is.quota_is, is.max_is, is.mode_is, is.kind_is, is.text_is, is.used_is, is.count_is);
}

pub picks_totals : (tables : Tables) (name : List ℕ) → Picks IsBoxRow tables.box same_bytes tells_bytes by_text (col 1 12 ∷ col 1 13 ∷ []) shown_totals (Text name ∷ []) name
picks_totals tables name = record {
  passes = λ row q v is. passes_text name q row is.name_is;
  shows = λ row v is. rw (is.used_is, is.count_is);
}

-- ---- by a place

pub picks_file : (tables : Tables) (place : Place) → Picks IsFileRow tables.file same_place tells_places (is 1 0 ∷ is 2 1 ∷ []) (col 1 3 ∷ []) shown_number (given_place place) place
picks_file tables place = record {
  passes = λ row q v is. passes_place place q row is.box_is is.name_is;
  shows = λ row v is. rw is.receipt_is;
}

-- ---- by a number; the first number is 1

abbrev same_number : ℕ → ℕ → Bool
same_number a b = nat_eq (a + 1) (b + 1)

pub tells_next : Tells same_number
tells_next = record { only = λ a b hit. let same = eqb-true (a + 1) (b + 1) hit in omega (arith, same); itself = λ a. eq-eqb (a + 1) (a + 1) refl }

pub picks_receipt : (tables : Tables) (at : ℕ)
    → Picks IsReceiptRow tables.receipt same_number tells_next (is 0 0 ∷ []) (col 1 2 ∷ col 1 3 ∷ col 1 4 ∷ col 1 5 ∷ col 1 6 ∷ col 1 7 ∷ []) shown_receipt (Int (pos (at + 1)) ∷ []) at
picks_receipt tables at = record {
  passes = λ row q v is. rw (is.number_is, equal_numbers (q + 1) (at + 1)) (and-true (nat_eq (q + 1) (at + 1)));
  shows = λ row v is. rw (is.box_is, is.name_is, is.length_is, is.digest_is, is.moment_is, is.key_is);
}
