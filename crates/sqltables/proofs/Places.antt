-- The WHERE that picks the rows of a place.
use Rattle.std.proofs.Common.{◌≡◌, List, [], ◌∷◌, ◌&&◌, ap}
use Rattle.std.specs.List.{list_all}
use Rattle.std.proofs.Math.Bool.{and-true}
use Rattle.sigtext.specs.Bytes.{same_bytes}
use Rattle.sqlite_value.specs.declared.value.Value.TheVariants.{Text}
use Rattle.sqlite_value.specs.Order.{Row, column}
use Rattle.sqlite.specs.Term.{Term}
use Rattle.sqlite_sql.specs.Term.{holds}
use Rattle.boxes.specs.State.{Place}
use Rattle.sqltables.specs.Tables.{same_place}
use Rattle.sqltables.proofs.Forms.{is}
use Rattle.sqltables.proofs.Rows.{equal_texts}
use Rattle.sqltables.proofs.Keys.{by_order}

abbrev pub given_place : Place → Row
given_place place = Text place.box ∷ Text place.name ∷ []

abbrev pub filter : List Term
filter = is 1 0 ∷ is 2 1 ∷ []

-- WHERE passes the rows of this place
pub passes_place : (place q : Place) (row : Row) → column row 1 ≡ Text q.box → column row 2 ≡ Text q.name
    → list_all (holds (given_place place ∷ row ∷ [])) filter ≡ same_place q place
passes_place place q row box name = rw (box, name, equal_texts q.box place.box, equal_texts q.name place.name, ← by_order q.box place.box, ← by_order q.name place.name) (ap (λ b. same_bytes q.box place.box && b) (and-true (same_bytes q.name place.name)))
