-- A piece as it is listed, with the length of its bytes.
use Rattle.std.proofs.Common.{◌≡◌, ◌≢◌, ℕ, ℤ, pos, length, List, [], ◌∷◌, true, Ordering, Less, Equal, Greater, refl, sym, ap, ◌∙◌}
use Rattle.std.specs.Ordering.{int_cmp, is_ne}
use Rattle.std.specs.FinMap.{int_cmp-IsAntisymmetric}
use Rattle.sqlite_value.specs.declared.value.Value.TheVariants.{Int, Blob}
use Rattle.sqlite_value.specs.Order.{Row, value_cmp}
use Rattle.sqlite_value.specs.declared.keys.Collation.TheVariants.{Binary}
use Rattle.sqlite_value.proofs.OrderLemmas.{value_cmp-Int}
use Rattle.sqlite_sql.specs.Ops.{unary, binary, is_true}
use Rattle.sqlite_sql.specs.declared.ops.BinaryOp.TheVariants.{Compare}
use Rattle.sqlite_sql.specs.declared.ops.CompareOp.TheVariants.{Ne}
use Rattle.sqlite_sql.specs.Term.{Term, col, op1, eval_all}
use Rattle.sqlite_sql.specs.declared.ops.UnaryOp.TheVariants.{Length}
use Rattle.sqlite_rules.specs.Lists.{Has}
use Rattle.sqlite.specs.Effect.{Database}
use Rattle.sqltables.specs.Schema.{Version, IsVersion}
use Rattle.sqltables.specs.Means.{IsWhole}
use Rattle.sqltables.proofs.PieceColumns.{piece_columns}
use Rattle.sqlaudit.specs.declared.lines.PieceLine.{PieceLine}
use Rattle.sqlaudit.specs.Lines.{IsLater, IsPieceLine, ShowsPiece}
use Rattle.sqlaudit.specs.Portions.{Passes}
use Rattle.sqlaudit.proofs.LongTexts.{later}
use Rattle.sqlaudit.proofs.PortionRows.{truth_of}

abbrev project : List Term
project = col 1 0 ∷ col 1 1 ∷ col 1 2 ∷ col 1 3 ∷ op1 Length (col 1 4) ∷ []

measured : (bytes : List ℕ) (n : ℤ) → unary Length (Blob bytes) ≡ Int n → pos (length bytes) ≡ n
unfolding unary
measured bytes n h = let e : Int (pos (length bytes)) ≡ Int n = h in cc

pub piece_line : (v : Version) → IsVersion v → (db : Database) → db.schema ≡ v.schema → IsWhole db → (row : Row) (line : PieceLine) → Has (db.trees 9) row
    → ShowsPiece (eval_all project ([] ∷ row ∷ [])) line → IsPieceLine row line
piece_line v ours db has whole row line there is =
    let bytes = (piece_columns v ours db has whole row there).bytes in
    record {
      box_is = is.box_is;
      name_is = is.name_is;
      part_is = is.part_is;
      bytes = bytes.0;
      bytes_is = bytes.1;
      length_is = measured bytes.0 line.length (ap (unary Length) (sym bytes.1) ∙ is.length_is);
    }

-- ---- pieces that are not the first of their file

unequal : (a b : ℤ) → is_true (binary (Compare Ne Binary) (Int a) (Int b)) ≡ is_ne (int_cmp a b)
unfolding binary
unequal a b = truth_of (is_ne (value_cmp (Int a) (Int b))) ∙ ap is_ne (value_cmp-Int a b)

not_equal : (a b : ℤ) → a ≢ b → is_ne (int_cmp a b) ≡ true
not_equal a b apart = go (int_cmp a b) refl
  where
    go : (o : Ordering) → int_cmp a b ≡ o → is_ne o ≡ true
    go Less is = refl
    go Greater is = refl
    go Equal is = absurd (apart (int_cmp-IsAntisymmetric a b is))

pub later_passes : (row : Row) → IsLater row → Passes later row
later_passes row it given = rw (it.1, unequal it.0 (pos 0), not_equal it.0 (pos 0) it.2) refl
