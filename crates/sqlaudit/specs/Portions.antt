-- A long table, read in portions.
use Rattle.std.specs.Prelude.{◌≡◌, ℕ, ℤ, List, [], ◌∷◌, ◌++◌, true, IsTrue}
use Rattle.std.specs.List.{AllZip, list_all}
use Rattle.std.specs.Ordering.{int_cmp}
use Rattle.std.specs.declared.cmp.Ordering.TheVariants.{Less}
use Rattle.sqlite_value.specs.declared.value.Value.TheVariants.{Int}
use Rattle.sqlite_value.specs.declared.keys.Collation.TheVariants.{Binary}
use Rattle.sqlite_value.specs.declared.keys.Key.{Key as Sort}
use Rattle.sqlite_value.specs.Order.{Row}
use Rattle.sqlite_trees.specs.Tree.{IsAscending, rowid}
use Rattle.sqlite_sql.specs.Term.{Term, col, op2, holds, eval_all}
use Rattle.sqlite_sql.specs.declared.ops.BinaryOp.TheVariants.{Compare}
use Rattle.sqlite_sql.specs.declared.ops.CompareOp.TheVariants.{Ge, Le}
use Rattle.sqlite_rules.specs.Lists.{Has}
use Rattle.sqlite.specs.State.{State, Shown, HasCleanDisk}
use Rattle.sqltables.specs.Schema.{Version, IsVersion}
use Rattle.sqltables.specs.Means.{IsRunning}
use Rattle.sqltables.specs.Inside.{View, seen, HasSchema}
use Rattle.sqlaudit.specs.Lines.{AreNumbersOf}
use Rattle.sqltables.proofs.Says.{Asks}
use Rattle.sqltables.proofs.Forms.{all_rows, some_rows, select}

-- ---- what the queries mean

-- under this schema the text queries the rowids of a table
pub record AsksNumbers (v : Version) (sql : List ℕ) (tree : ℕ) : Type 0 where
  pub order : List (Term × Sort)
  pub names : List (List ℕ)
  pub asks : Asks v.schema sql (select (all_rows tree (col 1 0 ∷ []) order) names)

-- the rowid lies between the parameters, inclusive
abbrev pub between : List Term
between = op2 (Compare Ge Binary) (col 1 0) (col 0 0) ∷ op2 (Compare Le Binary) (col 1 0) (col 0 1) ∷ []

-- the row passes a test, whatever the parameters are
abbrev pub Passes : List Term → Row → Type 0
Passes test row = (given : Row) → list_all (holds (given ∷ row ∷ [])) test ≡ true

-- under this schema the text queries the rows of a table in a range of rowids that pass a test, and shows this of each
pub record AsksBetween (v : Version) (sql : List ℕ) (tree : ℕ) (test : List Term) (show : Row → Row) : Type 0 where
  pub version : IsVersion v
  pub project : List Term
  pub names : List (List ℕ)
  pub asks : Asks v.schema sql (select (some_rows tree (between ++ test) project) names)
  pub shows : (given row : Row) → eval_all project (given ∷ row ∷ []) ≡ show row

-- P holds if the tables are those of this version
abbrev pub OfTable : {S : Type 0} → Version → (S → View) → S → S → Type 0 → Type 0
OfTable v g old new P = HasSchema v.schema (seen g old) → IsTrue (seen g old).in_transaction → HasCleanDisk (seen g new) → P

-- P holds if the tables are those of this version and the connection is open
abbrev pub OfRunning : {S : Type 0} → Version → (S → View) → S → S → Type 0 → Type 0
OfRunning v g old new P = HasSchema v.schema (seen g old) → IsRunning (seen g old) → HasCleanDisk (seen g new) → P

-- ---- what the queries show

-- the numbers are the first column of the rows that the query shows
pub record ShowsNumbers (sql : List ℕ) (old new : State) (numbers : List ℤ) : Type 0 where
  pub rows : List Row
  pub shown : Shown sql [] old new rows
  pub are : AreNumbersOf rows numbers

-- the lines are the rows that the query shows, in order
pub record Shows {L : Type 0} (reads : Row → L → Type 0) (sql : List ℕ) (given : Row) (old new : State) (lines : List L) : Type 0 where
  pub rows : List Row
  pub shown : Shown sql given old new rows
  pub each : AllZip reads rows lines

-- the numbers are strictly ascending, and each row has one of them as its rowid
pub record AreRowids (rows : List Row) (numbers : List ℤ) : Type 0 where
  pub rising : IsAscending (λ a b. int_cmp a b ≡ Less) numbers
  pub each : (row : Row) → Has rows row → (n : ℤ) × Has numbers n × (rowid row ≡ Int n)
