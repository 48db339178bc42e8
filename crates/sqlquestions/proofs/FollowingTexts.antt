-- What the texts of the queries for what comes next mean.
use Rattle.std.proofs.Common.{codes, List, ℕ, [], ◌∷◌, refl}
use Rattle.sqlite_value.specs.declared.keys.Collation.TheVariants.{Binary}
use Rattle.sqlite_sql.specs.declared.ops.BinaryOp.TheVariants.{Compare}
use Rattle.sqlite_sql.specs.declared.ops.CompareOp.TheVariants.{Gt}
use Rattle.sqlite_schema.specs.declared.command.Command.{Command}
use Rattle.sqlite.specs.Term.{Term, col, op2}
use Rattle.sqlite.specs.Query.{Query}
use Rattle.sqlite_tied.specs.Compute.{everything}
use Rattle.sqlite.specs.Listing.{understood}
use Rattle.sqltables.specs.Schema.{s9}
use Rattle.sqltables.proofs.Forms.{query, is, rising, whole_number, select}
use Rattle.sqltables.proofs.Says.{Asks, BothAsk}

-- the column comes after the parameter
abbrev pub behind : ℕ → ℕ → Term
behind place param = op2 (Compare Gt Binary) (col 1 place) (col 0 param)

-- the first value of this column among the rows of a table that pass
abbrev pub first_of : ℕ → List Term → ℕ → Query
first_of tree tests place = query tree tests (col 1 place ∷ []) (rising place ∷ []) (whole_number 1)

abbrev pub key_after : List ℕ
key_after = codes "SELECT id FROM keys WHERE id > ?1 ORDER BY id LIMIT 1"

abbrev pub key_after_command : Command
key_after_command = select (first_of 1 (behind 1 0 ∷ []) 1) (codes "id" ∷ [])

pub key_after_is : BothAsk key_after key_after_command
unfolding understood everything
key_after_is = (
  record { says = record { is = refl; plain = (refl, refl) }; unlisted = refl },
  record { says = record { is = refl; plain = (refl, refl) }; unlisted = refl },
)

abbrev pub box_after : List ℕ
box_after = codes "SELECT name FROM boxes WHERE name > ?1 ORDER BY name LIMIT 1"

abbrev pub box_after_command : Command
box_after_command = select (first_of 3 (behind 1 0 ∷ []) 1) (codes "name" ∷ [])

pub box_after_is : BothAsk box_after box_after_command
unfolding understood everything
box_after_is = (
  record { says = record { is = refl; plain = (refl, refl) }; unlisted = refl },
  record { says = record { is = refl; plain = (refl, refl) }; unlisted = refl },
)

abbrev pub file_after : List ℕ
file_after = codes "SELECT name FROM files WHERE box = ?1 AND name > ?2 ORDER BY name LIMIT 1"

abbrev pub file_after_command : Command
file_after_command = select (first_of 6 (is 1 0 ∷ behind 2 1 ∷ []) 2) (codes "name" ∷ [])

pub file_after_is : BothAsk file_after file_after_command
unfolding understood everything
file_after_is = (
  record { says = record { is = refl; plain = (refl, refl) }; unlisted = refl },
  record { says = record { is = refl; plain = (refl, refl) }; unlisted = refl },
)

abbrev pub limit_after : List ℕ
limit_after = codes "SELECT box FROM key_box WHERE key_id = ?1 AND box > ?2 ORDER BY box LIMIT 1"

abbrev pub limit_after_command : Command
limit_after_command = select (first_of 12 (is 1 0 ∷ behind 2 1 ∷ []) 2) (codes "box" ∷ [])

pub limit_after_is : Asks s9 limit_after limit_after_command
unfolding understood everything
limit_after_is = record { says = record { is = refl; plain = (refl, refl) }; unlisted = refl }
