-- What the texts of the queries for long tables, portion by portion, mean.
use Rattle.std.proofs.Common.{codes, List, ℕ, [], ◌∷◌, ◌++◌, refl}
use Rattle.sqlite_value.specs.Order.{Row}
use Rattle.sqlite_sql.specs.Term.{Term, col, op1, op2, eval_all}
use Rattle.sqlite_value.specs.declared.keys.Collation.TheVariants.{Binary}
use Rattle.sqlite_sql.specs.declared.ops.BinaryOp.TheVariants.{Compare}
use Rattle.sqlite_sql.specs.declared.ops.CompareOp.TheVariants.{Ne}
use Rattle.sqlite_sql.specs.declared.ops.UnaryOp.TheVariants.{Length}
use Rattle.sqlite_schema.specs.declared.command.Command.{Command}
use Rattle.sqlite_tied.specs.Compute.{everything}
use Rattle.sqlite.specs.Listing.{understood}
use Rattle.sqltables.specs.Schema.{Version, IsVersion}
use Rattle.sqltables.proofs.Forms.{all_rows, some_rows, select, whole_number}
use Rattle.sqltables.proofs.Ours.{asks_of}
use Rattle.sqltables.proofs.Says.{BothAsk}
use Rattle.sqlaudit.specs.Portions.{AsksNumbers, AsksBetween, between}

-- ---- receipts

abbrev pub receipt_numbers : List ℕ
receipt_numbers = codes "SELECT rowid FROM receipts"

abbrev receipt_numbers_command : Command
receipt_numbers_command = select (all_rows 5 (col 1 0 ∷ []) []) (codes "number" ∷ [])

receipt_numbers_is : BothAsk receipt_numbers receipt_numbers_command
unfolding understood everything
receipt_numbers_is = (
  record { says = record { is = refl; plain = (refl, refl) }; unlisted = refl },
  record { says = record { is = refl; plain = (refl, refl) }; unlisted = refl },
)

pub counts_receipts : (v : Version) → IsVersion v → AsksNumbers v receipt_numbers 5
counts_receipts v ours = record { order = []; names = codes "number" ∷ []; asks = asks_of v ours receipt_numbers receipt_numbers_command receipt_numbers_is }

abbrev pub receipts_between : List ℕ
receipts_between = codes "SELECT rowid, number, box, name, length, digest, moment, key_id FROM receipts WHERE rowid >= ?1 AND rowid <= ?2"

abbrev receipt_columns : List Term
receipt_columns = col 1 0 ∷ col 1 0 ∷ col 1 2 ∷ col 1 3 ∷ col 1 4 ∷ col 1 5 ∷ col 1 6 ∷ col 1 7 ∷ []

abbrev pub receipt_shown : Row → Row
receipt_shown row = eval_all receipt_columns ([] ∷ row ∷ [])

abbrev receipts_between_command : Command
receipts_between_command = select (some_rows 5 between receipt_columns) (codes "number" ∷ codes "number" ∷ codes "box" ∷ codes "name" ∷ codes "length" ∷ codes "digest" ∷ codes "moment" ∷ codes "key_id" ∷ [])

receipts_between_is : BothAsk receipts_between receipts_between_command
unfolding understood everything
receipts_between_is = (
  record { says = record { is = refl; plain = (refl, refl) }; unlisted = refl },
  record { says = record { is = refl; plain = (refl, refl) }; unlisted = refl },
)

pub asks_receipts : (v : Version) → IsVersion v → AsksBetween v receipts_between 5 [] receipt_shown
asks_receipts v ours = record { version = ours; project = receipt_columns; names = codes "number" ∷ codes "number" ∷ codes "box" ∷ codes "name" ∷ codes "length" ∷ codes "digest" ∷ codes "moment" ∷ codes "key_id" ∷ []; asks = asks_of v ours receipts_between receipts_between_command receipts_between_is; shows = λ given row. refl }

-- ---- files

abbrev pub file_numbers : List ℕ
file_numbers = codes "SELECT rowid FROM files"

abbrev file_numbers_command : Command
file_numbers_command = select (all_rows 6 (col 1 0 ∷ []) []) (codes "rowid" ∷ [])

file_numbers_is : BothAsk file_numbers file_numbers_command
unfolding understood everything
file_numbers_is = (
  record { says = record { is = refl; plain = (refl, refl) }; unlisted = refl },
  record { says = record { is = refl; plain = (refl, refl) }; unlisted = refl },
)

pub counts_files : (v : Version) → IsVersion v → AsksNumbers v file_numbers 6
counts_files v ours = record { order = []; names = codes "rowid" ∷ []; asks = asks_of v ours file_numbers file_numbers_command file_numbers_is }

abbrev pub files_between : List ℕ
files_between = codes "SELECT rowid, box, name, receipt FROM files WHERE rowid >= ?1 AND rowid <= ?2"

abbrev file_columns : List Term
file_columns = col 1 0 ∷ col 1 1 ∷ col 1 2 ∷ col 1 3 ∷ []

abbrev pub file_shown : Row → Row
file_shown row = eval_all file_columns ([] ∷ row ∷ [])

abbrev files_between_command : Command
files_between_command = select (some_rows 6 between file_columns) (codes "rowid" ∷ codes "box" ∷ codes "name" ∷ codes "receipt" ∷ [])

files_between_is : BothAsk files_between files_between_command
unfolding understood everything
files_between_is = (
  record { says = record { is = refl; plain = (refl, refl) }; unlisted = refl },
  record { says = record { is = refl; plain = (refl, refl) }; unlisted = refl },
)

pub asks_files : (v : Version) → IsVersion v → AsksBetween v files_between 6 [] file_shown
asks_files v ours = record { version = ours; project = file_columns; names = codes "rowid" ∷ codes "box" ∷ codes "name" ∷ codes "receipt" ∷ []; asks = asks_of v ours files_between files_between_command files_between_is; shows = λ given row. refl }

-- ---- pieces

abbrev pub piece_numbers : List ℕ
piece_numbers = codes "SELECT rowid FROM pieces"

abbrev piece_numbers_command : Command
piece_numbers_command = select (all_rows 9 (col 1 0 ∷ []) []) (codes "rowid" ∷ [])

piece_numbers_is : BothAsk piece_numbers piece_numbers_command
unfolding understood everything
piece_numbers_is = (
  record { says = record { is = refl; plain = (refl, refl) }; unlisted = refl },
  record { says = record { is = refl; plain = (refl, refl) }; unlisted = refl },
)

pub counts_pieces : (v : Version) → IsVersion v → AsksNumbers v piece_numbers 9
counts_pieces v ours = record { order = []; names = codes "rowid" ∷ []; asks = asks_of v ours piece_numbers piece_numbers_command piece_numbers_is }

abbrev pub pieces_between : List ℕ
pieces_between = codes "SELECT rowid, box, name, part, length(bytes) FROM pieces WHERE rowid >= ?1 AND rowid <= ?2 AND part <> 0"

-- the piece is not the first of its file
abbrev pub later : List Term
later = op2 (Compare Ne Binary) (col 1 3) (whole_number 0) ∷ []

abbrev piece_columns : List Term
piece_columns = col 1 0 ∷ col 1 1 ∷ col 1 2 ∷ col 1 3 ∷ op1 Length (col 1 4) ∷ []

abbrev pub piece_shown : Row → Row
piece_shown row = eval_all piece_columns ([] ∷ row ∷ [])

abbrev pieces_between_command : Command
pieces_between_command = select (some_rows 9 (between ++ later) piece_columns) (codes "rowid" ∷ codes "box" ∷ codes "name" ∷ codes "part" ∷ codes "length(bytes)" ∷ [])

pieces_between_is : BothAsk pieces_between pieces_between_command
unfolding understood everything
pieces_between_is = (
  record { says = record { is = refl; plain = (refl, refl) }; unlisted = refl },
  record { says = record { is = refl; plain = (refl, refl) }; unlisted = refl },
)

pub asks_pieces : (v : Version) → IsVersion v → AsksBetween v pieces_between 9 later piece_shown
asks_pieces v ours = record { version = ours; project = piece_columns; names = codes "rowid" ∷ codes "box" ∷ codes "name" ∷ codes "part" ∷ codes "length(bytes)" ∷ []; asks = asks_of v ours pieces_between pieces_between_command pieces_between_is; shows = λ given row. refl }
