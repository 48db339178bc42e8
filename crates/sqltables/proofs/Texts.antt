-- What the texts mean under the schemas of both versions.
use Rattle.std.proofs.Common.{codes, List, ℕ, [], ◌∷◌, refl}
use Rattle.std.specs.List.{AllByRecursion}
use Rattle.sqlite_value.specs.declared.value.Value.TheVariants.{Null}
use Rattle.sqlite_value.specs.declared.keys.Collation.TheVariants.{Binary}
use Rattle.sqlite_sql.specs.declared.ops.BinaryOp.TheVariants.{Compare}
use Rattle.sqlite_sql.specs.declared.ops.UnaryOp.TheVariants.{Length}
use Rattle.sqlite_sql.specs.declared.ops.CompareOp.TheVariants.{Eq}
use Rattle.sqlite_schema.specs.declared.command.Command.{Command}
use Rattle.sqlite.specs.Term.{lit, col, op1, op2}
use Rattle.sqlite_tied.specs.Compute.{everything}
use Rattle.sqlite.specs.Listing.{understood}
use Rattle.sqlite_schema.specs.declared.schema.Schema.{Schema}
use Rattle.sqlite_rules.specs.Lists.{Has}
use Rattle.sqlite_rules.proofs.ListLemmas.{all_has}
use Rattle.sqltables.specs.Schema.{begun_schemas}
use Rattle.sqltables.proofs.Forms.{query, some_rows, no_limit, is, rising, falling, whole_number, select, update, delete, insert}
use Rattle.sqltables.proofs.Says.{Asks, BothSay, BothAsk}

abbrev pub insert_key : List ℕ
insert_key = codes "INSERT INTO keys VALUES (?1, ?2, ?3, 0)"

abbrev pub insert_key_command : Command
insert_key_command = insert 1 (lit Null ∷ col 0 0 ∷ col 0 1 ∷ col 0 2 ∷ whole_number 0 ∷ []) 5

pub insert_key_is : BothSay insert_key insert_key_command
unfolding understood everything
insert_key_is = (record { is = refl; plain = (refl, refl) }, record { is = refl; plain = (refl, refl) })

abbrev pub insert_box : List ℕ
insert_box = codes "INSERT INTO boxes VALUES (?1, ?2, ?3, ?4, ?5, ?6, ?7, ?8, ?9, ?10, ?11, 0, 0)"

abbrev pub insert_box_command : Command
insert_box_command = insert 2 (lit Null ∷ col 0 0 ∷ col 0 1 ∷ col 0 2 ∷ col 0 3 ∷ col 0 4 ∷ col 0 5 ∷ col 0 6 ∷ col 0 7 ∷ col 0 8 ∷ col 0 9 ∷ col 0 10 ∷ whole_number 0 ∷ whole_number 0 ∷ []) 14

pub insert_box_is : BothSay insert_box insert_box_command
unfolding understood everything
insert_box_is = (record { is = refl; plain = (refl, refl) }, record { is = refl; plain = (refl, refl) })

abbrev pub insert_receipt : List ℕ
insert_receipt = codes "INSERT INTO receipts VALUES (?1, ?2, ?3, ?4, ?5, ?6, ?7)"

abbrev pub insert_receipt_command : Command
insert_receipt_command = insert 3 (col 0 0 ∷ lit Null ∷ col 0 1 ∷ col 0 2 ∷ col 0 3 ∷ col 0 4 ∷ col 0 5 ∷ col 0 6 ∷ []) 8

pub insert_receipt_is : BothSay insert_receipt insert_receipt_command
unfolding understood everything
insert_receipt_is = (record { is = refl; plain = (refl, refl) }, record { is = refl; plain = (refl, refl) })

abbrev pub insert_file : List ℕ
insert_file = codes "INSERT INTO files VALUES (?1, ?2, ?3)"

abbrev pub insert_file_command : Command
insert_file_command = insert 4 (lit Null ∷ col 0 0 ∷ col 0 1 ∷ col 0 2 ∷ []) 4

pub insert_file_is : BothSay insert_file insert_file_command
unfolding understood everything
insert_file_is = (record { is = refl; plain = (refl, refl) }, record { is = refl; plain = (refl, refl) })

abbrev pub insert_piece : List ℕ
insert_piece = codes "INSERT INTO pieces VALUES (?1, ?2, ?3, ?4)"

abbrev pub insert_piece_command : Command
insert_piece_command = insert 5 (lit Null ∷ col 0 0 ∷ col 0 1 ∷ col 0 2 ∷ col 0 3 ∷ []) 5

pub insert_piece_is : BothSay insert_piece insert_piece_command
unfolding understood everything
insert_piece_is = (record { is = refl; plain = (refl, refl) }, record { is = refl; plain = (refl, refl) })

abbrev pub update_revoked : List ℕ
update_revoked = codes "UPDATE keys SET revoked = 1 WHERE id = ?1"

abbrev pub update_revoked_command : Command
update_revoked_command = update 1 1 (is 1 0 ∷ []) (col 1 0 ∷ col 1 1 ∷ col 1 2 ∷ col 1 3 ∷ whole_number 1 ∷ [])

pub update_revoked_is : BothSay update_revoked update_revoked_command
unfolding understood everything
update_revoked_is = (record { is = refl; plain = (refl, refl) }, record { is = refl; plain = (refl, refl) })

abbrev pub update_closes : List ℕ
update_closes = codes "UPDATE boxes SET closes = ?2 WHERE name = ?1"

abbrev pub update_closes_command : Command
update_closes_command = update 2 3 (is 1 0 ∷ []) (col 1 0 ∷ col 1 1 ∷ col 1 2 ∷ col 0 1 ∷ col 1 4 ∷ col 1 5 ∷ col 1 6 ∷ col 1 7 ∷ col 1 8 ∷ col 1 9 ∷ col 1 10 ∷ col 1 11 ∷ col 1 12 ∷ col 1 13 ∷ [])

pub update_closes_is : BothSay update_closes update_closes_command
unfolding understood everything
update_closes_is = (record { is = refl; plain = (refl, refl) }, record { is = refl; plain = (refl, refl) })

abbrev pub update_totals : List ℕ
update_totals = codes "UPDATE boxes SET used = ?2, count = ?3 WHERE name = ?1"

abbrev pub update_totals_command : Command
update_totals_command = update 2 3 (is 1 0 ∷ []) (col 1 0 ∷ col 1 1 ∷ col 1 2 ∷ col 1 3 ∷ col 1 4 ∷ col 1 5 ∷ col 1 6 ∷ col 1 7 ∷ col 1 8 ∷ col 1 9 ∷ col 1 10 ∷ col 1 11 ∷ col 0 1 ∷ col 0 2 ∷ [])

pub update_totals_is : BothSay update_totals update_totals_command
unfolding understood everything
update_totals_is = (record { is = refl; plain = (refl, refl) }, record { is = refl; plain = (refl, refl) })

abbrev pub update_file : List ℕ
update_file = codes "UPDATE files SET receipt = ?3 WHERE box = ?1 AND name = ?2"

abbrev pub update_file_command : Command
update_file_command = update 4 6 (is 1 0 ∷ is 2 1 ∷ []) (col 1 0 ∷ col 1 1 ∷ col 1 2 ∷ col 0 2 ∷ [])

pub update_file_is : BothSay update_file update_file_command
unfolding understood everything
update_file_is = (record { is = refl; plain = (refl, refl) }, record { is = refl; plain = (refl, refl) })

abbrev pub delete_file : List ℕ
delete_file = codes "DELETE FROM files WHERE box = ?1 AND name = ?2"

abbrev pub delete_file_command : Command
delete_file_command = delete 4 6 (is 1 0 ∷ is 2 1 ∷ [])

pub delete_file_is : BothSay delete_file delete_file_command
unfolding understood everything
delete_file_is = (record { is = refl; plain = (refl, refl) }, record { is = refl; plain = (refl, refl) })

abbrev pub delete_pieces : List ℕ
delete_pieces = codes "DELETE FROM pieces WHERE box = ?1 AND name = ?2"

abbrev pub delete_pieces_command : Command
delete_pieces_command = delete 5 9 (is 1 0 ∷ is 2 1 ∷ [])

pub delete_pieces_is : BothSay delete_pieces delete_pieces_command
unfolding understood everything
delete_pieces_is = (record { is = refl; plain = (refl, refl) }, record { is = refl; plain = (refl, refl) })

abbrev pub select_office : List ℕ
select_office = codes "SELECT version, east FROM office"

abbrev pub select_office_command : Command
select_office_command = select (some_rows 0 ([]) (col 1 2 ∷ col 1 3 ∷ [])) (codes "version" ∷ codes "east" ∷ [])

pub select_office_is : BothAsk select_office select_office_command
unfolding understood everything
select_office_is = (
  record { says = record { is = refl; plain = (refl, refl) }; unlisted = refl },
  record { says = record { is = refl; plain = (refl, refl) }; unlisted = refl },
)

abbrev pub select_key : List ℕ
select_key = codes "SELECT role, secret, revoked FROM keys WHERE id = ?1"

abbrev pub select_key_command : Command
select_key_command = select (some_rows 1 (is 1 0 ∷ []) (col 1 2 ∷ col 1 3 ∷ col 1 4 ∷ [])) (codes "role" ∷ codes "secret" ∷ codes "revoked" ∷ [])

pub select_key_is : BothAsk select_key select_key_command
unfolding understood everything
select_key_is = (
  record { says = record { is = refl; plain = (refl, refl) }; unlisted = refl },
  record { says = record { is = refl; plain = (refl, refl) }; unlisted = refl },
)

abbrev pub select_box : List ℕ
select_box = codes "SELECT opens, closes, days, from_minute, to_minute, quota, max_files, mode, rule_kind, rule_text, used, count FROM boxes WHERE name = ?1"

abbrev pub select_box_command : Command
select_box_command = select (some_rows 3 (is 1 0 ∷ []) (col 1 2 ∷ col 1 3 ∷ col 1 4 ∷ col 1 5 ∷ col 1 6 ∷ col 1 7 ∷ col 1 8 ∷ col 1 9 ∷ col 1 10 ∷ col 1 11 ∷ col 1 12 ∷ col 1 13 ∷ [])) (codes "opens" ∷ codes "closes" ∷ codes "days" ∷ codes "from_minute" ∷ codes "to_minute" ∷ codes "quota" ∷ codes "max_files" ∷ codes "mode" ∷ codes "rule_kind" ∷ codes "rule_text" ∷ codes "used" ∷ codes "count" ∷ [])

pub select_box_is : BothAsk select_box select_box_command
unfolding understood everything
select_box_is = (
  record { says = record { is = refl; plain = (refl, refl) }; unlisted = refl },
  record { says = record { is = refl; plain = (refl, refl) }; unlisted = refl },
)

abbrev pub select_totals : List ℕ
select_totals = codes "SELECT used, count FROM boxes WHERE name = ?1"

abbrev pub select_totals_command : Command
select_totals_command = select (some_rows 3 (is 1 0 ∷ []) (col 1 12 ∷ col 1 13 ∷ [])) (codes "used" ∷ codes "count" ∷ [])

pub select_totals_is : BothAsk select_totals select_totals_command
unfolding understood everything
select_totals_is = (
  record { says = record { is = refl; plain = (refl, refl) }; unlisted = refl },
  record { says = record { is = refl; plain = (refl, refl) }; unlisted = refl },
)

abbrev pub select_file : List ℕ
select_file = codes "SELECT receipt FROM files WHERE box = ?1 AND name = ?2"

abbrev pub select_file_command : Command
select_file_command = select (some_rows 6 (is 1 0 ∷ is 2 1 ∷ []) (col 1 3 ∷ [])) (codes "receipt" ∷ [])

pub select_file_is : BothAsk select_file select_file_command
unfolding understood everything
select_file_is = (
  record { says = record { is = refl; plain = (refl, refl) }; unlisted = refl },
  record { says = record { is = refl; plain = (refl, refl) }; unlisted = refl },
)

abbrev pub select_receipt : List ℕ
select_receipt = codes "SELECT box, name, length, digest, moment, key_id FROM receipts WHERE number = ?1"

abbrev pub select_receipt_command : Command
select_receipt_command = select (some_rows 5 (is 0 0 ∷ []) (col 1 2 ∷ col 1 3 ∷ col 1 4 ∷ col 1 5 ∷ col 1 6 ∷ col 1 7 ∷ [])) (codes "box" ∷ codes "name" ∷ codes "length" ∷ codes "digest" ∷ codes "moment" ∷ codes "key_id" ∷ [])

pub select_receipt_is : BothAsk select_receipt select_receipt_command
unfolding understood everything
select_receipt_is = (
  record { says = record { is = refl; plain = (refl, refl) }; unlisted = refl },
  record { says = record { is = refl; plain = (refl, refl) }; unlisted = refl },
)

abbrev pub select_piece : List ℕ
select_piece = codes "SELECT bytes FROM pieces WHERE box = ?1 AND name = ?2 AND part = ?3"

abbrev pub select_piece_command : Command
select_piece_command = select (some_rows 9 (is 1 0 ∷ is 2 1 ∷ is 3 2 ∷ []) (col 1 4 ∷ [])) (codes "bytes" ∷ [])

pub select_piece_is : BothAsk select_piece select_piece_command
unfolding understood everything
select_piece_is = (
  record { says = record { is = refl; plain = (refl, refl) }; unlisted = refl },
  record { says = record { is = refl; plain = (refl, refl) }; unlisted = refl },
)

abbrev pub next_number : List ℕ
next_number = codes "SELECT number FROM receipts ORDER BY number DESC LIMIT 1"

abbrev pub next_number_command : Command
next_number_command = select (query 5 ([]) (col 1 0 ∷ []) (falling 0 ∷ []) (whole_number 1)) (codes "number" ∷ [])

pub next_number_is : BothAsk next_number next_number_command
unfolding understood everything
next_number_is = (
  record { says = record { is = refl; plain = (refl, refl) }; unlisted = refl },
  record { says = record { is = refl; plain = (refl, refl) }; unlisted = refl },
)

abbrev pub select_clerks : List ℕ
select_clerks = codes "SELECT id FROM keys WHERE role = 1 AND revoked = 0"

abbrev pub select_clerks_command : Command
select_clerks_command = select (some_rows 1 (op2 (Compare Eq Binary) (col 1 2) (whole_number 1) ∷ op2 (Compare Eq Binary) (col 1 4) (whole_number 0) ∷ []) (col 1 1 ∷ [])) (codes "id" ∷ [])

pub select_clerks_is : BothAsk select_clerks select_clerks_command
unfolding understood everything
select_clerks_is = (
  record { says = record { is = refl; plain = (refl, refl) }; unlisted = refl },
  record { says = record { is = refl; plain = (refl, refl) }; unlisted = refl },
)

abbrev pub list_office : List ℕ
list_office = codes "SELECT rowid, id, version, east FROM office ORDER BY id"

abbrev pub list_office_command : Command
list_office_command = select (query 0 ([]) (col 1 0 ∷ col 1 0 ∷ col 1 2 ∷ col 1 3 ∷ []) (rising 0 ∷ []) (no_limit)) (codes "id" ∷ codes "id" ∷ codes "version" ∷ codes "east" ∷ [])

pub list_office_is : BothAsk list_office list_office_command
unfolding understood everything
list_office_is = (
  record { says = record { is = refl; plain = (refl, refl) }; unlisted = refl },
  record { says = record { is = refl; plain = (refl, refl) }; unlisted = refl },
)

-- also if the tables after the first do not exist yet
list_office_all : AllByRecursion (λ s. Asks s list_office list_office_command) begun_schemas
unfolding understood everything
list_office_all = (record { says = record { is = refl; plain = (refl, refl) }; unlisted = refl }, (record { says = record { is = refl; plain = (refl, refl) }; unlisted = refl }, (record { says = record { is = refl; plain = (refl, refl) }; unlisted = refl }, (record { says = record { is = refl; plain = (refl, refl) }; unlisted = refl }, (record { says = record { is = refl; plain = (refl, refl) }; unlisted = refl }, (record { says = record { is = refl; plain = (refl, refl) }; unlisted = refl }, (record { says = record { is = refl; plain = (refl, refl) }; unlisted = refl }, (record { says = record { is = refl; plain = (refl, refl) }; unlisted = refl }, (record { says = record { is = refl; plain = (refl, refl) }; unlisted = refl }, tt)))))))))

pub list_office_begun : (schema : Schema) → Has begun_schemas schema → Asks schema list_office list_office_command
list_office_begun schema = all_has (λ s. Asks s list_office list_office_command) begun_schemas schema list_office_all

abbrev pub list_keys : List ℕ
list_keys = codes "SELECT rowid, id, role, secret, revoked FROM keys ORDER BY id"

abbrev pub list_keys_command : Command
list_keys_command = select (query 1 ([]) (col 1 0 ∷ col 1 1 ∷ col 1 2 ∷ col 1 3 ∷ col 1 4 ∷ []) (rising 1 ∷ []) (no_limit)) (codes "rowid" ∷ codes "id" ∷ codes "role" ∷ codes "secret" ∷ codes "revoked" ∷ [])

pub list_keys_is : BothAsk list_keys list_keys_command
unfolding understood everything
list_keys_is = (
  record { says = record { is = refl; plain = (refl, refl) }; unlisted = refl },
  record { says = record { is = refl; plain = (refl, refl) }; unlisted = refl },
)

abbrev pub list_boxes : List ℕ
list_boxes = codes "SELECT rowid, name, opens, closes, days, from_minute, to_minute, quota, max_files, mode, rule_kind, rule_text, used, count FROM boxes ORDER BY name"

abbrev pub list_boxes_command : Command
list_boxes_command = select (query 3 ([]) (col 1 0 ∷ col 1 1 ∷ col 1 2 ∷ col 1 3 ∷ col 1 4 ∷ col 1 5 ∷ col 1 6 ∷ col 1 7 ∷ col 1 8 ∷ col 1 9 ∷ col 1 10 ∷ col 1 11 ∷ col 1 12 ∷ col 1 13 ∷ []) (rising 1 ∷ []) (no_limit)) (codes "rowid" ∷ codes "name" ∷ codes "opens" ∷ codes "closes" ∷ codes "days" ∷ codes "from_minute" ∷ codes "to_minute" ∷ codes "quota" ∷ codes "max_files" ∷ codes "mode" ∷ codes "rule_kind" ∷ codes "rule_text" ∷ codes "used" ∷ codes "count" ∷ [])

pub list_boxes_is : BothAsk list_boxes list_boxes_command
unfolding understood everything
list_boxes_is = (
  record { says = record { is = refl; plain = (refl, refl) }; unlisted = refl },
  record { says = record { is = refl; plain = (refl, refl) }; unlisted = refl },
)

abbrev pub list_receipts : List ℕ
list_receipts = codes "SELECT rowid, number, box, name, length, digest, moment, key_id FROM receipts ORDER BY number"

abbrev pub list_receipts_command : Command
list_receipts_command = select (query 5 ([]) (col 1 0 ∷ col 1 0 ∷ col 1 2 ∷ col 1 3 ∷ col 1 4 ∷ col 1 5 ∷ col 1 6 ∷ col 1 7 ∷ []) (rising 0 ∷ []) (no_limit)) (codes "number" ∷ codes "number" ∷ codes "box" ∷ codes "name" ∷ codes "length" ∷ codes "digest" ∷ codes "moment" ∷ codes "key_id" ∷ [])

pub list_receipts_is : BothAsk list_receipts list_receipts_command
unfolding understood everything
list_receipts_is = (
  record { says = record { is = refl; plain = (refl, refl) }; unlisted = refl },
  record { says = record { is = refl; plain = (refl, refl) }; unlisted = refl },
)

abbrev pub list_files : List ℕ
list_files = codes "SELECT rowid, box, name, receipt FROM files ORDER BY box, name"

abbrev pub list_files_command : Command
list_files_command = select (query 6 ([]) (col 1 0 ∷ col 1 1 ∷ col 1 2 ∷ col 1 3 ∷ []) (rising 1 ∷ rising 2 ∷ []) (no_limit)) (codes "rowid" ∷ codes "box" ∷ codes "name" ∷ codes "receipt" ∷ [])

pub list_files_is : BothAsk list_files list_files_command
unfolding understood everything
list_files_is = (
  record { says = record { is = refl; plain = (refl, refl) }; unlisted = refl },
  record { says = record { is = refl; plain = (refl, refl) }; unlisted = refl },
)

abbrev pub list_pieces : List ℕ
list_pieces = codes "SELECT rowid, box, name, part, length(bytes) FROM pieces ORDER BY box, name, part"

abbrev pub list_pieces_command : Command
list_pieces_command = select (query 9 [] (col 1 0 ∷ col 1 1 ∷ col 1 2 ∷ col 1 3 ∷ op1 Length (col 1 4) ∷ []) (rising 1 ∷ rising 2 ∷ rising 3 ∷ []) no_limit) (codes "rowid" ∷ codes "box" ∷ codes "name" ∷ codes "part" ∷ codes "length(bytes)" ∷ [])

pub list_pieces_is : BothAsk list_pieces list_pieces_command
unfolding understood everything
list_pieces_is = (
  record { says = record { is = refl; plain = (refl, refl) }; unlisted = refl },
  record { says = record { is = refl; plain = (refl, refl) }; unlisted = refl },
)
