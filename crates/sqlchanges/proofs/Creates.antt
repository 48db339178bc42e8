-- The texts that create the tables.
use Rattle.std.proofs.Common.{codes, List, ℕ, refl}
use Rattle.sqlite_tied.specs.Compute.{everything}
use Rattle.sqlite.specs.Listing.{understood}
use Rattle.sqltables.specs.Schema.{office_table, keys_table, boxes_table, receipts_table, files_table, pieces_table, rules_table, key_box_table, staged_table, s0, s1, s2, s3, s4, s5, s6, s7, s8}
use Rattle.sqltables.proofs.Says.{Makes}

abbrev pub create_office : List ℕ
create_office = codes "CREATE TABLE office (id INTEGER PRIMARY KEY NOT NULL CHECK (id = 1), version INTEGER NOT NULL, east INTEGER NOT NULL CHECK (east BETWEEN -840 AND 840)) STRICT"

pub makes_office : Makes s0 create_office office_table
unfolding understood everything
makes_office = record { says = record { is = refl; plain = (refl, refl) }; whole = refl; defines = refl }

abbrev pub create_keys : List ℕ
create_keys = codes "CREATE TABLE keys (id TEXT PRIMARY KEY NOT NULL, role INTEGER NOT NULL CHECK (role BETWEEN 0 AND 1), secret BLOB NOT NULL, revoked INTEGER NOT NULL CHECK (revoked BETWEEN 0 AND 1)) STRICT"

pub makes_keys : Makes s1 create_keys keys_table
unfolding understood everything
makes_keys = record { says = record { is = refl; plain = (refl, refl) }; whole = refl; defines = refl }

abbrev pub create_boxes : List ℕ
create_boxes = codes "CREATE TABLE boxes (name TEXT PRIMARY KEY NOT NULL, opens INTEGER NOT NULL CHECK (opens BETWEEN 0 AND 253402300799), closes INTEGER NOT NULL CHECK (closes BETWEEN 0 AND 253402300799), days TEXT NOT NULL, from_minute INTEGER NOT NULL, to_minute INTEGER NOT NULL, quota INTEGER NOT NULL CHECK (quota BETWEEN 0 AND 1000000000000), max_files INTEGER NOT NULL CHECK (max_files BETWEEN 0 AND 1000000), mode INTEGER NOT NULL CHECK (mode BETWEEN 0 AND 1), rule_kind INTEGER NOT NULL CHECK (rule_kind BETWEEN 0 AND 2), rule_text TEXT NOT NULL, used INTEGER NOT NULL, count INTEGER NOT NULL, CHECK (0 <= from_minute AND from_minute < to_minute AND to_minute <= 1440)) STRICT"

pub makes_boxes : Makes s2 create_boxes boxes_table
unfolding understood everything
makes_boxes = record { says = record { is = refl; plain = (refl, refl) }; whole = refl; defines = refl }

abbrev pub create_receipts : List ℕ
create_receipts = codes "CREATE TABLE receipts (number INTEGER PRIMARY KEY NOT NULL, box TEXT NOT NULL REFERENCES boxes (name) ON DELETE RESTRICT ON UPDATE RESTRICT, name TEXT NOT NULL, length INTEGER NOT NULL, digest BLOB NOT NULL, moment INTEGER NOT NULL CHECK (moment BETWEEN 0 AND 253402300799), key_id TEXT NOT NULL REFERENCES keys (id) ON DELETE RESTRICT ON UPDATE RESTRICT) STRICT"

pub makes_receipts : Makes s3 create_receipts receipts_table
unfolding understood everything
makes_receipts = record { says = record { is = refl; plain = (refl, refl) }; whole = refl; defines = refl }

abbrev pub create_files : List ℕ
create_files = codes "CREATE TABLE files (box TEXT NOT NULL REFERENCES boxes (name) ON DELETE RESTRICT ON UPDATE RESTRICT, name TEXT NOT NULL, receipt INTEGER NOT NULL UNIQUE REFERENCES receipts (number) ON DELETE RESTRICT ON UPDATE RESTRICT, PRIMARY KEY (box, name)) STRICT"

pub makes_files : Makes s4 create_files files_table
unfolding understood everything
makes_files = record { says = record { is = refl; plain = (refl, refl) }; whole = refl; defines = refl }

abbrev pub create_pieces : List ℕ
create_pieces = codes "CREATE TABLE pieces (box TEXT NOT NULL, name TEXT NOT NULL, part INTEGER NOT NULL, bytes BLOB NOT NULL, PRIMARY KEY (box, name, part), FOREIGN KEY (box, name) REFERENCES files (box, name) ON DELETE RESTRICT ON UPDATE RESTRICT) STRICT"

pub makes_pieces : Makes s5 create_pieces pieces_table
unfolding understood everything
makes_pieces = record { says = record { is = refl; plain = (refl, refl) }; whole = refl; defines = refl }

abbrev pub create_rules : List ℕ
create_rules = codes "CREATE TABLE rules (id INTEGER PRIMARY KEY NOT NULL CHECK (id = 1), allowance INTEGER NOT NULL CHECK (allowance BETWEEN 0 AND 900)) STRICT"

pub makes_rules : Makes s6 create_rules rules_table
unfolding understood everything
makes_rules = record { says = record { is = refl; plain = (refl, refl) }; whole = refl; defines = refl }

abbrev pub create_key_box : List ℕ
create_key_box = codes "CREATE TABLE key_box (key_id TEXT NOT NULL REFERENCES keys (id) ON DELETE RESTRICT ON UPDATE RESTRICT, box TEXT NOT NULL REFERENCES boxes (name) ON DELETE RESTRICT ON UPDATE RESTRICT, PRIMARY KEY (key_id, box)) STRICT"

pub makes_key_box : Makes s7 create_key_box key_box_table
unfolding understood everything
makes_key_box = record { says = record { is = refl; plain = (refl, refl) }; whole = refl; defines = refl }

abbrev pub create_staged : List ℕ
create_staged = codes "CREATE TABLE staged (part INTEGER PRIMARY KEY NOT NULL, bytes BLOB NOT NULL) STRICT"

pub makes_staged : Makes s8 create_staged staged_table
unfolding understood everything
makes_staged = record { says = record { is = refl; plain = (refl, refl) }; whole = refl; defines = refl }
