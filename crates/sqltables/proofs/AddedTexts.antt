-- What the texts mean that are run in only one version.
use Rattle.std.proofs.Common.{codes, List, ℕ, [], ◌∷◌, refl}
use Rattle.sqlite_value.specs.declared.value.Value.TheVariants.{Null}
use Rattle.sqlite_schema.specs.declared.command.Command.{Command}
use Rattle.sqlite.specs.Term.{lit, col}
use Rattle.sqlite_tied.specs.Compute.{everything}
use Rattle.sqlite.specs.Listing.{understood}
use Rattle.sqltables.specs.Schema.{s6, s9}
use Rattle.sqltables.proofs.Forms.{query, some_rows, no_limit, is, rising, whole_number, select, update, insert, delete}
use Rattle.sqltables.proofs.Says.{Says, Asks}

abbrev pub insert_office : List ℕ
insert_office = codes "INSERT INTO office VALUES (1, 1, ?1)"

abbrev pub insert_office_command : Command
insert_office_command = insert 0 (whole_number 1 ∷ lit Null ∷ whole_number 1 ∷ col 0 0 ∷ []) 4

pub insert_office_is : Says s6 insert_office insert_office_command
unfolding understood everything
insert_office_is = record { is = refl; plain = (refl, refl) }

abbrev pub insert_rules : List ℕ
insert_rules = codes "INSERT INTO rules VALUES (1, ?1)"

abbrev pub insert_rules_command : Command
insert_rules_command = insert 6 (whole_number 1 ∷ lit Null ∷ col 0 0 ∷ []) 3

pub insert_rules_is : Says s9 insert_rules insert_rules_command
unfolding understood everything
insert_rules_is = record { is = refl; plain = (refl, refl) }

abbrev pub insert_limit : List ℕ
insert_limit = codes "INSERT INTO key_box VALUES (?1, ?2)"

abbrev pub insert_limit_command : Command
insert_limit_command = insert 7 (lit Null ∷ col 0 0 ∷ col 0 1 ∷ []) 3

pub insert_limit_is : Says s9 insert_limit insert_limit_command
unfolding understood everything
insert_limit_is = record { is = refl; plain = (refl, refl) }

abbrev pub update_version : List ℕ
update_version = codes "UPDATE office SET version = 2"

abbrev pub update_version_command : Command
update_version_command = update 0 0 [] (col 1 0 ∷ lit Null ∷ whole_number 2 ∷ col 1 3 ∷ [])

pub update_version_is : Says s9 update_version update_version_command
unfolding understood everything
update_version_is = record { is = refl; plain = (refl, refl) }

abbrev pub update_allowance : List ℕ
update_allowance = codes "UPDATE rules SET allowance = ?1"

abbrev pub update_allowance_command : Command
update_allowance_command = update 6 11 [] (col 1 0 ∷ lit Null ∷ col 0 0 ∷ [])

pub update_allowance_is : Says s9 update_allowance update_allowance_command
unfolding understood everything
update_allowance_is = record { is = refl; plain = (refl, refl) }

abbrev pub select_allowance : List ℕ
select_allowance = codes "SELECT allowance FROM rules"

abbrev pub select_allowance_command : Command
select_allowance_command = select (some_rows 11 [] (col 1 2 ∷ [])) (codes "allowance" ∷ [])

pub select_allowance_is : Asks s9 select_allowance select_allowance_command
unfolding understood everything
select_allowance_is = record { says = record { is = refl; plain = (refl, refl) }; unlisted = refl }

abbrev pub select_limit : List ℕ
select_limit = codes "SELECT box FROM key_box WHERE key_id = ?1 AND box = ?2"

abbrev pub select_limit_command : Command
select_limit_command = select (some_rows 12 (is 1 0 ∷ is 2 1 ∷ []) (col 1 2 ∷ [])) (codes "box" ∷ [])

pub select_limit_is : Asks s9 select_limit select_limit_command
unfolding understood everything
select_limit_is = record { says = record { is = refl; plain = (refl, refl) }; unlisted = refl }

abbrev pub select_limits : List ℕ
select_limits = codes "SELECT box FROM key_box WHERE key_id = ?1"

abbrev pub select_limits_command : Command
select_limits_command = select (some_rows 12 (is 1 0 ∷ []) (col 1 2 ∷ [])) (codes "box" ∷ [])

pub select_limits_is : Asks s9 select_limits select_limits_command
unfolding understood everything
select_limits_is = record { says = record { is = refl; plain = (refl, refl) }; unlisted = refl }

abbrev pub list_rules : List ℕ
list_rules = codes "SELECT rowid, id, allowance FROM rules ORDER BY id"

abbrev pub list_rules_command : Command
list_rules_command = select (query 11 [] (col 1 0 ∷ col 1 0 ∷ col 1 2 ∷ []) (rising 0 ∷ []) no_limit) (codes "id" ∷ codes "id" ∷ codes "allowance" ∷ [])

pub list_rules_is : Asks s9 list_rules list_rules_command
unfolding understood everything
list_rules_is = record { says = record { is = refl; plain = (refl, refl) }; unlisted = refl }

abbrev pub list_limits : List ℕ
list_limits = codes "SELECT rowid, key_id, box FROM key_box ORDER BY key_id, box"

abbrev pub list_limits_command : Command
list_limits_command = select (query 12 [] (col 1 0 ∷ col 1 1 ∷ col 1 2 ∷ []) (rising 1 ∷ rising 2 ∷ []) no_limit) (codes "rowid" ∷ codes "key_id" ∷ codes "box" ∷ [])

pub list_limits_is : Asks s9 list_limits list_limits_command
unfolding understood everything
list_limits_is = record { says = record { is = refl; plain = (refl, refl) }; unlisted = refl }

abbrev pub any_staged : List ℕ
any_staged = codes "SELECT 1 FROM staged LIMIT 1"

abbrev pub any_staged_command : Command
any_staged_command = select (query 14 [] (whole_number 1 ∷ []) [] (whole_number 1)) (codes "1" ∷ [])

pub any_staged_is : Asks s9 any_staged any_staged_command
unfolding understood everything
any_staged_is = record { says = record { is = refl; plain = (refl, refl) }; unlisted = refl }

abbrev pub delete_staged : List ℕ
delete_staged = codes "DELETE FROM staged"

abbrev pub delete_staged_command : Command
delete_staged_command = delete 8 14 []

pub delete_staged_is : Says s9 delete_staged delete_staged_command
unfolding understood everything
delete_staged_is = record { is = refl; plain = (refl, refl) }
