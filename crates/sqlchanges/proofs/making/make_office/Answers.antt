use Rattle.std.proofs.Common.{false, refl, subst, w16, arith}
use Rattle.std.proofs.lemmas.Int.{to_z-of_z}
use Rattle.boxes.specs.declared.rows.Role.TheVariants.{Clerk}
use Rattle.sqltables.specs.Inside.{seen}
use Rattle.sqltables.specs.Schema.{v1, first_version}
use Rattle.sqltables.specs.Changes.{no_rows, with_key}
use Rattle.sqltables.specs.Means.{Pends}
use Rattle.sqlchanges.proofs.Chained.{failed, goes_on_then}
use Rattle.sqlchanges.proofs.making.make_office.Goals as goal

pub returns-clause-done : goal.returns-clause-done
returns-clause-done g c sees =
    let new = seen g.T.Ledger.view c.insert_office.new.tx in
    let made = c.in_ok-insert_office.ensures.done (c.in_ok-create_tables.ensures.done sees) in
    c.upgrade.ensures.done (with_key (no_rows c.args.east 0) c.args.id.now (record { role = Clerk; secret = c.args.secret.now; revoked = false }))
    (c.in_ok-insert_key.ensures.done v1 (no_rows c.args.east 0) first_version (subst (λ east. Pends v1 new (no_rows east 0)) (to_z-of_z w16 c.args.east c.ranges.east) made) refl)

pub returns-clause-unstaged : goal.returns-clause-unstaged
returns-clause-unstaged g c sees =
    let new = seen g.T.Ledger.view c.insert_office.new.tx in
    let made = c.in_ok-insert_office.ensures.done (c.in_ok-create_tables.ensures.done sees) in
    c.upgrade.ensures.unstaged (with_key (no_rows c.args.east 0) c.args.id.now (record { role = Clerk; secret = c.args.secret.now; revoked = false }))
    (c.in_ok-insert_key.ensures.done v1 (no_rows c.args.east 0) first_version (subst (λ east. Pends v1 new (no_rows east 0)) (to_z-of_z w16 c.args.east c.ranges.east) made) refl)

pub returns-in_err-create_tables-clause-rest : goal.returns-in_err-create_tables-clause-rest
returns-in_err-create_tables-clause-rest g c = failed c.from_residual.result c.create_tables.ensures.rest c.from_residual.ensures.0

pub returns-in_err-insert_office-clause-rest : goal.returns-in_err-insert_office-clause-rest
returns-in_err-insert_office-clause-rest g c =
    let two = goes_on_then g.T.Ledger.view _ _ _ _ _ c.create_tables.ensures.rest c.insert_office.ensures.rest in
    failed c.from_residual-in_err-insert_office.result two c.from_residual-in_err-insert_office.ensures.0

pub returns-in_err-insert_key-clause-rest : goal.returns-in_err-insert_key-clause-rest
returns-in_err-insert_key-clause-rest g c =
    let two = goes_on_then g.T.Ledger.view _ _ _ _ _ c.create_tables.ensures.rest c.insert_office.ensures.rest in
    let three = goes_on_then g.T.Ledger.view _ _ _ _ _ two c.insert_key.ensures.rest in
    failed c.from_residual-in_err-insert_key.result three c.from_residual-in_err-insert_key.ensures.0

pub returns-clause-rest : goal.returns-clause-rest
returns-clause-rest g c =
    let two = goes_on_then g.T.Ledger.view _ _ _ _ _ c.create_tables.ensures.rest c.insert_office.ensures.rest in
    let three = goes_on_then g.T.Ledger.view _ _ _ _ _ two c.insert_key.ensures.rest in
    goes_on_then g.T.Ledger.view _ _ _ _ _ three c.upgrade.ensures.rest

pub returns-in_err-create_tables-clause-done : goal.returns-in_err-create_tables-clause-done
returns-in_err-create_tables-clause-done g c = grind arith

pub returns-in_err-create_tables-clause-unstaged : goal.returns-in_err-create_tables-clause-unstaged
returns-in_err-create_tables-clause-unstaged g c = grind arith
