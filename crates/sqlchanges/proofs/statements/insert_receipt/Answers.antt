use Rattle.std.proofs.Common.{arith, ◌≡◌, ◌∷◌, [], pos, subst, w64, to_z, of_z}
use Rattle.sqltables.specs.Inside.{seen}
use Rattle.sqlite.specs.State.{HasCleanDisk}
use Rattle.sqltables.proofs.Ours.{ours_of, says_of}
use Rattle.sqlite.specs.State.{Executes}
use Rattle.std.proofs.Common.{Ok}
use Rattle.sqlite_value.specs.declared.value.Value.TheVariants.{Int, Text, Blob}
use Rattle.sqlite_value.specs.Order.{Row}
use Rattle.std.proofs.lemmas.Int.{to_z-of_z}
use Rattle.sqltables.proofs.Texts.{insert_receipt, insert_receipt_command, insert_receipt_is}
use Rattle.sqlchanges.proofs.ReceiptRows.{given_receipt, puts_receipt}
use Rattle.sqlchanges.proofs.Ran.{ran_then}
use Rattle.sqlchanges.proofs.statements.insert_receipt.Goals as goal

pub returns-clause-done : goal.returns-clause-done
returns-clause-done g c v tables at r ours pends free number box_is name_is size digest moment key = ran_then c.run.result c.run.ensures.ran (λ clean run inside is_open.
    let old = seen g.T.Ledger.view c.args.tx.now in
    let new = seen g.T.Ledger.view c.run.new.tx in
    let early : HasCleanDisk old = omega (arith, c.run.ensures.rest.survives.clean) in
    let moment_is : to_z w64 (of_z w64 c.args.moment) ≡ c.args.moment = to_z-of_z w64 c.args.moment c.ranges.moment in
    let ran = rw (c.params-to_sql.ensures, c.params-to_sql-2.ensures, c.params-to_sql-3.ensures, c.params-to_sql-4.ensures, c.params-to_sql-5.ensures, c.params-to_sql-6.ensures, c.params-to_sql-7.ensures, moment_is) at run.executed in
    let it = pends early run.inside ran.1.was_open in
    let params : Row = Int (pos c.args.number) ∷ Text c.args.box_name.now ∷ Text c.args.name.now ∷ Int (pos c.args.length) ∷ Blob c.args.digest.now ∷ Int c.args.moment ∷ Text c.args.key.now ∷ [] in
    let same : params ≡ given_receipt at r = rw (number, ← box_is, ← name_is, ← size, ← digest, ← moment, ← key) in
    puts_receipt v (ours_of v ours) (says_of v ours insert_receipt insert_receipt_command insert_receipt_is) old new run.count tables at r it.schema it.means free
    (subst (λ p. Executes insert_receipt p old new (Ok run.count)) same ran.0))

pub returns-clause-rest : goal.returns-clause-rest
returns-clause-rest g c = grind arith
