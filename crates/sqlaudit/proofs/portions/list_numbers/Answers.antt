use Rattle.std.proofs.lemmas.Result.{IfOk-weaker}
use Rattle.sqltables.specs.Inside.{seen}
use Rattle.sqlaudit.specs.Lines.{AreNumbersOf}
use Rattle.sqlaudit.specs.Portions.{ShowsNumbers}
use Rattle.sqltables.proofs.Onward.{failed, followed}
use Rattle.sqlaudit.proofs.portions.list_numbers.Goals as goal

pub returns-clause-read : goal.returns-clause-read
returns-clause-read g c clean =
    IfOk-weaker c.numbers_of.result (λ numbers. AreNumbersOf c.in_ok-rows.rows.items numbers.items)
    (λ numbers. ShowsNumbers c.args.sql.now (seen g.T.Ledger.view c.args.tx.now) (seen g.T.Ledger.view c.query.new.self) numbers.items)
    (λ numbers are. record { rows = c.in_ok-rows.rows.items; shown = c.in_ok-rows.ensures.ok clean; are = are }) (rw c.deref.ensures.value at c.numbers_of.ensures)

pub returns-in_err-rows-clause-rest : goal.returns-in_err-rows-clause-rest
returns-in_err-rows-clause-rest g c = failed c.from_residual.result c.query.ensures.rest c.from_residual.ensures.0

pub returns-clause-rest : goal.returns-clause-rest
returns-clause-rest g c = followed c.numbers_of.result c.in_ok-rows.ensures.rest
