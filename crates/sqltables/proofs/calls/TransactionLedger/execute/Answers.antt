use Rattle.std.proofs.Common.{arith}
use Rattle.sqltables.proofs.calls.TransactionLedger.execute.Goals as goal

pub returns-clause-ran : goal.returns-clause-ran
returns-clause-ran g c = grind arith

pub returns-clause-rest : goal.returns-clause-rest
returns-clause-rest g c = grind arith
