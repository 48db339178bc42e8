use Rattle.std.proofs.Common.{arith}
use Rattle.sqltables.proofs.staging.Pieces.push.Goals as goal

pub returns-clause-added : goal.returns-clause-added
returns-clause-added c = grind arith

pub returns-clause-kept : goal.returns-clause-kept
returns-clause-kept c = grind arith
