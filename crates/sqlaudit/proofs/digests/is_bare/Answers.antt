use Rattle.std.proofs.Common.{arith}
use Rattle.sqltables.proofs.Onward.{failed, succeeded}
use Rattle.sqlaudit.proofs.digests.is_bare.Goals as goal

pub returns-in_err-read_piece-clause-rest : goal.returns-in_err-read_piece-clause-rest
returns-in_err-read_piece-clause-rest g c = failed c.from_residual.result c.read_piece.ensures.rest c.from_residual.ensures.0

pub returns-then-is_some-clause-same : goal.returns-then-is_some-clause-same
returns-then-is_some-clause-same g c = c.in_ok-read_piece.ensures.same

pub returns-then-is_some-clause-rest : goal.returns-then-is_some-clause-rest
returns-then-is_some-clause-rest g c = succeeded _ c.in_ok-read_piece.ensures.rest

pub returns-clause-same : goal.returns-clause-same
returns-clause-same g c = c.in_ok-read_piece.ensures.same

pub returns-clause-rest : goal.returns-clause-rest
returns-clause-rest g c = succeeded _ c.in_ok-read_piece.ensures.rest

pub returns-clause-read : goal.returns-clause-read
returns-clause-read g c = grind arith

pub returns-in_err-read_piece-clause-same : goal.returns-in_err-read_piece-clause-same
returns-in_err-read_piece-clause-same g c = grind arith

pub returns-then-is_some-clause-read : goal.returns-then-is_some-clause-read
returns-then-is_some-clause-read g c = grind arith
