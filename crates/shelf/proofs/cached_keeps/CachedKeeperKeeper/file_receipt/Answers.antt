use Rattle.std.proofs.Common.{arith}
use Rattle.shelf.proofs.cached_keeps.CachedKeeperKeeper.file_receipt.Goals as goal

pub returns-clause-rest : goal.returns-clause-rest
returns-clause-rest g c = grind arith

pub returns-clause-value : goal.returns-clause-value
returns-clause-value g c = grind arith
