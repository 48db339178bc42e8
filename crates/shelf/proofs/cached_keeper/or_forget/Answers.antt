use Rattle.std.proofs.Common.{arith}
use Rattle.shelf.proofs.cached_keeper.or_forget.Goals as goal

pub returns-else-is_err-clause-forgot : goal.returns-else-is_err-clause-forgot
returns-else-is_err-clause-forgot g c = grind arith

pub returns-then-is_err-clause-forgot : goal.returns-then-is_err-clause-forgot
returns-then-is_err-clause-forgot g c = grind arith

pub returns-then-is_err-clause-stays : goal.returns-then-is_err-clause-stays
returns-then-is_err-clause-stays g c = grind arith
