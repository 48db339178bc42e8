use Rattle.std.proofs.Common.{arith}
use Rattle.lists.proofs.publisher.Publisher.put.Goals as goal

pub returns-else-is_err-clause-added : goal.returns-else-is_err-clause-added
returns-else-is_err-clause-added g c = grind arith

pub returns-else-is_err-clause-front : goal.returns-else-is_err-clause-front
returns-else-is_err-clause-front g c = grind arith

pub returns-then-is_err-clause-added : goal.returns-then-is_err-clause-added
returns-then-is_err-clause-added g c = grind arith

pub returns-then-is_err-clause-front : goal.returns-then-is_err-clause-front
returns-then-is_err-clause-front g c = grind arith

pub returns-then-is_err-clause-whole : goal.returns-then-is_err-clause-whole
returns-then-is_err-clause-whole g c = grind arith
