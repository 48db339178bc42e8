use Rattle.std.proofs.Common.{arith}
use Rattle.sqlaudit.proofs.limit_rules.is_limit.Goals as goal

pub returns-else-has_link : goal.returns-else-has_link
returns-else-has_link c = grind arith

pub returns-then-has_link : goal.returns-then-has_link
returns-then-has_link c = grind arith
