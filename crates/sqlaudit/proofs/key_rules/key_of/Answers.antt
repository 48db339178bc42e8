use Rattle.std.proofs.Common.{arith}
use Rattle.sqlaudit.proofs.key_rules.key_of.Goals as goal

pub returns : goal.returns
returns c = grind arith

pub returns-in_default : goal.returns-in_default
returns-in_default c = grind arith

pub returns-then-not-is_key_id : goal.returns-then-not-is_key_id
returns-then-not-is_key_id c = grind arith
