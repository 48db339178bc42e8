use Rattle.std.proofs.Common.{arith}
use Rattle.sqlaudit.proofs.digests.receipt_for.Goals as goal

pub returns-in_err-at : goal.returns-in_err-at
returns-in_err-at c = grind arith

pub returns-in_err-checked_sub : goal.returns-in_err-checked_sub
returns-in_err-checked_sub c = grind arith

pub returns-in_err-given : goal.returns-in_err-given
returns-in_err-given c = grind arith

pub returns-then-given-file : goal.returns-then-given-file
returns-then-given-file c = grind arith
