use Rattle.std.proofs.Common.{arith}
use Rattle.sqlaudit.proofs.receipt_rules.receipt_of.Goals as goal

pub returns : goal.returns
returns c ks bs hk hb = record { entry = c.in_ok-at.ensures; rule = (c.is_receipt.ensures ks bs hk hb).0 c.if-not-is_receipt.false }

pub returns-in_err-at : goal.returns-in_err-at
returns-in_err-at c = grind arith

pub returns-then-not-is_receipt : goal.returns-then-not-is_receipt
returns-then-not-is_receipt c = grind arith
