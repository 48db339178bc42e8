use Rattle.std.proofs.Common.{arith}
use Rattle.sqlaudit.proofs.piece_rules.is_piece.Goals as goal

pub returns : goal.returns
returns c = grind arith

pub returns-in_default : goal.returns-in_default
returns-in_default c = grind arith

pub returns-in_default-natural : goal.returns-in_default-natural
returns-in_default-natural c = grind arith

pub returns-in_default-natural-2 : goal.returns-in_default-natural-2
returns-in_default-natural-2 c = grind arith
