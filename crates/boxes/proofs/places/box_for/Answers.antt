use Rattle.std.proofs.Common.{arith}
use Rattle.boxes.proofs.places.box_for.Goals as goal

pub returns : goal.returns
returns c = grind arith

pub returns-in_default : goal.returns-in_default
returns-in_default c = grind arith

pub returns-then-name-gt-MOST_NAME_BYTES : goal.returns-then-name-gt-MOST_NAME_BYTES
returns-then-name-gt-MOST_NAME_BYTES c = grind arith

pub returns-then-not-is_name : goal.returns-then-not-is_name
returns-then-not-is_name c = grind arith
