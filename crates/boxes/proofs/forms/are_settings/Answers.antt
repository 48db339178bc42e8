use Rattle.std.proofs.Common.{arith}
use Rattle.boxes.proofs.forms.are_settings.Goals as goal

pub returns-else-row-le-MOST_FILES : goal.returns-else-row-le-MOST_FILES
returns-else-row-le-MOST_FILES c = grind arith

pub returns-then-row-le-MOST_FILES : goal.returns-then-row-le-MOST_FILES
returns-then-row-le-MOST_FILES c = grind arith
