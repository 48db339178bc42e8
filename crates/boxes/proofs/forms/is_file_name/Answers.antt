use Rattle.std.proofs.Common.{arith}
use Rattle.boxes.proofs.forms.is_file_name.Goals as goal

pub returns-else-name-le-MOST_NAME_BYTES : goal.returns-else-name-le-MOST_NAME_BYTES
returns-else-name-le-MOST_NAME_BYTES c = grind arith

pub returns-then-name-le-MOST_NAME_BYTES : goal.returns-then-name-le-MOST_NAME_BYTES
returns-then-name-le-MOST_NAME_BYTES c = grind arith
