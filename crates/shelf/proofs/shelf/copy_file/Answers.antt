use Rattle.std.proofs.Common.{arith}
use Rattle.shelf.proofs.shelf.copy_file.Goals as goal

pub returns : goal.returns
returns c = grind arith
