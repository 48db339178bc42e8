use Rattle.std.proofs.Common.{arith}
use Rattle.commands.proofs.secrets.read_secret_file.Goals as goal

pub returns : goal.returns
returns c = grind arith
