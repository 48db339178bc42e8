use Rattle.std.proofs.Common.{arith}
use Rattle.std.proofs.lemmas.Grind.{common_steps}
use Rattle.commands.proofs.replaying.read_key.Goals as goal

pub returns-in_err-id : goal.returns-in_err-id
returns-in_err-id c = grind arith

pub returns-in_err-strip_prefix : goal.returns-in_err-strip_prefix
returns-in_err-strip_prefix c = grind arith

pub returns-then-is_secret : goal.returns-then-is_secret
returns-then-is_secret c = grind (arith, common_steps)
