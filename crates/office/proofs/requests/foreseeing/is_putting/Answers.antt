use Rattle.std.proofs.Common.{arith}
use Rattle.office.proofs.requests.foreseeing.is_putting.Goals as goal

pub returns-in-Ok-Put : goal.returns-in-Ok-Put
returns-in-Ok-Put c = grind arith

pub returns-in_default : goal.returns-in_default
returns-in_default c = grind arith

pub returns-in_default-2 : goal.returns-in_default-2
returns-in_default-2 c = grind arith
