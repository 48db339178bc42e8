use Rattle.std.proofs.Common.{arith}
use Rattle.office.proofs.requests.foreseeing.is_given_up.Goals as goal

pub returns-in-Err-TryAgain : goal.returns-in-Err-TryAgain
returns-in-Err-TryAgain g c = grind arith

pub returns-in_default : goal.returns-in_default
returns-in_default g c = grind arith

pub returns-in_default-2 : goal.returns-in_default-2
returns-in_default-2 g c = grind arith
