use Rattle.std.proofs.Common.{arith}
use Rattle.office.proofs.requests.foreseeing.is_upload.Goals as goal

pub returns-in-Err : goal.returns-in-Err
returns-in-Err c = grind arith

pub returns-in-Ok : goal.returns-in-Ok
returns-in-Ok c = grind arith
