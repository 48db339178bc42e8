use Rattle.std.proofs.Common.{arith}
use Rattle.dropoffice.proofs.works.do_link.Goals as goal

pub returns-clause-opened : goal.returns-clause-opened
returns-clause-opened g c = grind arith

pub returns-clause-ran : goal.returns-clause-ran
returns-clause-ran g c = grind arith

pub returns-in-Err-clause-opened : goal.returns-in-Err-clause-opened
returns-in-Err-clause-opened g c = grind arith

pub returns-in-Err-clause-ran : goal.returns-in-Err-clause-ran
returns-in-Err-clause-ran g c = grind arith

pub sign_by-requires-text-file : goal.sign_by-requires-text-file
sign_by-requires-text-file g c = grind arith

pub sign_by-requires-text-id : goal.sign_by-requires-text-id
sign_by-requires-text-id g c = grind arith
