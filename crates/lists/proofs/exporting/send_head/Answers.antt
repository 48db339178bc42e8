use Rattle.std.proofs.Common.{Ok, refl, arith}
use Rattle.lists.proofs.AnsweredLists.{sends_err, sends_whole}
use Rattle.lists.proofs.exporting.send_head.Goals as goal

pub returns-in-Ok-clause-sent : goal.returns-in-Ok-clause-sent
returns-in-Ok-clause-sent g c = sends_whole c.in-Ok.field-0 (Ok tt) c.in-Ok.ensures.sent

pub returns-in-Err-clause-sent : goal.returns-in-Err-clause-sent
returns-in-Err-clause-sent g c = sends_err c.in-Err.field-0 _ c.in-Err.ensures.sent

pub returns-in-Err-clause-sums_count : goal.returns-in-Err-clause-sums_count
returns-in-Err-clause-sums_count g c = refl

pub returns-in-Err-clause-keeper : goal.returns-in-Err-clause-keeper
returns-in-Err-clause-keeper g c = refl

pub returns-in-Err-Write-clause-files_count : goal.returns-in-Err-Write-clause-files_count
returns-in-Err-Write-clause-files_count g c = grind arith

pub returns-in-Ok-clause-files_count : goal.returns-in-Ok-clause-files_count
returns-in-Ok-clause-files_count g c = grind arith
