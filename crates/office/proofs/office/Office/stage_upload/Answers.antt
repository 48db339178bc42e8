use Rattle.std.proofs.Common.{arith}
use Rattle.office.proofs.KeeperCalls.{on_err_too, is_fault, quiet_asked, quiet_both, quiet_less, quiet_still}
use Rattle.links.proofs.WrittenBytes.{are_bytes}
use Rattle.office.proofs.office.Office.stage_upload.Goals as goal

pub returns-then-not-is_upload-clause-octets : goal.returns-then-not-is_upload-clause-octets
returns-then-not-is_upload-clause-octets g c = are_bytes c.args.body.now c.type_inv.body

pub returns-then-is_err-clause-octets : goal.returns-then-is_err-clause-octets
returns-then-is_err-clause-octets g c = are_bytes c.args.body.now c.type_inv.body

pub returns-else-is_err-clause-octets : goal.returns-else-is_err-clause-octets
returns-else-is_err-clause-octets g c = are_bytes c.args.body.now c.type_inv.body

pub returns-then-is_err-clause-asked : goal.returns-then-is_err-clause-asked
returns-then-is_err-clause-asked g c = on_err_too c.stage_whole-staged.result c.if-not-is_upload.false

pub returns-else-is_err-clause-asked : goal.returns-else-is_err-clause-asked
returns-else-is_err-clause-asked g c = on_err_too c.stage_whole-staged.result c.if-not-is_upload.false

pub returns-else-is_err-clause-passed : goal.returns-else-is_err-clause-passed
returns-else-is_err-clause-passed g c = grind arith

pub returns-then-is_err-clause-fault : goal.returns-then-is_err-clause-fault
returns-then-is_err-clause-fault g c = grind arith

pub returns-then-is_err-clause-passed : goal.returns-then-is_err-clause-passed
returns-then-is_err-clause-passed g c = grind arith

pub returns-then-is_err-clause-staged : goal.returns-then-is_err-clause-staged
returns-then-is_err-clause-staged g c = grind arith

pub returns-then-not-is_upload-clause-staged : goal.returns-then-not-is_upload-clause-staged
returns-then-not-is_upload-clause-staged g c = grind arith

pub returns-then-not-is_upload-clause-quiet : goal.returns-then-not-is_upload-clause-quiet
returns-then-not-is_upload-clause-quiet g c = quiet_still

pub returns-then-is_err-clause-quiet : goal.returns-then-is_err-clause-quiet
returns-then-is_err-clause-quiet g c = quiet_less (λ _. is_fault c.is_err.result c.stage_whole-staged.result c.is_err.ensures.value c.if-is_err.true) (quiet_both c.stage_whole-staged.ensures.quiet (quiet_asked c.stage_drop.result c.stage_drop.ensures.rest))

pub returns-else-is_err-clause-quiet : goal.returns-else-is_err-clause-quiet
returns-else-is_err-clause-quiet g c = c.stage_whole-staged.ensures.quiet
