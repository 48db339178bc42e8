use Rattle.office.proofs.KeeperCalls.{quiet_asked, quiet_still}
use Rattle.std.proofs.Common.{inl, arith}
use Rattle.office.proofs.office.Office.drop_staged.Goals as goal

pub returns-then-is_upload-clause-counts : goal.returns-then-is_upload-clause-counts
returns-then-is_upload-clause-counts g c = c.stage_drop.ensures.rest.count.err

pub returns-else-is_upload-clause-stays : goal.returns-else-is_upload-clause-stays
returns-else-is_upload-clause-stays g c = λ none. inl none

pub returns-then-is_upload-clause-asked : goal.returns-then-is_upload-clause-asked
returns-then-is_upload-clause-asked g c = grind arith

pub returns-then-is_upload-clause-ends : goal.returns-then-is_upload-clause-ends
returns-then-is_upload-clause-ends g c = grind arith

pub returns-then-is_upload-clause-stays : goal.returns-then-is_upload-clause-stays
returns-then-is_upload-clause-stays g c = grind arith

pub returns-then-is_upload-clause-quiet : goal.returns-then-is_upload-clause-quiet
returns-then-is_upload-clause-quiet g c = quiet_asked c.stage_drop.result c.stage_drop.ensures.rest

pub returns-else-is_upload-clause-quiet : goal.returns-else-is_upload-clause-quiet
returns-else-is_upload-clause-quiet g c = quiet_still
