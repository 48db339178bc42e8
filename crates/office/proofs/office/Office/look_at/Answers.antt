use Rattle.std.proofs.Common.{arith}
use Rattle.office.proofs.Questions.{stays_still}
use Rattle.office.proofs.office.Office.look_at.Goals as goal

pub returns-in-AddKey-clause-staged : goal.returns-in-AddKey-clause-staged
returns-in-AddKey-clause-staged g c = c.view_key.ensures.staged

pub returns-in-AddKey-clause-rest : goal.returns-in-AddKey-clause-rest
returns-in-AddKey-clause-rest g c = c.view_key.ensures.rest

pub returns-in-RevokeKey-clause-staged : goal.returns-in-RevokeKey-clause-staged
returns-in-RevokeKey-clause-staged g c = c.view_clerks.ensures.staged

pub returns-in-RevokeKey-clause-rest : goal.returns-in-RevokeKey-clause-rest
returns-in-RevokeKey-clause-rest g c = c.view_clerks.ensures.rest

pub returns-in-AddBox-clause-staged : goal.returns-in-AddBox-clause-staged
returns-in-AddBox-clause-staged g c = c.view_box.ensures.staged

pub returns-in-AddBox-clause-rest : goal.returns-in-AddBox-clause-rest
returns-in-AddBox-clause-rest g c = c.view_box.ensures.rest

pub returns-in-CloseBox-clause-staged : goal.returns-in-CloseBox-clause-staged
returns-in-CloseBox-clause-staged g c = c.view_box-in-CloseBox.ensures.staged

pub returns-in-CloseBox-clause-rest : goal.returns-in-CloseBox-clause-rest
returns-in-CloseBox-clause-rest g c = c.view_box-in-CloseBox.ensures.rest

pub returns-in-DropFile-clause-staged : goal.returns-in-DropFile-clause-staged
returns-in-DropFile-clause-staged g c = c.view_file.ensures.staged

pub returns-in-DropFile-clause-rest : goal.returns-in-DropFile-clause-rest
returns-in-DropFile-clause-rest g c = c.view_file.ensures.rest

pub returns-in-LimitKey-clause-staged : goal.returns-in-LimitKey-clause-staged
returns-in-LimitKey-clause-staged g c = c.view_limit.ensures.staged

pub returns-in-LimitKey-clause-rest : goal.returns-in-LimitKey-clause-rest
returns-in-LimitKey-clause-rest g c = c.view_limit.ensures.rest

pub returns-in-SetAllowance-clause-staged : goal.returns-in-SetAllowance-clause-staged
returns-in-SetAllowance-clause-staged g c = λ bytes at. at

pub returns-in-SetAllowance-clause-rest : goal.returns-in-SetAllowance-clause-rest
returns-in-SetAllowance-clause-rest g c = stays_still g.K.Keeper

pub returns-in-AddBox-clause-view : goal.returns-in-AddBox-clause-view
returns-in-AddBox-clause-view g c = grind arith

pub returns-in-AddKey-clause-view : goal.returns-in-AddKey-clause-view
returns-in-AddKey-clause-view g c = grind arith

pub returns-in-CloseBox-clause-view : goal.returns-in-CloseBox-clause-view
returns-in-CloseBox-clause-view g c = grind arith

pub returns-in-DropFile-clause-view : goal.returns-in-DropFile-clause-view
returns-in-DropFile-clause-view g c = grind arith

pub returns-in-LimitKey-clause-view : goal.returns-in-LimitKey-clause-view
returns-in-LimitKey-clause-view g c = grind arith

pub returns-in-RevokeKey-clause-view : goal.returns-in-RevokeKey-clause-view
returns-in-RevokeKey-clause-view g c = grind arith

pub returns-in-SetAllowance-clause-view : goal.returns-in-SetAllowance-clause-view
returns-in-SetAllowance-clause-view g c = grind arith
