use Rattle.std.proofs.Common.{subst}
use Rattle.boxes.specs.Changes.{command_of, IsObeyed}
use Rattle.shelf.proofs.shelf.Shelf.obey.Goals as goal

pub returns-in-AddKey-clause-made : goal.returns-in-AddKey-clause-made
returns-in-AddKey-clause-made c s after h sound is = c.add_key.ensures.made s after h (subst (λ x. IsObeyed s (command_of x) after) c.in-AddKey.is is)

pub returns-in-AddKey-clause-same : goal.returns-in-AddKey-clause-same
returns-in-AddKey-clause-same c = c.add_key.ensures.same

pub returns-in-AddKey-clause-count : goal.returns-in-AddKey-clause-count
returns-in-AddKey-clause-count c = c.add_key.ensures.count

pub returns-in-AddKey-clause-staged : goal.returns-in-AddKey-clause-staged
returns-in-AddKey-clause-staged c = c.add_key.ensures.staged

pub returns-in-AddKey-clause-fault : goal.returns-in-AddKey-clause-fault
returns-in-AddKey-clause-fault c = c.add_key.ensures.fault

pub returns-in-AddBox-clause-made : goal.returns-in-AddBox-clause-made
returns-in-AddBox-clause-made c s after h sound is = c.add_box.ensures.made s after h sound (subst (λ x. IsObeyed s (command_of x) after) c.in-AddBox.is is)

pub returns-in-AddBox-clause-same : goal.returns-in-AddBox-clause-same
returns-in-AddBox-clause-same c = c.add_box.ensures.same

pub returns-in-AddBox-clause-count : goal.returns-in-AddBox-clause-count
returns-in-AddBox-clause-count c = c.add_box.ensures.count

pub returns-in-AddBox-clause-staged : goal.returns-in-AddBox-clause-staged
returns-in-AddBox-clause-staged c = c.add_box.ensures.staged

pub returns-in-AddBox-clause-fault : goal.returns-in-AddBox-clause-fault
returns-in-AddBox-clause-fault c = c.add_box.ensures.fault

pub returns-in-DropFile-clause-made : goal.returns-in-DropFile-clause-made
returns-in-DropFile-clause-made c s after h sound is = c.drop_file.ensures.made s after h sound (subst (λ x. IsObeyed s (command_of x) after) c.in-DropFile.is is)

pub returns-in-DropFile-clause-same : goal.returns-in-DropFile-clause-same
returns-in-DropFile-clause-same c = c.drop_file.ensures.same

pub returns-in-DropFile-clause-count : goal.returns-in-DropFile-clause-count
returns-in-DropFile-clause-count c = c.drop_file.ensures.count

pub returns-in-DropFile-clause-staged : goal.returns-in-DropFile-clause-staged
returns-in-DropFile-clause-staged c = c.drop_file.ensures.staged

pub returns-in-DropFile-clause-fault : goal.returns-in-DropFile-clause-fault
returns-in-DropFile-clause-fault c = c.drop_file.ensures.fault

pub returns-in-LimitKey-clause-made : goal.returns-in-LimitKey-clause-made
returns-in-LimitKey-clause-made c s after h sound is = c.limit_key.ensures.made s after h (subst (λ x. IsObeyed s (command_of x) after) c.in-LimitKey.is is)

pub returns-in-LimitKey-clause-same : goal.returns-in-LimitKey-clause-same
returns-in-LimitKey-clause-same c = c.limit_key.ensures.same

pub returns-in-LimitKey-clause-count : goal.returns-in-LimitKey-clause-count
returns-in-LimitKey-clause-count c = c.limit_key.ensures.count

pub returns-in-LimitKey-clause-staged : goal.returns-in-LimitKey-clause-staged
returns-in-LimitKey-clause-staged c = c.limit_key.ensures.staged

pub returns-in-LimitKey-clause-fault : goal.returns-in-LimitKey-clause-fault
returns-in-LimitKey-clause-fault c = c.limit_key.ensures.fault

pub returns-in-RevokeKey-clause-made : goal.returns-in-RevokeKey-clause-made
returns-in-RevokeKey-clause-made c s after h sound is = c.revoke_key.ensures.made s after h (subst (λ x. IsObeyed s (command_of x) after) c.in-RevokeKey.is is)

pub returns-in-RevokeKey-clause-same : goal.returns-in-RevokeKey-clause-same
returns-in-RevokeKey-clause-same c = λ s h. tt

pub returns-in-RevokeKey-clause-fault : goal.returns-in-RevokeKey-clause-fault
returns-in-RevokeKey-clause-fault c = tt

pub returns-in-RevokeKey-clause-staged : goal.returns-in-RevokeKey-clause-staged
returns-in-RevokeKey-clause-staged c = c.revoke_key.ensures.staged

pub returns-in-RevokeKey-clause-count : goal.returns-in-RevokeKey-clause-count
returns-in-RevokeKey-clause-count c = record { err = tt; ok = c.revoke_key.ensures.faults }

pub returns-in-CloseBox-clause-made : goal.returns-in-CloseBox-clause-made
returns-in-CloseBox-clause-made c s after h sound is = c.close_box.ensures.made s after h (subst (λ x. IsObeyed s (command_of x) after) c.in-CloseBox.is is)

pub returns-in-CloseBox-clause-same : goal.returns-in-CloseBox-clause-same
returns-in-CloseBox-clause-same c = λ s h. tt

pub returns-in-CloseBox-clause-fault : goal.returns-in-CloseBox-clause-fault
returns-in-CloseBox-clause-fault c = tt

pub returns-in-CloseBox-clause-staged : goal.returns-in-CloseBox-clause-staged
returns-in-CloseBox-clause-staged c = c.close_box.ensures.staged

pub returns-in-CloseBox-clause-count : goal.returns-in-CloseBox-clause-count
returns-in-CloseBox-clause-count c = record { err = tt; ok = c.close_box.ensures.faults }

pub returns-in-SetAllowance-clause-made : goal.returns-in-SetAllowance-clause-made
returns-in-SetAllowance-clause-made c s after h sound is = c.set_allowance.ensures.made s after h (subst (λ x. IsObeyed s (command_of x) after) c.in-SetAllowance.is is)

pub returns-in-SetAllowance-clause-same : goal.returns-in-SetAllowance-clause-same
returns-in-SetAllowance-clause-same c = λ s h. tt

pub returns-in-SetAllowance-clause-fault : goal.returns-in-SetAllowance-clause-fault
returns-in-SetAllowance-clause-fault c = tt

pub returns-in-SetAllowance-clause-staged : goal.returns-in-SetAllowance-clause-staged
returns-in-SetAllowance-clause-staged c = c.set_allowance.ensures.staged

pub returns-in-SetAllowance-clause-count : goal.returns-in-SetAllowance-clause-count
returns-in-SetAllowance-clause-count c = record { err = tt; ok = c.set_allowance.ensures.faults }
