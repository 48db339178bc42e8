use Rattle.std.proofs.Common.{subst}
use Rattle.boxes.specs.Changes.{IsObeyed, command_of}
use Rattle.sqltables.specs.Schema.{v2, second_version}
use Rattle.sqlchanges.proofs.Chained.{within}
use Rattle.sqlkeeper.proofs.changing.obey.Goals as goal

pub returns-in-AddKey-clause-done : goal.returns-in-AddKey-clause-done
returns-in-AddKey-clause-done g c s after pends sound obeyed inside =
    c.add_key.ensures.done v2 s after second_version pends (subst (λ k. IsObeyed s (command_of k) after) c.in-AddKey.is obeyed)

pub returns-in-RevokeKey-clause-done : goal.returns-in-RevokeKey-clause-done
returns-in-RevokeKey-clause-done g c s after pends sound obeyed inside =
    c.revoke_key.ensures.done v2 s after second_version pends (subst (λ k. IsObeyed s (command_of k) after) c.in-RevokeKey.is obeyed)

pub returns-in-AddBox-clause-done : goal.returns-in-AddBox-clause-done
returns-in-AddBox-clause-done g c s after pends sound obeyed inside =
    c.add_box.ensures.done v2 s after second_version pends sound (subst (λ k. IsObeyed s (command_of k) after) c.in-AddBox.is obeyed)

pub returns-in-CloseBox-clause-done : goal.returns-in-CloseBox-clause-done
returns-in-CloseBox-clause-done g c s after pends sound obeyed inside =
    c.close_box.ensures.done v2 s after second_version pends (subst (λ k. IsObeyed s (command_of k) after) c.in-CloseBox.is obeyed)

pub returns-in-DropFile-clause-done : goal.returns-in-DropFile-clause-done
returns-in-DropFile-clause-done g c s after pends sound obeyed inside =
    c.drop_file.ensures.done v2 s after second_version pends sound (subst (λ k. IsObeyed s (command_of k) after) c.in-DropFile.is obeyed) inside

pub returns-in-LimitKey-clause-done : goal.returns-in-LimitKey-clause-done
returns-in-LimitKey-clause-done g c s after pends sound obeyed inside =
    c.limit_key.ensures.done s after pends (subst (λ k. IsObeyed s (command_of k) after) c.in-LimitKey.is obeyed)

pub returns-in-SetAllowance-clause-done : goal.returns-in-SetAllowance-clause-done
returns-in-SetAllowance-clause-done g c s after pends sound obeyed inside =
    c.set_allowance.ensures.done s after pends (subst (λ k. IsObeyed s (command_of k) after) c.in-SetAllowance.is obeyed)

pub returns-in-AddKey-clause-rest : goal.returns-in-AddKey-clause-rest
returns-in-AddKey-clause-rest g c = within c.add_key.ensures.rest

pub returns-in-RevokeKey-clause-rest : goal.returns-in-RevokeKey-clause-rest
returns-in-RevokeKey-clause-rest g c = within c.revoke_key.ensures.rest

pub returns-in-AddBox-clause-rest : goal.returns-in-AddBox-clause-rest
returns-in-AddBox-clause-rest g c = within c.add_box.ensures.rest

pub returns-in-CloseBox-clause-rest : goal.returns-in-CloseBox-clause-rest
returns-in-CloseBox-clause-rest g c = within c.close_box.ensures.rest

pub returns-in-LimitKey-clause-rest : goal.returns-in-LimitKey-clause-rest
returns-in-LimitKey-clause-rest g c = within c.limit_key.ensures.rest

pub returns-in-SetAllowance-clause-rest : goal.returns-in-SetAllowance-clause-rest
returns-in-SetAllowance-clause-rest g c = within c.set_allowance.ensures.rest

pub returns-in-DropFile-clause-rest : goal.returns-in-DropFile-clause-rest
returns-in-DropFile-clause-rest g c = c.drop_file.ensures.rest
