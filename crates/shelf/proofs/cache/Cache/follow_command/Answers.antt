use Rattle.std.proofs.Common.{subst}
use Rattle.boxes.specs.Changes.{IsObeyed, command_of}
use Rattle.boxes.specs.Rows.{settings_of}
use Rattle.boxes.specs.declared.change.Command as row
use Rattle.boxes.specs.State.{Place}
use Rattle.shelf.proofs.Followed.{added_key, added_box, closed_box, dropped_file, limited_key, revoked_key, set_allowance}
use Rattle.shelf.proofs.cache.Cache.follow_command.Goals as goal

pub returns-in-AddKey : goal.returns-in-AddKey
returns-in-AddKey c s after obeyed h =
    let is = subst (λ (x : row.Command). IsObeyed s (command_of x) after) c.in-AddKey.is obeyed in
    added_key c.args.self.now s after c.in-AddKey.id.now c.in-AddKey.role c.in-AddKey.secret.now is h

pub returns-in-AddBox : goal.returns-in-AddBox
returns-in-AddBox c s after obeyed h =
    let is = subst (λ (x : row.Command). IsObeyed s (command_of x) after) c.in-AddBox.is obeyed in
    added_box c.args.self.now s after c.in-AddBox.name.now (settings_of c.in-AddBox.row.now) is h

pub returns-in-RevokeKey : goal.returns-in-RevokeKey
returns-in-RevokeKey c s after obeyed h =
    let is = subst (λ (x : row.Command). IsObeyed s (command_of x) after) c.in-RevokeKey.is obeyed in
    revoked_key c.args.self.now c.forget_key.new.keys s after c.in-RevokeKey.id.now is c.forget_key.ensures h

pub returns-in-LimitKey : goal.returns-in-LimitKey
returns-in-LimitKey c s after obeyed h =
    let is = subst (λ (x : row.Command). IsObeyed s (command_of x) after) c.in-LimitKey.is obeyed in
    limited_key c.args.self.now c.forget_key-in-LimitKey.new.keys s after c.in-LimitKey.id.now c.in-LimitKey.in_box.now is c.forget_key-in-LimitKey.ensures h

pub returns-in-CloseBox : goal.returns-in-CloseBox
returns-in-CloseBox c s after obeyed h =
    let is = subst (λ (x : row.Command). IsObeyed s (command_of x) after) c.in-CloseBox.is obeyed in
    closed_box c.args.self.now c.forget_box.new.boxes s after c.in-CloseBox.name.now c.in-CloseBox.moment is c.forget_box.ensures h

pub returns-in-DropFile : goal.returns-in-DropFile
returns-in-DropFile c s after obeyed h =
    let place : Place = record { box = c.in-DropFile.in_box.now; name = c.in-DropFile.name.now } in
    let is = subst (λ (x : row.Command). IsObeyed s (command_of x) after) c.in-DropFile.is obeyed in
    dropped_file c.args.self.now c.set_totals.new.boxes s after place is c.set_totals.ensures h

pub returns-in-SetAllowance : goal.returns-in-SetAllowance
returns-in-SetAllowance c s after obeyed h =
    let is = subst (λ (x : row.Command). IsObeyed s (command_of x) after) c.in-SetAllowance.is obeyed in
    set_allowance c.args.self.now s after c.in-SetAllowance.seconds is h
