use Rattle.std.proofs.Common.{arith}
use Rattle.boxes.proofs.forms.has_form.Goals as goal

pub returns-else-is_box_name : goal.returns-else-is_box_name
returns-else-is_box_name c = grind arith

pub returns-else-is_box_name-2 : goal.returns-else-is_box_name-2
returns-else-is_box_name-2 c = grind arith

pub returns-else-is_box_name-3 : goal.returns-else-is_box_name-3
returns-else-is_box_name-3 c = grind arith

pub returns-else-is_key_id : goal.returns-else-is_key_id
returns-else-is_key_id c = grind arith

pub returns-else-is_key_id-2 : goal.returns-else-is_key_id-2
returns-else-is_key_id-2 c = grind arith

pub returns-in-RevokeKey : goal.returns-in-RevokeKey
returns-in-RevokeKey c = grind arith

pub returns-in-SetAllowance : goal.returns-in-SetAllowance
returns-in-SetAllowance c = grind arith

pub returns-then-is_box_name : goal.returns-then-is_box_name
returns-then-is_box_name c = grind arith

pub returns-then-is_box_name-2 : goal.returns-then-is_box_name-2
returns-then-is_box_name-2 c = grind arith

pub returns-then-is_box_name-3 : goal.returns-then-is_box_name-3
returns-then-is_box_name-3 c = grind arith

pub returns-then-is_key_id : goal.returns-then-is_key_id
returns-then-is_key_id c = grind arith

pub returns-then-is_key_id-2 : goal.returns-then-is_key_id-2
returns-then-is_key_id-2 c = grind arith
