use Rattle.std.proofs.Common.{subst, arith}
use Rattle.sigtext.specs.Counts.{CountsErrors}
use Rattle.lists.specs.Lists.{by_writer}
use Rattle.std.specs.FinMap.{entries}
use Rattle.std.proofs.lemmas.Result.{err_from_is_err_and}
use Rattle.lists.specs.Boxes.{boxes_head, IsBoxLine}
use Rattle.lists.proofs.Walked.{head_breaks, head_then}
use Rattle.lists.proofs.box_list.list_boxes.Goals as goal

pub returns-in_err-send_line-clause-writes : goal.returns-in_err-send_line-clause-writes
returns-in_err-send_line-clause-writes g c =
    let told = err_from_is_err_and c.from_residual.result c.from_residual.ensures.1 in
    λ s means sound honest. rw told.1 (head_breaks boxes_head (IsBoxLine s) (entries s.boxes) _ _ c.in_err-send_line.field-0.0 told.0 c.in_err-send_line.ensures.sent)

pub returns-clause-writes : goal.returns-clause-writes
returns-clause-writes g c = λ s means sound honest.
    head_then boxes_head (IsBoxLine s) (entries s.boxes) _ _ _ tt _ c.in_ok-send_line.ensures.sent (c.send_boxes.ensures.sent s (means, sound, honest))

pub returns-clause-count : goal.returns-clause-count
returns-clause-count g c = subst (λ n. CountsErrors n c.send_boxes.new.out.faults (by_writer c.send_boxes.result)) c.in_ok-send_line.ensures.count.ok c.send_boxes.ensures.count

pub returns-clause-fault : goal.returns-clause-fault
returns-clause-fault g c = grind arith

pub returns-clause-stays : goal.returns-clause-stays
returns-clause-stays g c = grind arith

pub returns-in_err-send_line-clause-fault : goal.returns-in_err-send_line-clause-fault
returns-in_err-send_line-clause-fault g c = grind arith
