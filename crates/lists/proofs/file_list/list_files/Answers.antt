use Rattle.std.proofs.Common.{subst, arith}
use Rattle.sigtext.specs.Counts.{CountsErrors}
use Rattle.lists.specs.Lists.{by_writer}
use Rattle.std.specs.FinMap.{entries}
use Rattle.std.proofs.lemmas.Result.{err_from_is_err_and}
use Rattle.lists.specs.Files.{files_head, IsFileLine}
use Rattle.lists.proofs.Walked.{head_breaks, head_then}
use Rattle.lists.proofs.file_list.list_files.Goals as goal

pub returns-in_err-send_line-clause-writes : goal.returns-in_err-send_line-clause-writes
returns-in_err-send_line-clause-writes g c =
    let told = err_from_is_err_and c.from_residual.result c.from_residual.ensures.1 in
    λ s means sound honest. rw told.1 (head_breaks files_head (IsFileLine s) (entries s.files) _ _ c.in_err-send_line.field-0.0 told.0 c.in_err-send_line.ensures.sent)

pub returns-clause-writes : goal.returns-clause-writes
returns-clause-writes g c = λ s means sound honest.
    head_then files_head (IsFileLine s) (entries s.files) _ _ _ tt _ c.in_ok-send_line.ensures.sent (c.send_files.ensures.sent s (means, sound, honest))

pub returns-clause-count : goal.returns-clause-count
returns-clause-count g c = subst (λ n. CountsErrors n c.send_files.new.out.faults (by_writer c.send_files.result)) c.in_ok-send_line.ensures.count.ok c.send_files.ensures.count

pub returns-clause-fault : goal.returns-clause-fault
returns-clause-fault g c = grind arith

pub returns-clause-stays : goal.returns-clause-stays
returns-clause-stays g c = grind arith

pub returns-in_err-send_line-clause-fault : goal.returns-in_err-send_line-clause-fault
returns-in_err-send_line-clause-fault g c = grind arith
