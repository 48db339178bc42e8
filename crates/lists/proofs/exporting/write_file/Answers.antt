use Rattle.std.proofs.Common.{Ok, arith}
use Rattle.wire.proofs.Written.{sends_same}
use Rattle.lists.proofs.AnsweredLists.{sends_err, sends_none, sends_nothing, sends_whole}
use Rattle.lists.proofs.SentFiles.{put_same}
use Rattle.lists.proofs.exporting.write_file.Goals as goal

pub returns-in-Ok-clause-row : goal.returns-in-Ok-clause-row
returns-in-Ok-clause-row g c = sends_whole c.in_default-send.field-0 (Ok tt) (sends_same c.deref-4.ensures.value c.in_default-send.ensures.sent)

pub returns-in-Ok-clause-sum : goal.returns-in-Ok-clause-sum
returns-in-Ok-clause-sum g c = sends_whole c.in-Ok.field-0 (Ok tt) (sends_same c.deref-5.ensures.value c.in-Ok.ensures.sent)

pub returns-in-Err-send-2-clause-row : goal.returns-in-Err-send-2-clause-row
returns-in-Err-send-2-clause-row g c = sends_whole c.in_default-send.field-0 _ (sends_same c.deref-4.ensures.value c.in_default-send.ensures.sent)

pub returns-in-Err-send-2-clause-sum : goal.returns-in-Err-send-2-clause-sum
returns-in-Err-send-2-clause-sum g c = sends_err c.in-Err-send-2.field-0 _ (sends_same c.deref-5.ensures.value c.in-Err-send-2.ensures.sent)

pub returns-in-Err-send-clause-row : goal.returns-in-Err-send-clause-row
returns-in-Err-send-clause-row g c = sends_err c.in-Err-send.field-0 _ (sends_same c.deref-4.ensures.value c.in-Err-send.ensures.sent)

pub returns-in-Err-send-clause-sum : goal.returns-in-Err-send-clause-sum
returns-in-Err-send-clause-sum g c = sends_none _ _ _

pub returns-in-Err-clause-row : goal.returns-in-Err-clause-row
returns-in-Err-clause-row g c = sends_nothing _

pub returns-in-Err-clause-sum : goal.returns-in-Err-clause-sum
returns-in-Err-clause-sum g c = sends_nothing _

pub returns-in-Ok-clause-put : goal.returns-in-Ok-clause-put
returns-in-Ok-clause-put g c = put_same _ _ _ _ _ _ _ _ c.deref.ensures.value c.deref-2.ensures.value c.deref-3.ensures.value c.in_default.ensures.put

pub returns-in-Err-send-2-clause-put : goal.returns-in-Err-send-2-clause-put
returns-in-Err-send-2-clause-put g c = put_same _ _ _ _ _ _ _ _ c.deref.ensures.value c.deref-2.ensures.value c.deref-3.ensures.value c.in_default.ensures.put

pub returns-in-Err-send-clause-put : goal.returns-in-Err-send-clause-put
returns-in-Err-send-clause-put g c = put_same _ _ _ _ _ _ _ _ c.deref.ensures.value c.deref-2.ensures.value c.deref-3.ensures.value c.in_default.ensures.put

pub put-requires-clause-folder : goal.put-requires-clause-folder
put-requires-clause-folder g c = grind arith

pub returns-in-Err-clause-put : goal.returns-in-Err-clause-put
returns-in-Err-clause-put g c = grind arith

pub returns-in-Err-send-2-clause-files_count : goal.returns-in-Err-send-2-clause-files_count
returns-in-Err-send-2-clause-files_count g c = grind arith

pub returns-in-Ok-clause-files_count : goal.returns-in-Ok-clause-files_count
returns-in-Ok-clause-files_count g c = grind arith

pub returns-in-Ok-clause-sums_count : goal.returns-in-Ok-clause-sums_count
returns-in-Ok-clause-sums_count g c = grind arith
