use Rattle.std.proofs.Common.{[], ◌++◌, refl, subst, arith}
use Rattle.std.proofs.lemmas.Result.{err_from_is_err_and}
use Rattle.boxes.specs.Rows.{numbered}
use Rattle.wire.proofs.Written.{sends_both}
use Rattle.sigtext.specs.Counts.{CountsErrors}
use Rattle.lists.specs.Asking.{stays_err, stays_joined, stays_ok}
use Rattle.lists.specs.Lists.{by_writer, line}
use Rattle.lists.specs.Manifests.{manifest_head}
use Rattle.lists.proofs.AnsweredLists.{none_table, sends_err, sends_whole}
use Rattle.lists.proofs.manifests.manifest.Goals as goal

pub returns-in_err-send_line-clause-writes : goal.returns-in_err-send_line-clause-writes
returns-in_err-send_line-clause-writes g c =
    let told = err_from_is_err_and c.from_residual.result c.from_residual.ensures.1 in
    λ s means sound honest. rw told.1 (record {
      first = [];
      are_first = record { rest = numbered 1 s.receipts; receipts = refl; all = tt };
      text = line manifest_head;
      table = none_table _ _;
      sent = sends_err c.in_err-send_line.field-0.0 told.0 c.in_err-send_line.ensures.sent;
    })

pub returns-in-Err-clause-writes : goal.returns-in-Err-clause-writes
returns-in-Err-clause-writes g c = λ s means sound honest. record {
  first = [];
  are_first = record { rest = numbered 1 s.receipts; receipts = refl; all = tt };
  text = line manifest_head;
  table = none_table _ _;
  sent = sends_whole tt _ c.in_ok-send_line.ensures.sent;
}

pub returns-clause-writes : goal.returns-clause-writes
returns-clause-writes g c = λ s means sound honest.
    let asked = c.send_receipts.ensures.stays.honest honest in
    let known = c.next_number.ensures.rest.same s means in
    let told = c.send_receipts.ensures.sent s known sound honest (c.in-Ok.ensures.value s means sound asked) in
    record {
      first = told.first;
      are_first = told.are_first;
      text = line manifest_head ++ told.text;
      table = record { lines = told.text; are = told.lines; is = refl };
      sent = sends_both (line manifest_head) told.text _ _ _ tt _ c.in_ok-send_line.ensures.sent told.sent;
    }

pub returns-in-Err-clause-stays : goal.returns-in-Err-clause-stays
returns-in-Err-clause-stays g c = stays_err _ _ _ c.in-Err.ensures.rest

pub returns-clause-stays : goal.returns-clause-stays
returns-clause-stays g c = stays_joined _ _ _ _ (stays_ok _ _ _ c.in-Ok.ensures.rest) c.send_receipts.ensures.stays

pub returns-clause-count : goal.returns-clause-count
returns-clause-count g c = subst (λ n. CountsErrors n c.send_receipts.new.out.faults (by_writer c.send_receipts.result)) c.in_ok-send_line.ensures.count.ok c.send_receipts.ensures.count

pub returns-clause-fault : goal.returns-clause-fault
returns-clause-fault g c = grind arith

pub returns-clause-staged : goal.returns-clause-staged
returns-clause-staged g c = grind arith

pub returns-in-Err-clause-staged : goal.returns-in-Err-clause-staged
returns-in-Err-clause-staged g c = grind arith

pub returns-in_err-send_line-clause-fault : goal.returns-in_err-send_line-clause-fault
returns-in_err-send_line-clause-fault g c = grind arith
