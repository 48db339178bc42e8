use Rattle.std.proofs.Common.{◌∙◌, arith}
use Rattle.std.proofs.lemmas.Result.{err_from_is_err_and}
use Rattle.wire.proofs.Written.{sends_same}
use Rattle.lists.proofs.AnsweredLists.{sends_none}
use Rattle.lists.proofs.lines.send_line.Goals as goal

pub returns-in_err-text-clause-sent : goal.returns-in_err-text-clause-sent
returns-in_err-text-clause-sent g c =
    let told = err_from_is_err_and c.from_residual.result c.from_residual.ensures.1 in
    rw told.1 (sends_none _ _ told.0)

pub returns-clause-sent : goal.returns-clause-sent
returns-clause-sent g c = sends_same (c.deref.ensures.value ∙ c.in_ok-text.ensures.line) c.send_text.ensures.sent

pub returns-clause-fault : goal.returns-clause-fault
returns-clause-fault g c = grind arith
