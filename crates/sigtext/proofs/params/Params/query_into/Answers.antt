use Rattle.std.proofs.lemmas.Result.{on_ok_weaker, on_err_weaker}
use Rattle.sigtext.proofs.CanonicalTexts.{query_of, query_of-is}
use Rattle.sigtext.proofs.params.Params.query_into.Goals as goal

pub returns-clause-ok : goal.returns-clause-ok
returns-clause-ok g c =
    on_ok_weaker c.send_query.result (λ sent params holds. (query_of c.args.self.now, query_of-is c.args.self.now params holds, rw c.as_slice.ensures.value at sent)) c.send_query.ensures.ok

pub returns-clause-err : goal.returns-clause-err
returns-clause-err g c =
    on_err_weaker c.send_query.result (λ sent params holds. (query_of c.args.self.now, query_of-is c.args.self.now params holds, rw c.as_slice.ensures.value at sent)) c.send_query.ensures.err
