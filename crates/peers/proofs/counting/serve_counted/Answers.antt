use Rattle.std.proofs.Common.{arith}
use Rattle.std.proofs.lemmas.Result.{IfOk-weaker}
use Rattle.peers.proofs.Counted.{closed_all, opened_all}
use Rattle.peers.proofs.counting.serve_counted.Goals as goal

pub returns-clause-opened : goal.returns-clause-opened
returns-clause-opened g c =
    let none = c.new.ensures.none in
    IfOk-weaker c.serve.result.outcome _ _ (λ outcome x. opened_all (record { tells = tt; openings_are = none.0; closings_are = none.1 }) (omega arith) x.accepts) c.serve.ensures.serves

pub returns-clause-closed : goal.returns-clause-closed
returns-clause-closed g c =
    let none = c.new.ensures.none in
    IfOk-weaker c.serve.result.outcome _ _ (λ outcome x. closed_all (record { tells = tt; openings_are = none.0; closings_are = none.1 }) (omega arith) x.accepts) c.serve.ensures.serves
