use Rattle.std.proofs.Common.{refl}
use Rattle.std.proofs.lemmas.Result.{on_ok_weaker, on_err_weaker}
use Rattle.sigtext.proofs.Sent.{sent_nothing, sent_more, sent_last, sent_none, at_error}
use Rattle.sigtext.proofs.canonical.send_line.Goals as goal

pub returns-in_err-take-clause-err : goal.returns-in_err-take-clause-err
returns-in_err-take-clause-err g c =
    let joins = g.met.S.ByteSink.joins in
    let start = sent_nothing refl (g.met.S.ByteSink.nothing c.args.sink.now) in
    at_error c.from_residual.result (sent_none joins start c.in_err-take.ensures.err)

pub returns-clause-err : goal.returns-clause-err
returns-clause-err g c =
    let joins = g.met.S.ByteSink.joins in
    let start = sent_nothing refl (g.met.S.ByteSink.nothing c.args.sink.now) in
    let text = sent_more joins start refl c.in_ok-take.ensures.ok in
    on_err_weaker c.take-2.result (λ h. sent_none joins text h) c.take-2.ensures.err

pub returns-clause-ok : goal.returns-clause-ok
returns-clause-ok g c =
    let joins = g.met.S.ByteSink.joins in
    let start = sent_nothing refl (g.met.S.ByteSink.nothing c.args.sink.now) in
    let text = sent_more joins start refl c.in_ok-take.ensures.ok in
    on_ok_weaker c.take-2.result (λ h. sent_last joins text h) c.take-2.ensures.ok
