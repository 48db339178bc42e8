use Rattle.std.proofs.Common.{refl}
use Rattle.std.proofs.lemmas.List.{at_drop_more, at_drop_all}
use Rattle.sigtext.specs.SignedHeaders.{lower_case}
use Rattle.sigtext.proofs.Sent.{sent_nothing, sent_more, sent_all, sent_none, at_error}
use Rattle.sigtext.proofs.sending.send_lower_case.Goals as goal

pub loop-byte-init : goal.loop-byte-init
loop-byte-init g c = sent_nothing refl (g.met.S.ByteSink.nothing c.args.sink.now)

pub loop-byte-preserved : goal.loop-byte-preserved
loop-byte-preserved g c =
    let step = at_drop_more lower_case c.args.name.now c.loop-byte.byte-index 0 c.loop-byte-test.true in
    sent_more g.met.S.ByteSink.joins c.loop-byte.invariant step (rw c.to_ascii_lowercase.ensures.value at c.in_ok-take.ensures.ok)

pub returns-in_err-take-clause-err : goal.returns-in_err-take-clause-err
returns-in_err-take-clause-err g c =
    at_error c.from_residual.result (sent_none g.met.S.ByteSink.joins c.loop-byte.invariant c.in_err-take.ensures.err)

pub returns-clause-ok : goal.returns-clause-ok
returns-clause-ok g c = sent_all c.loop-byte.invariant (at_drop_all lower_case c.args.name.now c.loop-byte.byte-index c.loop-byte-test.false)
