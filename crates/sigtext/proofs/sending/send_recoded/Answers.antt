use Rattle.std.proofs.Common.{[], ◌∷◌, sym, ap, ◌∙◌, arith}
use Rattle.percent_encoding.specs.Iter.{decoded_bytes}
use Rattle.sigtext.specs.UriEncode.{uri_encoded}
use Rattle.sigtext.proofs.PlainTexts.{encoded_append, encoded_nothing}
use Rattle.sigtext.proofs.Sent.{sent_nothing, sent_more, sent_all, sent_part, at_error}
use Rattle.sigtext.proofs.sending.send_recoded.Goals as goal

pub loop-byte-init : goal.loop-byte-init
loop-byte-init g c =
    let text = ap decoded_bytes c.into_iter-byte-iterator.ensures.into_iter_gives ∙ c.percent_decode-byte-items.ensures.bytes in
    sent_nothing (ap (uri_encoded c.args.slash) (sym text)) (g.met.S.ByteSink.nothing c.args.sink.now)

pub loop-byte-preserved : goal.loop-byte-preserved
loop-byte-preserved g c =
    let step = ap (uri_encoded c.args.slash) c.in-Some.ensures.steps ∙ encoded_append c.args.slash (c.in-Some.byte ∷ []) (decoded_bytes c.next.new.self) in
    sent_more g.met.S.ByteSink.joins c.loop-byte.invariant step c.in_ok-send_encoded.ensures.ok

pub returns-in_err-send_encoded-clause-err : goal.returns-in_err-send_encoded-clause-err
returns-in_err-send_encoded-clause-err g c =
    let step = ap (uri_encoded c.args.slash) c.in-Some.ensures.steps ∙ encoded_append c.args.slash (c.in-Some.byte ∷ []) (decoded_bytes c.next.new.self) in
    at_error c.from_residual.result (sent_part _ g.met.S.ByteSink.joins c.loop-byte.invariant step c.in_err-send_encoded.ensures.err)

pub returns-clause-ok : goal.returns-clause-ok
returns-clause-ok g c = sent_all c.loop-byte.invariant (ap (uri_encoded c.args.slash) c.in-None.ensures.steps.0 ∙ encoded_nothing c.args.slash)

pub returns-in_err-send_encoded-clause-sure : goal.returns-in_err-send_encoded-clause-sure
returns-in_err-send_encoded-clause-sure g c = grind arith

pub returns-then-has_no_escape-clause-err : goal.returns-then-has_no_escape-clause-err
returns-then-has_no_escape-clause-err g c = grind arith

pub returns-then-has_no_escape-clause-ok : goal.returns-then-has_no_escape-clause-ok
returns-then-has_no_escape-clause-ok g c = grind arith
