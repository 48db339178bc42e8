use Rattle.std.proofs.Common.{◌≡◌, ◌<◌, sym, ap, ◌∙◌, arith}
use Rattle.std.proofs.lemmas.List.Elements.{All-from_get_or}
use Rattle.percent_encoding.specs.Iter.{encoded_text}
use Rattle.sigtext.specs.UriEncode.{uri_encoded}
use Rattle.sigtext.proofs.Encoding.{percent_encode-is}
use Rattle.sigtext.proofs.Sent.{sent_nothing, sent_more, sent_all, sent_none, at_error}
use Rattle.sigtext.proofs.sending.send_encoded.Goals as goal

pub loop-piece-init : goal.loop-piece-init
loop-piece-init g c =
    let small = All-from_get_or (λ b. b < 256) c.args.bytes.now 0 (λ i within. omega (arith, c.type_inv.bytes i)) in
    let whole = percent_encode-is c.args.slash c.escaped.result c.args.bytes.now c.escaped.ensures small in
    let text : encoded_text c.into_iter-piece-iterator.result ≡ uri_encoded c.args.slash c.args.bytes.now = ap encoded_text c.into_iter-piece-iterator.ensures.into_iter_gives ∙ c.percent_encode-piece-items.ensures.text ∙ whole in
    sent_nothing (sym text) (g.met.S.ByteSink.nothing c.args.sink.now)

pub loop-piece-preserved : goal.loop-piece-preserved
loop-piece-preserved g c =
    sent_more g.met.S.ByteSink.joins c.loop-piece.invariant c.in-Some.ensures.steps (rw c.as_bytes.ensures.value at c.in_ok-take.ensures.ok)

pub returns-in_err-take-clause-err : goal.returns-in_err-take-clause-err
returns-in_err-take-clause-err g c =
    at_error c.from_residual.result (sent_none g.met.S.ByteSink.joins c.loop-piece.invariant c.in_err-take.ensures.err)

pub returns-clause-ok : goal.returns-clause-ok
returns-clause-ok g c = sent_all c.loop-piece.invariant c.in-None.ensures.steps

pub returns-in_err-take-clause-sure : goal.returns-in_err-take-clause-sure
returns-in_err-take-clause-sure g c = grind arith
