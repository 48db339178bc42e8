use Rattle.std.proofs.Common.{refl, arith}
use Rattle.std.proofs.lemmas.Result.{on_ok_weaker, on_err_weaker}
use Rattle.sigtext.proofs.CanonicalTexts.{text_of, text_of-is}
use Rattle.sigtext.proofs.Sent.{sent_nothing, sent_more, sent_last, sent_part, sent_last_part, sent_none, at_error}
use Rattle.sigtext.proofs.canonical.canonical_into.Goals as goal

pub returns-in_err-send_line-clause-err : goal.returns-in_err-send_line-clause-err
returns-in_err-send_line-clause-err g c =
    let joins = g.met.S.ByteSink.joins in
    let start = sent_nothing {whole = text_of c.args.parts.now} refl (g.met.S.ByteSink.nothing c.args.sink.now) in
    let sent = sent_part _ joins start refl c.in_err-send_line.ensures.err in
    at_error c.from_residual.result (λ signed are. (text_of c.args.parts.now, text_of-is c.args.parts.now signed are, sent))

pub returns-in_err-send_path-clause-err : goal.returns-in_err-send_path-clause-err
returns-in_err-send_path-clause-err g c =
    let joins = g.met.S.ByteSink.joins in
    let start = sent_nothing {whole = text_of c.args.parts.now} refl (g.met.S.ByteSink.nothing c.args.sink.now) in
    let line = sent_more joins start refl c.in_ok-send_line.ensures.ok in
    let sent = sent_part _ joins line refl c.in_err-send_path.ensures.err in
    at_error c.from_residual-in_err-send_path.result (λ signed are. (text_of c.args.parts.now, text_of-is c.args.parts.now signed are, sent))

pub returns-in_err-send_query-clause-err : goal.returns-in_err-send_query-clause-err
returns-in_err-send_query-clause-err g c =
    let joins = g.met.S.ByteSink.joins in
    let start = sent_nothing {whole = text_of c.args.parts.now} refl (g.met.S.ByteSink.nothing c.args.sink.now) in
    let line = sent_more joins start refl c.in_ok-send_line.ensures.ok in
    let path = sent_more joins line refl c.in_ok-send_path.ensures.ok in
    let sent = sent_part _ joins path refl (rw c.as_slice-items.ensures.value at c.in_err-send_query.ensures.err) in
    at_error c.from_residual-in_err-send_query.result (λ signed are. (text_of c.args.parts.now, text_of-is c.args.parts.now signed are, sent))

pub returns-in_err-take-clause-err : goal.returns-in_err-take-clause-err
returns-in_err-take-clause-err g c =
    let joins = g.met.S.ByteSink.joins in
    let start = sent_nothing {whole = text_of c.args.parts.now} refl (g.met.S.ByteSink.nothing c.args.sink.now) in
    let line = sent_more joins start refl c.in_ok-send_line.ensures.ok in
    let path = sent_more joins line refl c.in_ok-send_path.ensures.ok in
    let query = sent_more joins path refl (rw c.as_slice-items.ensures.value at c.in_ok-send_query.ensures.ok) in
    let sent = sent_none joins query c.in_err-take.ensures.err in
    at_error c.from_residual-in_err-take.result (λ signed are. (text_of c.args.parts.now, text_of-is c.args.parts.now signed are, sent))

pub returns-in_err-send_headers-clause-err : goal.returns-in_err-send_headers-clause-err
returns-in_err-send_headers-clause-err g c =
    let joins = g.met.S.ByteSink.joins in
    let start = sent_nothing {whole = text_of c.args.parts.now} refl (g.met.S.ByteSink.nothing c.args.sink.now) in
    let line = sent_more joins start refl c.in_ok-send_line.ensures.ok in
    let path = sent_more joins line refl c.in_ok-send_path.ensures.ok in
    let query = sent_more joins path refl (rw c.as_slice-items.ensures.value at c.in_ok-send_query.ensures.ok) in
    let query_end = sent_more joins query refl c.in_ok-take.ensures.ok in
    let sent = sent_part _ joins query_end refl (rw c.as_slice-fields.ensures.value at c.in_err-send_headers.ensures.err) in
    at_error c.from_residual-in_err-send_headers.result (λ signed are. (text_of c.args.parts.now, text_of-is c.args.parts.now signed are, sent))

pub returns-clause-err : goal.returns-clause-err
returns-clause-err g c =
    let joins = g.met.S.ByteSink.joins in
    let start = sent_nothing {whole = text_of c.args.parts.now} refl (g.met.S.ByteSink.nothing c.args.sink.now) in
    let line = sent_more joins start refl c.in_ok-send_line.ensures.ok in
    let path = sent_more joins line refl c.in_ok-send_path.ensures.ok in
    let query = sent_more joins path refl (rw c.as_slice-items.ensures.value at c.in_ok-send_query.ensures.ok) in
    let query_end = sent_more joins query refl c.in_ok-take.ensures.ok in
    let headers = sent_more joins query_end refl (rw c.as_slice-fields.ensures.value at c.in_ok-send_headers.ensures.ok) in
    on_err_weaker c.send_names.result (λ h signed are. (text_of c.args.parts.now, text_of-is c.args.parts.now signed are, sent_last_part joins headers h)) (rw c.as_slice-fields.ensures.value at c.send_names.ensures.err)

pub returns-clause-ok : goal.returns-clause-ok
returns-clause-ok g c =
    let joins = g.met.S.ByteSink.joins in
    let start = sent_nothing {whole = text_of c.args.parts.now} refl (g.met.S.ByteSink.nothing c.args.sink.now) in
    let line = sent_more joins start refl c.in_ok-send_line.ensures.ok in
    let path = sent_more joins line refl c.in_ok-send_path.ensures.ok in
    let query = sent_more joins path refl (rw c.as_slice-items.ensures.value at c.in_ok-send_query.ensures.ok) in
    let query_end = sent_more joins query refl c.in_ok-take.ensures.ok in
    let headers = sent_more joins query_end refl (rw c.as_slice-fields.ensures.value at c.in_ok-send_headers.ensures.ok) in
    on_ok_weaker c.send_names.result (λ h signed are. (text_of c.args.parts.now, text_of-is c.args.parts.now signed are, sent_last joins headers h)) (rw c.as_slice-fields.ensures.value at c.send_names.ensures.ok)

pub returns-in_err-send_headers-clause-sure : goal.returns-in_err-send_headers-clause-sure
returns-in_err-send_headers-clause-sure g c = grind arith

pub returns-in_err-send_path-clause-sure : goal.returns-in_err-send_path-clause-sure
returns-in_err-send_path-clause-sure g c = grind arith

pub returns-in_err-send_query-clause-sure : goal.returns-in_err-send_query-clause-sure
returns-in_err-send_query-clause-sure g c = grind arith

pub returns-in_err-take-clause-sure : goal.returns-in_err-take-clause-sure
returns-in_err-take-clause-sure g c = grind arith
