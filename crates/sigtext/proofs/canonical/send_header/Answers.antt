use Rattle.std.proofs.Common.{[], ◌∷◌, refl, append_assoc}
use Rattle.std.proofs.lemmas.Result.{on_ok_weaker, on_err_weaker}
use Rattle.sigtext.specs.SignedHeaders.{lower_case}
use Rattle.sigtext.proofs.Sent.{sent_nothing, sent_more, sent_last, sent_part, sent_last_part, sent_none, at_error}
use Rattle.sigtext.proofs.canonical.send_header.Goals as goal

pub returns-in_err-send_lower_case-clause-err : goal.returns-in_err-send_lower_case-clause-err
returns-in_err-send_lower_case-clause-err g c =
    let joins = g.met.S.ByteSink.joins in
    let whole = append_assoc (lower_case c.args.field.now.name.now) (58 ∷ c.args.field.now.value.now) (10 ∷ []) in
    let start = sent_nothing whole (g.met.S.ByteSink.nothing c.args.sink.now) in
    at_error c.from_residual.result (sent_part _ joins start refl c.in_err-send_lower_case.ensures.err)

pub returns-in_err-take-clause-err : goal.returns-in_err-take-clause-err
returns-in_err-take-clause-err g c =
    let joins = g.met.S.ByteSink.joins in
    let whole = append_assoc (lower_case c.args.field.now.name.now) (58 ∷ c.args.field.now.value.now) (10 ∷ []) in
    let start = sent_nothing whole (g.met.S.ByteSink.nothing c.args.sink.now) in
    let name = sent_more joins start refl c.in_ok-send_lower_case.ensures.ok in
    at_error c.from_residual-in_err-take.result (sent_none joins name c.in_err-take.ensures.err)

pub returns-clause-err : goal.returns-clause-err
returns-clause-err g c =
    let joins = g.met.S.ByteSink.joins in
    let whole = append_assoc (lower_case c.args.field.now.name.now) (58 ∷ c.args.field.now.value.now) (10 ∷ []) in
    let start = sent_nothing whole (g.met.S.ByteSink.nothing c.args.sink.now) in
    let name = sent_more joins start refl c.in_ok-send_lower_case.ensures.ok in
    let colon = sent_more joins name refl c.in_ok-take.ensures.ok in
    on_err_weaker c.send_line.result (λ h. sent_last_part joins colon h) c.send_line.ensures.err

pub returns-clause-ok : goal.returns-clause-ok
returns-clause-ok g c =
    let joins = g.met.S.ByteSink.joins in
    let whole = append_assoc (lower_case c.args.field.now.name.now) (58 ∷ c.args.field.now.value.now) (10 ∷ []) in
    let start = sent_nothing whole (g.met.S.ByteSink.nothing c.args.sink.now) in
    let name = sent_more joins start refl c.in_ok-send_lower_case.ensures.ok in
    let colon = sent_more joins name refl c.in_ok-take.ensures.ok in
    on_ok_weaker c.send_line.result (λ h. sent_last joins colon h) c.send_line.ensures.ok
