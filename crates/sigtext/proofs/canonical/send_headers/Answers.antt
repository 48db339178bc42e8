use Rattle.std.proofs.Common.{◌≡◌, ℕ, ◌+◌, ◌<◌, List, [], ◌∷◌, ◌++◌, length, get_or, drop, map, refl, ◌∙◌, append_assoc}
use Rattle.std.proofs.lemmas.List.{at_drop_more, at_drop_all}
use Rattle.std.proofs.lemmas.Result.{on_ok_weaker, on_err_weaker}
use Rattle.sigtext.specs.declared.field.Field.{Field}
use Rattle.sigtext.specs.SignedHeaders.{lower_case, canonical_headers}
use Rattle.sigtext.specs.Signing.{signed_header}
use Rattle.sigtext.proofs.Sent.{sent_nothing, sent_more, sent_step, sent_last, sent_none, sent_part, at_error}
use Rattle.sigtext.proofs.canonical.send_headers.Goals as goal

-- the headers of these fields, and a line feed
abbrev lines : List Field → List ℕ
lines fields = canonical_headers (map signed_header fields) ++ 10 ∷ []

-- the rest at a field
at_field : (fields : List Field) (i : ℕ) (d : Field) → i < length fields
    → lines (drop i fields) ≡ (lower_case (get_or fields i d).name.now ++ 58 ∷ (get_or fields i d).value.now ++ 10 ∷ []) ++ lines (drop (i + 1) fields)
at_field fields i d within =
    let header = lower_case (get_or fields i d).name.now ++ 58 ∷ (get_or fields i d).value.now ++ 10 ∷ [] in
    at_drop_more lines fields i d within ∙ append_assoc header (canonical_headers (map signed_header (drop (i + 1) fields))) (10 ∷ [])

pub loop-field-init : goal.loop-field-init
loop-field-init g c = sent_nothing refl (g.met.S.ByteSink.nothing c.args.sink.now)

pub returns-in_err-send_header-clause-err : goal.returns-in_err-send_header-clause-err
returns-in_err-send_header-clause-err g c =
    let step = at_field c.args.fields.now c.loop-field.field-index _ c.loop-field-test.true in
    at_error c.from_residual.result (sent_part _ g.met.S.ByteSink.joins c.loop-field.invariant step c.in_err-send_header.ensures.err)

pub loop-field-preserved : goal.loop-field-preserved
loop-field-preserved g c =
    let step = at_field c.args.fields.now c.loop-field.field-index _ c.loop-field-test.true in
    sent_more g.met.S.ByteSink.joins c.loop-field.invariant step c.in_ok-send_header.ensures.ok

pub returns-clause-err : goal.returns-clause-err
returns-clause-err g c =
    on_err_weaker c.take.result (λ h. sent_none g.met.S.ByteSink.joins c.loop-field.invariant h) c.take.ensures.err

pub returns-clause-ok : goal.returns-clause-ok
returns-clause-ok g c =
    let ends = sent_step c.loop-field.invariant (at_drop_all lines c.args.fields.now c.loop-field.field-index c.loop-field-test.false) in
    on_ok_weaker c.take.result (λ h. sent_last g.met.S.ByteSink.joins ends h) c.take.ensures.ok
