use Rattle.std.proofs.Common.{◌≡◌, ℕ, ◌+◌, ◌<◌, Bool, true, false, not, cond, List, [], ◌∷◌, ◌++◌, length, get_or, drop, map, refl, sym, ap, ◌∙◌, codes, arith}
use Rattle.std.proofs.lemmas.List.{at_drop_more, at_drop_all}
use Rattle.percent_encoding.specs.Percent.{percent_decode}
use Rattle.sigtext.specs.declared.target.RawParam.{RawParam}
use Rattle.sigtext.specs.Bytes.{same_bytes}
use Rattle.sigtext.specs.CanonicalQuery.{signed_params, param_text}
use Rattle.sigtext.specs.Decoded.{decoded_param}
use Rattle.sigtext.proofs.JoinedTexts.{joined_behind, joined_behind-nil, joined_behind-cons, joined_behind-nothing}
use Rattle.sigtext.proofs.Sent.{sent_nothing, sent_more, sent_step, sent_all, sent_part, sent_none, at_error}
use Rattle.sigtext.proofs.canonical.send_query.Goals as goal

-- the texts of the signed parameters
abbrev texts : List RawParam → List (List ℕ)
texts raws = map param_text (signed_params (map decoded_param raws))

abbrev is_signature : RawParam → Bool
is_signature raw = same_bytes (percent_decode raw.name.now) (codes "X-Amz-Signature")

-- the rest at a parameter
at_param : (front : List ℕ) (raws : List RawParam) (i : ℕ) (d : RawParam) (b : Bool) → i < length raws → b ≡ is_signature (get_or raws i d)
    → joined_behind front 38 (texts (drop i raws))
    ≡ joined_behind front 38 (map param_text (cond (not b) (decoded_param (get_or raws i d) ∷ signed_params (map decoded_param (drop (i + 1) raws))) (signed_params (map decoded_param (drop (i + 1) raws)))))
at_param front raws i d b within is =
    let first = decoded_param (get_or raws i d) in
    let others = signed_params (map decoded_param (drop (i + 1) raws)) in
    at_drop_more (λ (rest : List RawParam). joined_behind front 38 (texts rest)) raws i d within
    ∙ ap (λ (t : Bool). joined_behind front 38 (map param_text (cond (not t) (first ∷ others) others))) (sym is)

-- the signature is skipped
at_signature : (front : List ℕ) (raws : List RawParam) (i : ℕ) (d : RawParam) → i < length raws → true ≡ is_signature (get_or raws i d)
    → joined_behind front 38 (texts (drop i raws)) ≡ joined_behind front 38 (texts (drop (i + 1) raws))
at_signature front raws i d within is = at_param front raws i d true within is

at_signed : (front : List ℕ) (raws : List RawParam) (i : ℕ) (d : RawParam) → i < length raws → false ≡ is_signature (get_or raws i d)
    → joined_behind front 38 (texts (drop i raws)) ≡ front ++ (param_text (decoded_param (get_or raws i d)) ++ joined_behind (38 ∷ []) 38 (texts (drop (i + 1) raws)))
at_signed front raws i d within is =
    at_param front raws i d false within is ∙ joined_behind-cons front 38 (param_text (decoded_param (get_or raws i d))) (texts (drop (i + 1) raws))

pub loop-raw-init : goal.loop-raw-init
loop-raw-init g c = sent_nothing (joined_behind-nothing 38 (texts c.args.items.now)) (g.met.S.ByteSink.nothing c.args.sink.now)

pub loop-raw-preserved : goal.loop-raw-preserved
loop-raw-preserved g c =
    let joins = g.met.S.ByteSink.joins in
    let step = at_signed c.loop-raw.separator.now c.args.items.now c.loop-raw.raw-index _ c.loop-raw-test.true c.if-is_signature.ensures in
    let front = sent_more joins c.loop-raw.invariant step c.in_ok-take.ensures.ok in
    sent_more joins front refl c.in_ok-send_param.ensures.ok

pub loop-raw-preserved-then-is_signature : goal.loop-raw-preserved-then-is_signature
loop-raw-preserved-then-is_signature g c =
    let step = at_signature c.loop-raw.separator.now c.args.items.now c.loop-raw.raw-index _ c.loop-raw-test.true c.if-is_signature.ensures in
    sent_step c.loop-raw.invariant step

pub returns-in_err-take-clause-err : goal.returns-in_err-take-clause-err
returns-in_err-take-clause-err g c = at_error c.from_residual.result (sent_none g.met.S.ByteSink.joins c.loop-raw.invariant c.in_err-take.ensures.err)

pub returns-in_err-send_param-clause-err : goal.returns-in_err-send_param-clause-err
returns-in_err-send_param-clause-err g c =
    let joins = g.met.S.ByteSink.joins in
    let step = at_signed c.loop-raw.separator.now c.args.items.now c.loop-raw.raw-index _ c.loop-raw-test.true c.if-is_signature.ensures in
    let front = sent_more joins c.loop-raw.invariant step c.in_ok-take.ensures.ok in
    at_error c.from_residual-in_err-send_param.result (sent_part _ joins front refl c.in_err-send_param.ensures.err)

pub returns-clause-ok : goal.returns-clause-ok
returns-clause-ok g c =
    sent_all c.loop-raw.invariant
    (at_drop_all (λ (rest : List RawParam). joined_behind c.loop-raw.separator.now 38 (texts rest)) c.args.items.now c.loop-raw.raw-index c.loop-raw-test.false
    ∙ joined_behind-nil c.loop-raw.separator.now 38)

pub returns-in_err-send_param-clause-sure : goal.returns-in_err-send_param-clause-sure
returns-in_err-send_param-clause-sure g c = grind arith
