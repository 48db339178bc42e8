use Rattle.std.proofs.Common.{◌≡◌, ℕ, ◌+◌, ◌<◌, List, [], ◌∷◌, ◌++◌, length, get_or, drop, map, refl, ap, ◌∙◌, append_assoc, codes, arith}
use Rattle.std.proofs.lemmas.List.{at_drop_more, at_drop_all}
use Rattle.std.proofs.lemmas.Result.{on_ok_weaker, on_err_weaker}
use Rattle.sigtext.specs.declared.field.Field.{Field}
use Rattle.sigtext.specs.SignedHeaders.{lower_case}
use Rattle.sigtext.specs.Signing.{signed_header}
use Rattle.sigtext.proofs.JoinedTexts.{joined_behind, joined_behind-nil, joined_behind-cons, joined_behind-nothing}
use Rattle.sigtext.proofs.Sent.{sent_nothing, sent_more, sent_step, sent_last, sent_part, sent_none, at_error}
use Rattle.sigtext.proofs.canonical.send_names.Goals as goal

-- the names of the headers of these fields
abbrev names : List Field → List (List ℕ)
names fields = map (λ s. s.name) (map signed_header fields)

-- the last line, with the line feed before it
abbrev last : List ℕ
last = codes "\nUNSIGNED-PAYLOAD"

-- the rest at a field
at_field : (front : List ℕ) (fields : List Field) (i : ℕ) (d : Field) → i < length fields
    → joined_behind front 59 (names (drop i fields)) ++ last ≡ front ++ (lower_case (get_or fields i d).name.now ++ (joined_behind (59 ∷ []) 59 (names (drop (i + 1) fields)) ++ last))
at_field front fields i d within =
    let name = lower_case (get_or fields i d).name.now in
    let later = joined_behind (59 ∷ []) 59 (names (drop (i + 1) fields)) in
    ap (λ (t : List ℕ). t ++ last) (at_drop_more (λ (rest : List Field). joined_behind front 59 (names rest)) fields i d within ∙ joined_behind-cons front 59 name (names (drop (i + 1) fields)))
    ∙ append_assoc front (name ++ later) last ∙ ap (λ (t : List ℕ). front ++ t) (append_assoc name later last)

pub loop-field-init : goal.loop-field-init
loop-field-init g c = sent_nothing (ap (λ (t : List ℕ). t ++ last) (joined_behind-nothing 59 (names c.args.fields.now))) (g.met.S.ByteSink.nothing c.args.sink.now)

pub returns-in_err-take-clause-err : goal.returns-in_err-take-clause-err
returns-in_err-take-clause-err g c = at_error c.from_residual.result (sent_none g.met.S.ByteSink.joins c.loop-field.invariant c.in_err-take.ensures.err)

pub returns-in_err-send_lower_case-clause-err : goal.returns-in_err-send_lower_case-clause-err
returns-in_err-send_lower_case-clause-err g c =
    let joins = g.met.S.ByteSink.joins in
    let step = at_field c.loop-field.separator.now c.args.fields.now c.loop-field.field-index _ c.loop-field-test.true in
    let front = sent_more joins c.loop-field.invariant step c.in_ok-take.ensures.ok in
    at_error c.from_residual-in_err-send_lower_case.result (sent_part _ joins front refl c.in_err-send_lower_case.ensures.err)

pub loop-field-preserved : goal.loop-field-preserved
loop-field-preserved g c =
    let joins = g.met.S.ByteSink.joins in
    let step = at_field c.loop-field.separator.now c.args.fields.now c.loop-field.field-index _ c.loop-field-test.true in
    let front = sent_more joins c.loop-field.invariant step c.in_ok-take.ensures.ok in
    sent_more joins front refl c.in_ok-send_lower_case.ensures.ok

pub returns-clause-err : goal.returns-clause-err
returns-clause-err g c =
    on_err_weaker c.take-2.result (λ h. sent_none g.met.S.ByteSink.joins c.loop-field.invariant h) c.take-2.ensures.err

pub returns-clause-ok : goal.returns-clause-ok
returns-clause-ok g c =
    let fields = c.args.fields.now in
    let separator = c.loop-field.separator.now in
    let none = at_drop_all (λ (rest : List Field). joined_behind separator 59 (names rest)) fields c.loop-field.field-index c.loop-field-test.false ∙ joined_behind-nil separator 59 in
    let ends = sent_step c.loop-field.invariant (ap (λ (t : List ℕ). t ++ last) none) in
    on_ok_weaker c.take-2.result (λ h. sent_last g.met.S.ByteSink.joins ends h) c.take-2.ensures.ok

pub returns-in_err-send_lower_case-clause-sure : goal.returns-in_err-send_lower_case-clause-sure
returns-in_err-send_lower_case-clause-sure g c = grind arith
