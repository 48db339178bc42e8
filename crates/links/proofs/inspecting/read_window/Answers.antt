use Rattle.std.proofs.Common.{◌≡◌, ℕ, List, [], codes, sym, ◌∙◌, subst, refl}
use Rattle.sigtext.specs.Rules.{IsFirstToFail}
use Rattle.sigv4.specs.Signature.{CredentialScope}
use Rattle.sigv4.specs.Credential.{IsCredential}
use Rattle.sigv4.specs.Scopes.{scope_of}
use Rattle.sigv4.specs.Dates.{WritesMoment}
use Rattle.links.specs.Forms.{IsExpiry}
use Rattle.links.specs.SixValues.{SixRule, texts_of}
use Rattle.links.proofs.Texts.{texts_equal, texts_differ, not_true, not_false}
use Rattle.links.proofs.Inspected.{carried}
use Rattle.links.proofs.SixForms.{algorithm_fails, credential_fails, date_fails, expiry_fails}
use Rattle.links.proofs.inspecting.read_window.Goals as goal

moved : (a b c d id : List ℕ) (s : CredentialScope) → a ≡ c → b ≡ d → IsCredential a b id s → IsCredential c d id s
moved a b c d id s p q h = subst (λ (y : List ℕ). IsCredential c y id s) q (subst (λ (x : List ℕ). IsCredential x b id s) p h)

pub returns-then-ne-clause-err : goal.returns-then-ne-clause-err
returns-then-ne-clause-err c =
    algorithm_fails (texts_of c.args.six.now) (λ same. texts_differ _ _ (not_true _ (sym c.if-ne.true ∙ c.ne.ensures)) (c.algorithm.ensures ∙ same ∙ sym c.as_slice.ensures))

pub returns-in_err-scope-clause-err : goal.returns-in_err-scope-clause-err
returns-in_err-scope-clause-err c =
    let six = texts_of c.args.six.now in
    let a : six.algorithm ≡ codes "AWS4-HMAC-SHA256" = sym c.algorithm.ensures ∙ texts_equal _ _ (not_false _ (sym c.if-ne.false ∙ c.ne.ensures)) ∙ c.as_slice.ensures in
    let e = c.in_err-scope.ensures.err in
    carried (IsFirstToFail (SixRule six)) c.from_residual.result c.in_err-scope.field-0.0 c.from_residual.ensures.1 (subst (IsFirstToFail (SixRule six)) (sym e.0)
    (credential_fails six a (λ id s is. e.1 id s (moved _ _ _ _ id s (sym c.credential.ensures) (sym c.date.ensures) is))))

pub returns-in_default-clause-err : goal.returns-in_default-clause-err
returns-in_default-clause-err c =
    let six = texts_of c.args.six.now in
    let a : six.algorithm ≡ codes "AWS4-HMAC-SHA256" = sym c.algorithm.ensures ∙ texts_equal _ _ (not_false _ (sym c.if-ne.false ∙ c.ne.ensures)) ∙ c.as_slice.ensures in
    let cred = moved _ _ _ _ _ _ c.credential.ensures c.date.ensures c.in_ok-scope.ensures.ok in
    date_fails six c.in_ok-scope.scope.key_id.now (scope_of c.in_ok-scope.scope) a cred
    (λ m is. c.in_default.ensures.none m (subst (λ (t : List ℕ). WritesMoment t m) (sym c.date-2.ensures) is))

pub returns-in_default-read_expiry-clause-err : goal.returns-in_default-read_expiry-clause-err
returns-in_default-read_expiry-clause-err c =
    let six = texts_of c.args.six.now in
    let a : six.algorithm ≡ codes "AWS4-HMAC-SHA256" = sym c.algorithm.ensures ∙ texts_equal _ _ (not_false _ (sym c.if-ne.false ∙ c.ne.ensures)) ∙ c.as_slice.ensures in
    let cred = moved _ _ _ _ _ _ c.credential.ensures c.date.ensures c.in_ok-scope.ensures.ok in
    let date = subst (λ (t : List ℕ). WritesMoment t c.in-Some.start) c.date-2.ensures c.in-Some.ensures.some in
    expiry_fails six c.in_ok-scope.scope.key_id.now (scope_of c.in_ok-scope.scope) c.in-Some.start a cred date
    (λ n is. c.in_default-read_expiry.ensures.none n (subst (λ (t : List ℕ). IsExpiry t n) (sym c.expires.ensures) is))

pub returns-clause-ok : goal.returns-clause-ok
returns-clause-ok c =
    let six = texts_of c.args.six.now in
    let a : six.algorithm ≡ codes "AWS4-HMAC-SHA256" = sym c.algorithm.ensures ∙ texts_equal _ _ (not_false _ (sym c.if-ne.false ∙ c.ne.ensures)) ∙ c.as_slice.ensures in
    let cred = moved _ _ _ _ _ _ c.credential.ensures c.date.ensures c.in_ok-scope.ensures.ok in
    let date = subst (λ (t : List ℕ). WritesMoment t c.in-Some.start) c.date-2.ensures c.in-Some.ensures.some in
    let expiry = subst (λ (t : List ℕ). IsExpiry t c.in-Some-read_expiry.expires) c.expires.ensures c.in-Some-read_expiry.ensures.some in (
      record { key_id = c.in_ok-scope.scope.key_id.now; scope = scope_of c.in_ok-scope.scope; start = c.in-Some.start; expires = c.in-Some-read_expiry.expires; names = [] },
      refl,
      refl,
      refl,
      record { algorithm = a; credential = cred; date = date; expires = expiry },
    )
