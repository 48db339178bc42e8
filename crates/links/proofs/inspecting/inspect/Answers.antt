use Rattle.std.proofs.Common.{◌≡◌, ◌≢◌, ℕ, List, map, refl, sym, subst, ◌∙◌, arith}
use Rattle.sigtext.specs.declared.refusal.Refusal.TheVariants.{TryAgain}
use Rattle.sigtext.specs.declared.refusal.Refusal.TheVariants as rule
use Rattle.sigtext.specs.Fields.{header_of}
use Rattle.sigtext.specs.Request.{Request}
use Rattle.sigtext.specs.Rules.{IsFirstToFail, AllHold}
use Rattle.sigtext.specs.SignedHeaders.{Header}
use Rattle.sigtext.specs.SignedNames.{AreSignedNames}
use Rattle.sigtext.specs.SignedValues.{ValueRule}
use Rattle.sigtext.specs.Signing.{values_of}
use Rattle.links.specs.LinkReadings.{IsAskedBy}
use Rattle.sigtext.specs.Target.{Param, IsTargetOf}
use Rattle.links.specs.Forms.{IsHexDigest}
use Rattle.links.specs.SixValues.{SixRule, texts_of}
use Rattle.sigtext.specs.Readable.{HaveNames}
use Rattle.links.proofs.CredentialCuts.{scope_fits}
use Rattle.links.proofs.Texts.{clash}
use Rattle.links.proofs.SixForms.{names_fail, signature_fails, with_names, all_hold}
use Rattle.links.proofs.LinkRules.{Heads, parts_of, well_formed}
use Rattle.links.proofs.Inspected.{carried, has_six, names_of, right_names, wrong_names, wrong_values, wrong_headers}
use Rattle.links.proofs.inspecting.inspect.Goals as goal

pub returns-in_err-params-clause-err : goal.returns-in_err-params-clause-err
returns-in_err-params-clause-err c =
    carried (λ q. (q ≢ TryAgain) → (r : Request) → IsAskedBy c.args.method c.args.target.now (map header_of c.args.fields.now) r → IsFirstToFail (Heads r) q)
    c.from_residual.result c.in_err-params.field-0.0 c.from_residual.ensures.1
    (λ other r asked. wrong_names _ _ _ r asked c.in_err-params.field-0.0 (c.in_err-params.ensures.err other))

pub returns-in_err-window-clause-err : goal.returns-in_err-window-clause-err
returns-in_err-window-clause-err c =
    carried (λ q. (q ≢ TryAgain) → (r : Request) → IsAskedBy c.args.method c.args.target.now (map header_of c.args.fields.now) r → IsFirstToFail (Heads r) q)
    c.from_residual-in_err-window.result c.in_err-window.field-0.0 c.from_residual-in_err-window.ensures.1
    (λ other r asked. wrong_values _ _ _ r asked c.in_ok-params.params (texts_of c.in_ok-params.six) c.in_err-window.field-0.0 c.in_ok-params.ensures.ok c.in_err-window.ensures.err)

pub returns-in_err-names-clause-err : goal.returns-in_err-names-clause-err
returns-in_err-names-clause-err c =
    let six = texts_of c.in_ok-params.six in
    let (sp, long, start, expires, held) = c.in_ok-window.ensures.ok in
    let e = c.in_err-names.ensures.err in
    let first = names_fail six sp held (λ names are. e.1 names (subst (λ (t : List ℕ). AreSignedNames t names) (sym c.names.ensures) are)) in
    carried (λ q. (q ≢ TryAgain) → (r : Request) → IsAskedBy c.args.method c.args.target.now (map header_of c.args.fields.now) r → IsFirstToFail (Heads r) q)
    c.from_residual-in_err-names.result c.in_err-names.field-0.0 c.from_residual-in_err-names.ensures.1
    (λ other r asked. wrong_values _ _ _ r asked c.in_ok-params.params six c.in_err-names.field-0.0 c.in_ok-params.ensures.ok (subst (IsFirstToFail (SixRule six)) (sym e.0) first))

pub returns-then-not-is_hex_digest-clause-err : goal.returns-then-not-is_hex_digest-clause-err
returns-then-not-is_hex_digest-clause-err c other r asked =
    let six = texts_of c.in_ok-params.six in
    let (sp, long, start, expires, held) = c.in_ok-window.ensures.ok in
    let found = c.in_ok-names.ensures.ok.1 in
    let are = subst (λ (t : List ℕ). AreSignedNames t found.0) c.names.ensures found.1 in
    wrong_values _ _ _ r asked c.in_ok-params.params six _ c.in_ok-params.ensures.ok
    (signature_fails six sp found.0 held are (λ is. clash c.is_hex_digest.result c.if-not-is_hex_digest.true (c.is_hex_digest.ensures.1 (subst IsHexDigest (sym c.signature.ensures) is))))

pub returns-in_err-values-clause-err : goal.returns-in_err-values-clause-err
returns-in_err-values-clause-err c =
    let (before, long, start, expires, held) = c.in_ok-window.ensures.ok in
    let (same, (names, read)) = c.in_ok-names.ensures.ok in
    let sp = with_names before names in
    let are = subst (λ (t : List ℕ). AreSignedNames t names) (sym same) read in
    let digits = subst IsHexDigest c.signature.ensures (c.is_hex_digest.ensures.0 c.if-not-is_hex_digest.false) in
    let all = all_hold (texts_of c.in_ok-params.six) before names held (subst (λ (t : List ℕ). AreSignedNames t names) c.names.ensures read) digits in
    carried (λ q. (q ≢ TryAgain) → (r : Request) → IsAskedBy c.args.method c.args.target.now (map header_of c.args.fields.now) r → IsFirstToFail (Heads r) q)
    c.from_residual-in_err-values.result c.in_err-values.field-0.0 c.from_residual-in_err-values.ensures.1
    (λ other r asked. wrong_headers _ _ _ r asked c.in_ok-params.params (texts_of c.in_ok-params.six) sp c.in_err-values.field-0.0 c.in_ok-params.ensures.ok all (c.in_err-values.ensures.err sp.names are other))

pub returns-clause-ok : goal.returns-clause-ok
returns-clause-ok c r asked =
    let (before, long, start, expires, held) = c.in_ok-window.ensures.ok in
    let (same, (names, read)) = c.in_ok-names.ensures.ok in
    let sp = with_names before names in
    let are = subst (λ (t : List ℕ). AreSignedNames t names) (sym same) read in
    let digits = subst IsHexDigest c.signature.ensures (c.is_hex_digest.ensures.0 c.if-not-is_hex_digest.false) in
    let all = all_hold (texts_of c.in_ok-params.six) before names held (subst (λ (t : List ℕ). AreSignedNames t names) c.names.ensures read) digits in
    let six = texts_of c.in_ok-params.six in
    let k = has_six _ _ _ r asked c.in_ok-params.params six c.in_ok-params.ensures.ok in
    let signed = values_of c.in_ok-values.values in
    let values = subst (λ (hs : List Header). AllHold (ValueRule hs sp.names) signed) (sym asked.headers_are) (c.in_ok-values.ensures.ok sp.names are) in (
      parts_of asked.read.read.path asked.read.read.params six sp signed,
      record {
        signed = record {
          method = asked.method_is ∙ sym c.text.ensures;
          path = asked.read.read.spelled.path_spelled;
          params = k.right.holds;
          headers = refl;
        };
        credential = all rule.Credential;
        key_id_length = long;
        date = refl;
        start = start;
        expires = expires;
        signature = refl;
        well_formed = well_formed r asked.read.read.path asked.read.read.params c.in_ok-params.params six sp signed k all values;
      },
    )

pub returns-in_err-params-clause-named : goal.returns-in_err-params-clause-named
returns-in_err-params-clause-named c =
    carried (λ q. q ≡ TryAgain → (r : Request) → IsAskedBy c.args.method c.args.target.now (map header_of c.args.fields.now) r → (path : List ℕ) (params : List Param) → IsTargetOf r.target path params → HaveNames params)
    c.from_residual.result c.in_err-params.field-0.0 c.from_residual.ensures.1
    (λ is r asked. names_of _ _ _ r asked (c.in_err-params.ensures.named is))

pub returns-in_err-window-clause-named : goal.returns-in_err-window-clause-named
returns-in_err-window-clause-named c =
    carried (λ q. q ≡ TryAgain → (r : Request) → IsAskedBy c.args.method c.args.target.now (map header_of c.args.fields.now) r → (path : List ℕ) (params : List Param) → IsTargetOf r.target path params → HaveNames params)
    c.from_residual-in_err-window.result c.in_err-window.field-0.0 c.from_residual-in_err-window.ensures.1
    (λ is r asked. names_of _ _ _ r asked (right_names c.args.target.now c.in_ok-params.params (texts_of c.in_ok-params.six) c.in_ok-params.ensures.ok))

pub returns-in_err-values-clause-named : goal.returns-in_err-values-clause-named
returns-in_err-values-clause-named c =
    carried (λ q. q ≡ TryAgain → (r : Request) → IsAskedBy c.args.method c.args.target.now (map header_of c.args.fields.now) r → (path : List ℕ) (params : List Param) → IsTargetOf r.target path params → HaveNames params)
    c.from_residual-in_err-values.result c.in_err-values.field-0.0 c.from_residual-in_err-values.ensures.1
    (λ is r asked. names_of _ _ _ r asked (right_names c.args.target.now c.in_ok-params.params (texts_of c.in_ok-params.six) c.in_ok-params.ensures.ok))

pub returns-in_err-names-clause-named : goal.returns-in_err-names-clause-named
returns-in_err-names-clause-named c =
    carried (λ q. q ≡ TryAgain → (r : Request) → IsAskedBy c.args.method c.args.target.now (map header_of c.args.fields.now) r → (path : List ℕ) (params : List Param) → IsTargetOf r.target path params → HaveNames params)
    c.from_residual-in_err-names.result c.in_err-names.field-0.0 c.from_residual-in_err-names.ensures.1
    (λ is r asked. names_of _ _ _ r asked (right_names c.args.target.now c.in_ok-params.params (texts_of c.in_ok-params.six) c.in_ok-params.ensures.ok))

pub invariant_of-result : goal.invariant_of-result
invariant_of-result c =
    let (before, long, start, expires, held) = c.in_ok-window.ensures.ok in
    record { scope_fits = scope_fits _ _ before.key_id before.scope _ held.credential long }

pub returns-then-not-is_hex_digest-clause-named : goal.returns-then-not-is_hex_digest-clause-named
returns-then-not-is_hex_digest-clause-named c = grind arith
