use Rattle.std.proofs.Common.{◌≡◌, ℕ, true, false, List, map, sym, ap, subst, ◌∙◌}
use Rattle.std.proofs.lemmas.Result.{err_from_is_err_and}
use Rattle.std.specs.List.{list_all}
use Rattle.sigtext.specs.declared.field.Field.{Field}
use Rattle.sigtext.specs.Fields.{header_of}
use Rattle.sigtext.specs.Rules.{IsFirstToFail}
use Rattle.sigtext.specs.SignedNames.{AreSignedNames}
use Rattle.sigtext.specs.SignedValues.{is_covered, ValueRule}
use Rattle.sigtext.specs.Signing.{signed_header, values_of}
use Rattle.sigtext.proofs.ValuesNamed.{of_names, of_pieces, values_fail, cover_fails, both_hold}
use Rattle.sigtext.proofs.values.signed_values.Goals as goal

-- the names of a text that equals another
same_text : (text other : List ℕ) (names : List (List ℕ)) → text ≡ other → AreSignedNames other names → AreSignedNames text names
same_text text other names is h = subst (λ (t : List ℕ). AreSignedNames t names) (sym is) h

pub returns-in_err-values-clause-err : goal.returns-in_err-values-clause-err
returns-in_err-values-clause-err c =
    let p = err_from_is_err_and c.from_residual.result c.from_residual.ensures.1 in
    rw (p.1, p.2) (λ names are other.
    let headers = map header_of c.args.fields.now in
    let e = c.in_err-values.ensures.err other in
    subst (IsFirstToFail (ValueRule headers names)) (sym e.0)
    (values_fail headers names (λ signed values. e.1 signed (of_pieces _ names headers signed (same_text _ _ names c.text.ensures are) values))))

pub returns-then-not-covers_all-clause-err : goal.returns-then-not-covers_all-clause-err
returns-then-not-covers_all-clause-err c = λ names are other.
    let headers = map header_of c.args.fields.now in
    let signed = values_of c.in_ok-values.values in
    let bare : list_all (is_covered signed) headers ≡ false =
    sym (ap (λ (fs : List Field). list_all (is_covered (map signed_header fs)) headers) c.deref.ensures.value) ∙ sym c.covers_all.ensures ∙ c.if-not-covers_all.true in
    cover_fails headers names signed (of_names _ names headers signed (same_text _ _ names c.text.ensures are) c.in_ok-values.ensures.ok) bare

pub returns-clause-ok : goal.returns-clause-ok
returns-clause-ok c = λ names are.
    let headers = map header_of c.args.fields.now in
    let signed = values_of c.in_ok-values.values in
    let all : list_all (is_covered signed) headers ≡ true =
    sym (ap (λ (fs : List Field). list_all (is_covered (map signed_header fs)) headers) c.deref.ensures.value) ∙ sym c.covers_all.ensures ∙ c.if-not-covers_all.false in
    both_hold headers names signed (of_names _ names headers signed (same_text _ _ names c.text.ensures are) c.in_ok-values.ensures.ok) all
