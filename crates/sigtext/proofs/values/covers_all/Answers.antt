use Rattle.std.proofs.Common.{map, sym, ◌∙◌}
use Rattle.std.proofs.lemmas.List.Folds.{list_all-map}
use Rattle.sigtext.specs.Fields.{header_of}
use Rattle.sigtext.specs.SignedValues.{is_covered}
use Rattle.sigtext.specs.Signing.{signed_header}
use Rattle.sigtext.proofs.Tested.{all_later, all_broken, all_passed}
use Rattle.sigtext.proofs.ValuesNamed.{counted, spared}
use Rattle.sigtext.proofs.values.covers_all.Goals as goal
use Rattle.sigtext.proofs.values.covers_all.Goals.{else-is_amz_name-via-then-is_amz_name+else-not-has_name, else-is_amz_name-via-else-is_amz_name}

pub loop-field-init : goal.loop-field-init
loop-field-init c = sym (list_all-map (is_covered (map signed_header c.args.signed.now)) header_of c.args.fields.now)

pub loop-field-preserved : goal.loop-field-preserved
loop-field-preserved c =
    all_later (λ f. is_covered (map signed_header c.args.signed.now) (header_of f)) c.args.fields.now c.loop-field.field-index _ c.loop-field-test.true
    (elim c.else-is_amz_name.branch [
      | else-is_amz_name-via-then-is_amz_name+else-not-has_name w ↦ sym (counted _ _ _ (sym c.is_amz_name.ensures ∙ w.if-is_amz_name.true) (sym w.if-not-has_name.false ∙ w.has_name.ensures))
      | else-is_amz_name-via-else-is_amz_name w ↦ spared _ _ (sym c.is_amz_name.ensures ∙ w.if-is_amz_name.false)
    ])
    c.loop-field.invariant

pub returns-then-not-has_name : goal.returns-then-not-has_name
returns-then-not-has_name c =
    all_broken (λ f. is_covered (map signed_header c.args.signed.now) (header_of f)) c.args.fields.now c.loop-field.field-index _ c.loop-field-test.true
    (sym (counted _ _ _ (sym c.is_amz_name.ensures ∙ c.if-is_amz_name.true) (sym c.if-not-has_name.true ∙ c.has_name.ensures)))
    c.loop-field.invariant

pub returns : goal.returns
returns c = all_passed (λ f. is_covered (map signed_header c.args.signed.now) (header_of f)) c.args.fields.now c.loop-field.field-index c.loop-field-test.false c.loop-field.invariant
