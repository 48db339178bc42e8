use Rattle.std.proofs.Common.{sym, ◌∙◌}
use Rattle.sigtext.specs.Bytes.{same_bytes}
use Rattle.sigtext.specs.SignedHeaders.{lower_case}
use Rattle.sigtext.proofs.Tested.{any_later, any_found, any_none}
use Rattle.sigtext.proofs.ValuesNamed.{any_signed}
use Rattle.sigtext.proofs.values.has_name.Goals as goal

pub loop-field-init : goal.loop-field-init
loop-field-init c = any_signed c.args.name.now c.args.fields.now

pub loop-field-preserved : goal.loop-field-preserved
loop-field-preserved c =
    any_later (λ f. same_bytes (lower_case f.name.now) (lower_case c.args.name.now)) c.args.fields.now c.loop-field.field-index _ c.loop-field-test.true (sym c.is_same_name.ensures ∙ c.if-is_same_name.false) c.loop-field.invariant

pub returns-then-is_same_name : goal.returns-then-is_same_name
returns-then-is_same_name c =
    any_found (λ f. same_bytes (lower_case f.name.now) (lower_case c.args.name.now)) c.args.fields.now c.loop-field.field-index _ c.loop-field-test.true (sym c.is_same_name.ensures ∙ c.if-is_same_name.true) c.loop-field.invariant

pub returns : goal.returns
returns c = any_none (λ f. same_bytes (lower_case f.name.now) (lower_case c.args.name.now)) c.args.fields.now c.loop-field.field-index c.loop-field-test.false c.loop-field.invariant
