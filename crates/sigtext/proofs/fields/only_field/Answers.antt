use Rattle.std.proofs.Common.{sym, ◌∙◌, arith}
use Rattle.std.proofs.lemmas.Grind.{common_steps}
use Rattle.sigtext.specs.SignedHeaders.{lower_case}
use Rattle.sigtext.proofs.NamedFields.{is_doubled}
use Rattle.sigtext.proofs.fields.only_field.Goals as goal

pub returns-then-is_some-clause-none : goal.returns-then-is_some-clause-none
returns-then-is_some-clause-none c =
    is_doubled (lower_case c.args.name.now) c.args.fields.now c.loop-field.field-index _ c.loop-field.found c.loop-field-test.true (sym c.is_same_name.ensures ∙ c.if-is_same_name.true)
    (sym c.is_some.ensures ∙ c.if-is_some.true) c.loop-field.invariant

pub loop-field-preserved : goal.loop-field-preserved
loop-field-preserved c = grind (arith, common_steps)

pub returns-clause-none : goal.returns-clause-none
returns-clause-none c = grind (arith, common_steps)

pub returns-clause-some : goal.returns-clause-some
returns-clause-some c = grind (arith, common_steps)
