use Rattle.std.proofs.Common.{map, arith}
use Rattle.sigtext.specs.Fields.{header_of}
use Rattle.sigtext.specs.SignedHeaders.{lower_case}
use Rattle.sigtext.proofs.ValuesNamed.{has_the_name}
use Rattle.sigtext.proofs.values.signed_field.Goals as goal

pub returns-clause-some : goal.returns-clause-some
returns-clause-some c = (
  has_the_name (lower_case c.args.name.now) (map header_of c.args.fields.now) (header_of c.in_ok-field.field) c.in_ok-field.ensures.some,
  (header_of c.in_ok-field.field, c.in_ok-field.ensures.some, c.trim_blanks-value.ensures),
  c.is_fit_value.ensures.0 c.if-not-is_fit_value.false,
)

pub returns-in_err-field-clause-none : goal.returns-in_err-field-clause-none
returns-in_err-field-clause-none c = grind arith

pub returns-in_err-field-clause-some : goal.returns-in_err-field-clause-some
returns-in_err-field-clause-some c = grind arith

pub returns-then-not-is_fit_value-clause-none : goal.returns-then-not-is_fit_value-clause-none
returns-then-not-is_fit_value-clause-none c = grind arith
