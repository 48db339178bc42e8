use Rattle.std.proofs.Common.{arith}
use Rattle.wire.specs.Framing.{nothing, given}
use Rattle.wire.specs.Judging.{by_coding, by_form, by_size}
use Rattle.wire.proofs.Announced.{no_single, no_form, different}
use Rattle.wire.proofs.announce.body_of.Goals as goal

pub returns-then-has_field-clause-err : goal.returns-then-has_field-clause-err
returns-then-has_field-clause-err c = by_coding (λ e. different _ c.if-has_field.true (c.has_field.ensures.1 e))

pub returns-then-not-has_field-clause-ok : goal.returns-then-not-has_field-clause-ok
returns-then-not-has_field-clause-ok c = (omega arith, (c.has_field.ensures.0 c.if-has_field.false), nothing (c.has_field-2.ensures.0 c.if-not-has_field.true))

pub returns-then-length-gt-MOST_BODY-clause-err : goal.returns-then-length-gt-MOST_BODY-clause-err
returns-then-length-gt-MOST_BODY-clause-err c = by_size c.in-Some-length_of.length (c.has_field.ensures.0 c.if-has_field.false) (given _ c.in-Some-length_of.length c.in-Some.ensures.some c.in-Some-length_of.ensures.some) c.if-length-gt-MOST_BODY.true

pub returns-else-length-gt-MOST_BODY-clause-ok : goal.returns-else-length-gt-MOST_BODY-clause-ok
returns-else-length-gt-MOST_BODY-clause-ok c = (c.if-length-gt-MOST_BODY.false, c.has_field.ensures.0 c.if-has_field.false, given _ c.in-Some-length_of.length c.in-Some.ensures.some c.in-Some-length_of.ensures.some)

pub returns-in-None-length_of-clause-err : goal.returns-in-None-length_of-clause-err
returns-in-None-length_of-clause-err c = by_form (c.has_field.ensures.0 c.if-has_field.false) (no_form _ _ c.in-Some.ensures.some c.in-None-length_of.ensures.none)

pub returns-in-None-clause-err : goal.returns-in-None-clause-err
returns-in-None-clause-err c = by_form (c.has_field.ensures.0 c.if-has_field.false) (no_single _ (λ e. different _ c.if-not-has_field.false (c.has_field-2.ensures.1 e)) c.in-None.ensures.none)
