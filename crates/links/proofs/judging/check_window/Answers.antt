use Rattle.std.proofs.Common.{arith}
use Rattle.links.proofs.judging.check_window.Goals as goal

pub returns-then-moment-seconds : goal.returns-then-moment-seconds
returns-then-moment-seconds c r p is = omega (arith, c.seconds-moment.ensures.value, c.seconds.ensures.value, c.seconds-start.ensures.value, is.start, c.if-moment-seconds.true)

pub returns-then-moment-saturating_add : goal.returns-then-moment-saturating_add
returns-then-moment-saturating_add c r p is = (
  omega (arith, c.seconds-moment.ensures.value, c.seconds.ensures.value, c.seconds-start.ensures.value, is.start, c.if-moment-seconds.false),
  omega (arith, c.seconds-moment.ensures.value, c.seconds.ensures.value, c.seconds-start.ensures.value, is.start, is.expires, c.if-moment-saturating_add.true),
)

pub returns : goal.returns
returns c r p is = (
  omega (arith, c.seconds-moment.ensures.value, c.seconds.ensures.value, c.seconds-start.ensures.value, is.start, c.if-moment-seconds.false),
  omega (arith, c.seconds-moment.ensures.value, c.seconds.ensures.value, c.seconds-start.ensures.value, is.start, is.expires, c.if-moment-saturating_add.false),
)
