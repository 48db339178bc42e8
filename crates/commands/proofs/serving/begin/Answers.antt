use Rattle.std.proofs.Common.{refl, arith}
use Rattle.commands.proofs.serving.begin.Goals as goal

pub returns-in_default-clause-idle : goal.returns-in_default-clause-idle
returns-in_default-clause-idle g c = rw c.unserved.ensures.ending refl

pub returns-in_default-clock-clause-idle : goal.returns-in_default-clock-clause-idle
returns-in_default-clock-clause-idle g c = rw c.unserved-in_default-clock.ensures.ending refl

pub returns-in-Err-clause-idle : goal.returns-in-Err-clause-idle
returns-in-Err-clause-idle g c = rw c.unserved-in-Err.ensures.ending c.in-Err.ensures.same

pub returns-then-is_err-clause-idle : goal.returns-then-is_err-clause-idle
returns-then-is_err-clause-idle g c = rw c.unserved-then-is_err.ensures.ending c.in-Ok-listen.ensures.listens

pub clock-requires-text-file : goal.clock-requires-text-file
clock-requires-text-file g c = grind arith

pub returns-clause-begins : goal.returns-clause-begins
returns-clause-begins g c = grind arith

pub returns-in-Err-clause-failed : goal.returns-in-Err-clause-failed
returns-in-Err-clause-failed g c = grind arith

pub returns-in_default-clause-failed : goal.returns-in_default-clause-failed
returns-in_default-clause-failed g c = grind arith

pub returns-in_default-clock-clause-failed : goal.returns-in_default-clock-clause-failed
returns-in_default-clock-clause-failed g c = grind arith

pub returns-then-is_err-clause-failed : goal.returns-then-is_err-clause-failed
returns-then-is_err-clause-failed g c = grind arith
