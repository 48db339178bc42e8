use Rattle.std.proofs.Common.{arith, ap, length}
use Rattle.std.proofs.lemmas.Grind.{common_steps}
use Rattle.links.proofs.desk.values.read_minute.Goals as goal

pub returns-in_default-clause-some : goal.returns-in_default-clause-some
returns-in_default-clause-some c = tt

pub returns-in_default-clause-bound : goal.returns-in_default-clause-bound
returns-in_default-clause-bound c = tt

pub returns-in_default-clause-none : goal.returns-in_default-clause-none
returns-in_default-clause-none c = λ m small is. omega (arith, ap length is, c.in_default.len_below)

pub returns-in_default-2-clause-some : goal.returns-in_default-2-clause-some
returns-in_default-2-clause-some c = tt

pub returns-in_default-2-clause-bound : goal.returns-in_default-2-clause-bound
returns-in_default-2-clause-bound c = tt

pub returns-in_default-2-clause-none : goal.returns-in_default-2-clause-none
returns-in_default-2-clause-none c = λ m small is. omega (arith, ap length is, c.in_default.len_at_least)

pub returns-in_err-hours-clause-some : goal.returns-in_err-hours-clause-some
returns-in_err-hours-clause-some c = rw c.from_residual.ensures tt

pub returns-in_err-hours-clause-bound : goal.returns-in_err-hours-clause-bound
returns-in_err-hours-clause-bound c = rw c.from_residual.ensures tt

pub returns-in_err-minutes-clause-some : goal.returns-in_err-minutes-clause-some
returns-in_err-minutes-clause-some c = rw c.from_residual-in_err-minutes.ensures tt

pub returns-in_err-minutes-clause-bound : goal.returns-in_err-minutes-clause-bound
returns-in_err-minutes-clause-bound c = rw c.from_residual-in_err-minutes.ensures tt

pub bounds-word-1 : goal.bounds-word-1
bounds-word-1 c = grind arith

pub bounds-word-2 : goal.bounds-word-2
bounds-word-2 c = grind arith

pub bounds-word-3 : goal.bounds-word-3
bounds-word-3 c = grind arith

pub overflow_add-result : goal.overflow_add-result
overflow_add-result c = grind arith

pub overflow_mul-result : goal.overflow_mul-result
overflow_mul-result c = grind arith

pub returns-else-minutes-lt60-clause-none : goal.returns-else-minutes-lt60-clause-none
returns-else-minutes-lt60-clause-none c = grind arith

pub returns-in_err-hours-clause-none : goal.returns-in_err-hours-clause-none
returns-in_err-hours-clause-none c = grind arith

pub returns-in_err-minutes-clause-none : goal.returns-in_err-minutes-clause-none
returns-in_err-minutes-clause-none c = grind arith

pub returns-then-minutes-lt60-clause-bound : goal.returns-then-minutes-lt60-clause-bound
returns-then-minutes-lt60-clause-bound c = grind arith

pub returns-then-minutes-lt60-clause-some : goal.returns-then-minutes-lt60-clause-some
returns-then-minutes-lt60-clause-some c = grind (arith, common_steps)
