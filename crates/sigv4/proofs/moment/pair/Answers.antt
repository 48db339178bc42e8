use Rattle.std.proofs.Common.{arith}
use Rattle.sigv4.proofs.moment.pair.Goals as goal

pub overflow_add-result : goal.overflow_add-result
overflow_add-result c = grind arith

pub overflow_mul-result : goal.overflow_mul-result
overflow_mul-result c = grind arith

pub overflow_sub-result : goal.overflow_sub-result
overflow_sub-result c = grind arith

pub overflow_sub-result-then-is_ascii_digit-2 : goal.overflow_sub-result-then-is_ascii_digit-2
overflow_sub-result-then-is_ascii_digit-2 c = grind arith

pub returns-else-is_ascii_digit-clause-absent : goal.returns-else-is_ascii_digit-clause-absent
returns-else-is_ascii_digit-clause-absent c = grind arith

pub returns-then-is_ascii_digit-2-clause-found : goal.returns-then-is_ascii_digit-2-clause-found
returns-then-is_ascii_digit-2-clause-found c = grind arith
