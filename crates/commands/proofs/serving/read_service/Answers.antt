use Rattle.std.proofs.Common.{arith}
use Rattle.commands.proofs.serving.read_service.Goals as goal

pub fact_in-result : goal.fact_in-result
fact_in-result c = grind arith

pub fact_in-result-2 : goal.fact_in-result-2
fact_in-result-2 c = grind arith

pub parse-requires-2-text-self : goal.parse-requires-2-text-self
parse-requires-2-text-self c = grind arith

pub parse-requires-3-text-self : goal.parse-requires-3-text-self
parse-requires-3-text-self c = grind arith

pub returns : goal.returns
returns c = grind arith
