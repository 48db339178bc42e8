use Rattle.std.proofs.Common.{arith}
use Rattle.std.proofs.lemmas.Grind.{common_steps}
use Rattle.sigtext.proofs.sink.VecU8ByteSink.take.Goals as goal

pub returns-clause-err : goal.returns-clause-err
returns-clause-err c = grind (arith, common_steps)
