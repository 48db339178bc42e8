use Rattle.std.proofs.Common.{arith}
use Rattle.commands.proofs.rounds.have_come.Goals as goal

pub returns-in-None-clause-all : goal.returns-in-None-clause-all
returns-in-None-clause-all c = grind arith

pub returns-in-Some-clause-told : goal.returns-in-Some-clause-told
returns-in-Some-clause-told c = grind arith
