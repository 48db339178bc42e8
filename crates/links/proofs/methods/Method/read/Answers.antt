use Rattle.std.proofs.Common.{arith}
use Rattle.std.proofs.lemmas.Grind.{common_steps}
use Rattle.links.proofs.methods.Method.read.Goals as goal

pub bounds-text-0 : goal.bounds-text-0
bounds-text-0 c = grind arith

pub bounds-text-0-then-text-lt5 : goal.bounds-text-0-then-text-lt5
bounds-text-0-then-text-lt5 c = grind arith

pub bounds-text-1 : goal.bounds-text-1
bounds-text-1 c = grind arith

pub bounds-text-1-in-71-1 : goal.bounds-text-1-in-71-1
bounds-text-1-in-71-1 c = grind arith

pub bounds-text-1-in-72-1 : goal.bounds-text-1-in-72-1
bounds-text-1-in-72-1 c = grind arith

pub bounds-text-1-in-80-text-6 : goal.bounds-text-1-in-80-text-6
bounds-text-1-in-80-text-6 c = grind arith

pub bounds-text-2 : goal.bounds-text-2
bounds-text-2 c = grind arith

pub bounds-text-2-in-69-1 : goal.bounds-text-2-in-69-1
bounds-text-2-in-69-1 c = grind arith

pub bounds-text-2-in-69-text-7 : goal.bounds-text-2-in-69-text-7
bounds-text-2-in-69-text-7 c = grind arith

pub bounds-text-2-in-79-1 : goal.bounds-text-2-in-79-1
bounds-text-2-in-79-1 c = grind arith

pub bounds-text-3 : goal.bounds-text-3
bounds-text-3 c = grind arith

pub bounds-text-3-in-83-1 : goal.bounds-text-3-in-83-1
bounds-text-3-in-83-1 c = grind arith

pub returns-in-GET-clause-some : goal.returns-in-GET-clause-some
returns-in-GET-clause-some c = grind (arith, common_steps)

pub returns-in-HEAD-clause-some : goal.returns-in-HEAD-clause-some
returns-in-HEAD-clause-some c = grind (arith, common_steps)

pub returns-in-POST-clause-some : goal.returns-in-POST-clause-some
returns-in-POST-clause-some c = grind (arith, common_steps)

pub returns-in-PUT-clause-some : goal.returns-in-PUT-clause-some
returns-in-PUT-clause-some c = grind (arith, common_steps)
