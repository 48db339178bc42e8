use Rattle.std.proofs.Common.{inr, refl, arith}
use Rattle.std.proofs.lemmas.Bool.{both_ways}
use Rattle.sockets.proofs.gate.Gate+L+L+Stream.put_off.Goals as goal

pub returns-then-not-is_want-clause-told : goal.returns-then-not-is_want-clause-told
returns-then-not-is_want-clause-told g c = inr (refl, inr (λ want. both_ways c.is_want.result c.if-not-is_want.true (c.is_want.ensures.all want)), refl)

pub returns-clause-others : goal.returns-clause-others
returns-clause-others g c = grind arith

pub returns-clause-told : goal.returns-clause-told
returns-clause-told g c = grind arith

pub returns-in_default-clause-others : goal.returns-in_default-clause-others
returns-in_default-clause-others g c = grind arith

pub returns-in_default-clause-told : goal.returns-in_default-clause-told
returns-in_default-clause-told g c = grind arith

pub returns-then-not-is_want-clause-others : goal.returns-then-not-is_want-clause-others
returns-then-not-is_want-clause-others g c = grind arith
