use Rattle.std.proofs.Common.{inl, inr, refl}
use Rattle.office.proofs.KeeperCalls.{quiet_less}
use Rattle.office.proofs.office.Office.refuse_lacking.Goals as goal

pub returns-in-Ok-clause-ends : goal.returns-in-Ok-clause-ends
returns-in-Ok-clause-ends g c = c.drop_staged.ensures.ends

pub returns-in-Ok-clause-stays : goal.returns-in-Ok-clause-stays
returns-in-Ok-clause-stays g c = c.drop_staged.ensures.stays

pub returns-in-Err-clause-ends : goal.returns-in-Err-clause-ends
returns-in-Err-clause-ends g c = c.drop_staged.ensures.ends

pub returns-in-Err-clause-stays : goal.returns-in-Err-clause-stays
returns-in-Err-clause-stays g c = c.drop_staged.ensures.stays

pub returns-in-Ok-clause-left_off : goal.returns-in-Ok-clause-left_off
returns-in-Ok-clause-left_off g c = inl (refl, c.in-Ok.ensures.quiet.rest)

pub returns-in-Err-clause-left_off : goal.returns-in-Err-clause-left_off
returns-in-Err-clause-left_off g c = inr (refl, c.in-Err.ensures.asked)

pub returns-in-Ok-clause-quiet : goal.returns-in-Ok-clause-quiet
returns-in-Ok-clause-quiet g c = quiet_less (λ is. absurd is) c.in-Ok.ensures.quiet

pub returns-in-Err-clause-quiet : goal.returns-in-Err-clause-quiet
returns-in-Err-clause-quiet g c = quiet_less (λ _. refl) c.in-Err.ensures.quiet
