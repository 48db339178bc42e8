use Rattle.std.proofs.Common.{inl, inr, refl}
use Rattle.office.proofs.KeeperCalls.{quiet_answered, quiet_failed}
use Rattle.office.proofs.office.Office.let_go.Goals as goal

pub returns-in-Err-clause-gives : goal.returns-in-Err-clause-gives
returns-in-Err-clause-gives g c other = absurd (other refl)

pub returns-in-Ok-clause-unstaged : goal.returns-in-Ok-clause-unstaged
returns-in-Ok-clause-unstaged g c = inl c.in-Ok.ensures.empty

pub returns-in-Err-clause-unstaged : goal.returns-in-Err-clause-unstaged
returns-in-Err-clause-unstaged g c = inr c.in-Err.ensures.rest.count.err

pub returns-in-Ok-clause-quiet : goal.returns-in-Ok-clause-quiet
returns-in-Ok-clause-quiet g c = quiet_answered c.in-Ok.ensures.rest

pub returns-in-Err-clause-quiet : goal.returns-in-Err-clause-quiet
returns-in-Err-clause-quiet g c = quiet_failed c.in-Err.ensures.rest refl
