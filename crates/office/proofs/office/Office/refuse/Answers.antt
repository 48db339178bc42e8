use Rattle.links.proofs.Texts.{clash}
use Rattle.std.proofs.Common.{inl, inr}
use Rattle.office.proofs.KeeperCalls.{quiet_still}
use Rattle.office.proofs.office.Office.refuse.Goals as goal

pub returns-then-upload-clause-unstaged : goal.returns-then-upload-clause-unstaged
returns-then-upload-clause-unstaged g c = λ _. c.let_go.ensures.unstaged

pub returns-else-upload-clause-unstaged : goal.returns-else-upload-clause-unstaged
returns-else-upload-clause-unstaged g c (inl up) = absurd (clash c.args.upload c.if-upload.false up)
returns-else-upload-clause-unstaged g c (inr none) = inl none

pub returns-then-upload-clause-quiet : goal.returns-then-upload-clause-quiet
returns-then-upload-clause-quiet g c = c.let_go.ensures.quiet

pub returns-else-upload-clause-quiet : goal.returns-else-upload-clause-quiet
returns-else-upload-clause-quiet g c = quiet_still
