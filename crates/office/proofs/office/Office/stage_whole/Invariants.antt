use Rattle.std.proofs.Common.{length}
use Rattle.office.specs.Frames.{Quiet}
use Rattle.office.proofs.StagedSoFar.{HasStagedFront}
use Rattle.office.proofs.office.Office.stage_whole.Given as goal

abbrev pub invariant-pieces : goal.invariant-pieces
invariant-pieces g l = HasStagedFront g.K.Keeper l.self.keeper l.fn.body l.rest × Quiet g.K.Keeper l.fn.self.keeper l.self.keeper ⊥

abbrev pub decreases-pieces : goal.decreases-pieces
decreases-pieces g l = length l.rest
