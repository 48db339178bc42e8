use Rattle.std.proofs.Common.{◌≡◌}
use Rattle.wire.proofs.Skipping.{HasSkipped, HasSpent, to_come}
use Rattle.wire.specs.Waiting.{IsFree}
use Rattle.office.specs.Frames.{Quiet}
use Rattle.office.specs.Receiving.{HoldsPart}
use Rattle.office.proofs.office.Office.stage_body.Given as goal

abbrev pub invariant-pieces : goal.invariant-pieces
invariant-pieces g l = record {
  skipped : HasSkipped g.R.Read.remaining l.size l.fn.feed l.feed;
  staged : HoldsPart g.K.Keeper l.fn.feed l.fn.self.keeper l.fn.sha → HoldsPart g.K.Keeper l.feed l.self.keeper l.sha;
  same : l.feed.reader.ghost_name ≡ l.fn.feed.reader.ghost_name;
  count : l.feed.reader.now.faults ≡ l.fn.feed.reader.now.faults;
  quiet : Quiet g.K.Keeper l.fn.self.keeper l.self.keeper ⊥;
  free : IsFree l.fn.feed.backlog → IsFree l.feed.backlog;
  spent : HasSpent g.R.Read.remaining l.fn.feed l.feed;
}

abbrev pub decreases-pieces : goal.decreases-pieces
decreases-pieces g l = to_come l.feed.place
