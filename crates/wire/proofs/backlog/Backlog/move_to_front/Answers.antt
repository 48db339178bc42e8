use Rattle.std.proofs.Common.{◌-◌, take, drop, ap, ◌∙◌}
use Rattle.wire.specs.Waiting.{waiting}
use Rattle.wire.proofs.Backlogs.{fits, range_moved}
use Rattle.wire.proofs.backlog.Backlog.move_to_front.Goals as goal

pub returns-clause-kept : goal.returns-clause-kept
unfolding waiting
returns-clause-kept c =
    let b = c.args.self.now in
    ap (λ xs. take ((b.end - b.start) - 0) (drop 0 xs)) c.copy_within.ensures.items ∙ range_moved b.bytes.items b.start b.end b.ordered (fits b)
