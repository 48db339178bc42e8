use Rattle.std.proofs.Common.{min, take, length, ap, ◌∙◌}
use Rattle.wire.specs.Waiting.{waiting}
use Rattle.wire.proofs.Backlogs.{take_least}
use Rattle.wire.proofs.backlog.Backlog.window.Goals as goal

pub returns : goal.returns
returns c =
    let xs = waiting c.args.self.now in
    ap (take c.min.result) c.waiting-waiting.ensures ∙ ap (λ n. take n xs) (c.min.ensures ∙ ap (λ ys. min (length ys) 8192) c.waiting-waiting.ensures) ∙ take_least 8192 xs
