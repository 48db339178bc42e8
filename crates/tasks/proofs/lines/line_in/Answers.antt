use Rattle.std.proofs.Common.{◌≡◌, true, false, arith}
use Rattle.tasks.proofs.LineCuts.{only_line}
use Rattle.tasks.proofs.lines.line_in.Goals as goal

pub returns-then-is_end-clause-only : goal.returns-then-is_end-clause-only
returns-then-is_end-clause-only c = λ line is. (only_line c.args.text.now _ _ line c.split_at_end.ensures.whole c.split_at_end.ensures.front c.split_at_end.ensures.back is).0

pub returns-else-is_end-clause-only : goal.returns-else-is_end-clause-only
returns-else-is_end-clause-only c = λ line is.
    let bad : false ≡ true = c.if-is_end.ensures.1 (only_line c.args.text.now _ _ line c.split_at_end.ensures.whole c.split_at_end.ensures.front c.split_at_end.ensures.back is).1 in
    cc

pub returns-then-is_end-clause-line : goal.returns-then-is_end-clause-line
returns-then-is_end-clause-line c = grind arith
