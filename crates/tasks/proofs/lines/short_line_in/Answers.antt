use Rattle.std.proofs.Common.{ap, arith, length}
use Rattle.std.proofs.lemmas.Grind.{common_steps}
use Rattle.tasks.proofs.LineCuts.{no_short_line, start_line}
use Rattle.tasks.proofs.lines.short_line_in.Goals as goal

pub returns-in_err-line : goal.returns-in_err-line
returns-in_err-line c = λ text is. no_short_line c.args.most text c.args.start.now c.from_residual.result c.from_residual.ensures is c.in_err-line.ensures.only

pub returns-else-line-from : goal.returns-else-line-from
returns-else-line-from c = λ text is line whole short.
    let same = c.in_ok-line.ensures.only line (start_line text c.args.start.now line c.args.most is whole short) in
    absurd (omega (arith, c.if-line-from.false, c.from.ensures, ap length same, short))

pub returns-then-line-from : goal.returns-then-line-from
returns-then-line-from c = grind (arith, common_steps)
