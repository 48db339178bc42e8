use Rattle.std.proofs.Common.{take}
use Rattle.sqlaudit.specs.Opened.{AreShortLines}
use Rattle.sqlaudit.proofs.receipt_rules.are_short.Given as goal

abbrev pub invariant-loop-line : goal.invariant-loop-line
invariant-loop-line l = AreShortLines (take l.line-index l.lines)
