use Rattle.std.proofs.Common.{◌≡◌, take}
use Rattle.std.specs.Prelude.{Contains}
use Rattle.sqlaudit.specs.declared.lines.OfficeLine.{OfficeLine}
use Rattle.sqlaudit.proofs.opening.are_of_version.Given as goal

abbrev pub invariant-loop-line : goal.invariant-loop-line
invariant-loop-line l = (line : OfficeLine) → Contains (take l.line-index l.lines) line → line.version ≡ l.first.version
