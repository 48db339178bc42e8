use Rattle.std.proofs.Common.{◌≡◌, pos, take}
use Rattle.std.specs.Prelude.{Contains}
use Rattle.sqlaudit.specs.declared.lines.RulesLine.{RulesLine}
use Rattle.sqlaudit.proofs.limit_rules.are_rules_lines.Given as goal

abbrev pub invariant-loop-line : goal.invariant-loop-line
invariant-loop-line l = (line : RulesLine) → Contains (take l.line-index l.lines) line → (line.id ≡ pos 1) × (line.allowance ≡ l.first.allowance)
