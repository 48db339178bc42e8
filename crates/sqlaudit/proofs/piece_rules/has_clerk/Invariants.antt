use Rattle.std.proofs.Common.{◌≡◌, pos, take}
use Rattle.std.specs.Prelude.{Contains}
use Rattle.sqlaudit.specs.declared.lines.KeyLine.{KeyLine}
use Rattle.sqlaudit.proofs.piece_rules.has_clerk.Given as goal

abbrev pub invariant-loop-line : goal.invariant-loop-line
invariant-loop-line l = (line : KeyLine) → Contains (take l.line-index l.lines) line → (line.role ≡ pos 1) × (line.revoked ≡ pos 0) → ⊥
