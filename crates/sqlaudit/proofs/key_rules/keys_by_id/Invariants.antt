use Rattle.std.proofs.Common.{take}
use Rattle.sigtext.specs.Bytes.{bytes_cmp}
use Rattle.sqlaudit.specs.Outlines.{IsKeyEntry, IsKeyRule}
use Rattle.sqlaudit.specs.Sorting.{AreIn, IsGood, key_in, text_of}
use Rattle.sqlaudit.proofs.key_rules.keys_by_id.Given as goal

abbrev pub invariant-loop-line : goal.invariant-loop-line
invariant-loop-line l = AreIn bytes_cmp text_of key_in (IsGood IsKeyEntry IsKeyRule) (take l.line-index l.lines) l.keys.entries
