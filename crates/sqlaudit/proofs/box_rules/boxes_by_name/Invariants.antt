use Rattle.std.proofs.Common.{take}
use Rattle.sigtext.specs.Bytes.{bytes_cmp}
use Rattle.sqlaudit.specs.Outlines.{IsBoxEntry, IsBoxRule}
use Rattle.sqlaudit.specs.Sorting.{AreIn, IsGood, box_in, text_of}
use Rattle.sqlaudit.proofs.box_rules.boxes_by_name.Given as goal

abbrev pub invariant-loop-line : goal.invariant-loop-line
invariant-loop-line l = AreIn bytes_cmp text_of box_in (IsGood IsBoxEntry IsBoxRule) (take l.line-index l.lines) l.boxes.entries
