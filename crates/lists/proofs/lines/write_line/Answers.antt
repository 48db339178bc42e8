use Rattle.std.proofs.Common.{arith}
use Rattle.lists.proofs.CsvLines.{line_written}
use Rattle.lists.proofs.lines.write_line.Goals as goal
use Rattle.lists.proofs.lines.write_line.Goals.{in-Ok, in-Err}

pub returns-clause-written : goal.returns-clause-written
returns-clause-written c = elim c.match-write_fields.branch [
  | in-Ok w ↦ rw w.result-is (line_written c.args.writer.now _ _ _ c.requires (rw w.in-Ok.is at c.write_fields.ensures.bytes))
  | in-Err w ↦ rw w.result-is tt
]

pub returns-clause-clean : goal.returns-clause-clean
returns-clause-clean c = grind arith

pub returns-clause-memory : goal.returns-clause-memory
returns-clause-memory c = grind arith
