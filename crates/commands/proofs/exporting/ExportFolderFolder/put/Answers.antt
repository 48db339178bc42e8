use Rattle.std.proofs.Common.{arith}
use Rattle.commands.proofs.exporting.ExportFolderFolder.put.Goals as goal

pub fact_in-format-2 : goal.fact_in-format-2
fact_in-format-2 g c = grind arith

pub fact_in-format-4 : goal.fact_in-format-4
fact_in-format-4 g c = grind arith

pub returns-clause-left : goal.returns-clause-left
returns-clause-left g c = grind arith

pub returns-clause-put : goal.returns-clause-put
returns-clause-put g c = grind arith
