use Rattle.std.proofs.Common.{arith}
use Rattle.office.proofs.Holding.{group_still}
use Rattle.commands.proofs.exporting.export_into.Goals as goal

pub lists_in-requires-text-folder : goal.lists_in-requires-text-folder
lists_in-requires-text-folder g c = grind arith

pub returns-clause-crash : goal.returns-clause-crash
returns-clause-crash g c = grind arith

pub returns-clause-honest : goal.returns-clause-honest
returns-clause-honest g c = grind arith

pub returns-clause-same : goal.returns-clause-same
returns-clause-same g c = grind arith

pub returns-in_err-files-clause-crash : goal.returns-in_err-files-clause-crash
returns-in_err-files-clause-crash g c = grind arith

pub returns-in_err-files-clause-honest : goal.returns-in_err-files-clause-honest
returns-in_err-files-clause-honest g c = grind arith

pub returns-in_err-files-clause-same : goal.returns-in_err-files-clause-same
returns-in_err-files-clause-same g c = grind arith

pub returns-clause-group : goal.returns-clause-group
returns-clause-group g c = c.export-exported.ensures.stays.group

pub returns-in_err-files-clause-group : goal.returns-in_err-files-clause-group
returns-in_err-files-clause-group g c = group_still
