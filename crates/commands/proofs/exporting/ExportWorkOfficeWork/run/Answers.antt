use Rattle.std.proofs.Common.{refl}
use Rattle.commands.proofs.Landing.{looks, stood, unasked}
use Rattle.commands.proofs.exporting.ExportWorkOfficeWork.run.Goals as goal

pub returns-then-is_err : goal.returns-then-is_err
returns-then-is_err g c = unasked refl looks

pub returns : goal.returns
returns g c = stood c.export_into.ensures.honest c.export_into.ensures.group.alone c.export_into.ensures.same c.export_into.ensures.crash (λ s kept. looks s)
