use Rattle.std.proofs.Common.{ap, inr, refl}
use Rattle.office.specs.declared.office.Office.{Office}
use Rattle.commands.proofs.Crowds.{of_err, session}
use Rattle.commands.proofs.Landing.{looks, unasked}
use Rattle.commands.proofs.serving.serve_at.Goals as goal

pub returns-in-Err : goal.returns-in-Err
returns-in-Err g c = unasked refl (λ s. inr (looks s, c.in-Err.ensures.failed, c.in-Err.ensures.idle))

pub returns-in-Ok : goal.returns-in-Ok
returns-in-Ok g c = session c.args.service.now.address c.args.service.now.limits _ c.args.outside c.serve-served.result c.in-Ok.begun.listener c.in-Ok.begun.clock c.serve-served.new.clock c.in-Ok.ensures.listens c.in-Ok.ensures.begins
    c.serve-served.ensures.honest c.serve-served.ensures.alone c.serve-served.ensures.serves
    (λ e is. let it = of_err _ c.serve-served.result.outcome e is c.serve-served.ensures.nothing in (it.0, ap (λ (x : Office g.row.K.Denot). x.keeper) it.1, it.2)) c.result_of.ensures
