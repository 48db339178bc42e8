use Rattle.commands.proofs.Landing.{more}
use Rattle.commands.proofs.Lines.{given}
use Rattle.commands.proofs.desking.DeskWorkOfficeWork.run.Goals as goal

pub returns : goal.returns
returns g c = rw (← c.new-office.ensures) (more (λ s after asked it. (given _ c.tell.ensures.done s after asked it, c.tell.ensures.said)) c.obey-obeyed.ensures)
