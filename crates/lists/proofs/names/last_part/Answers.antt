use Rattle.lists.proofs.Parts.{last_behind}
use Rattle.lists.proofs.names.last_part.Goals as goal

pub returns-in-Some : goal.returns-in-Some
returns-in-Some c = last_behind c.args.name.now c.in-Some.slash c.in-Some.ensures.0 c.in-Some.ensures.1
