use Rattle.links.proofs.OneCommand.{command_once}
use Rattle.links.proofs.desk.laws.law_of_commands.Goals as goal

pub returns : goal.returns
returns c = record { one = command_once }
