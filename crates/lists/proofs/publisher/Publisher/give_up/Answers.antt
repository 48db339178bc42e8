use Rattle.std.proofs.Common.{arith}
use Rattle.lists.proofs.publisher.Publisher.give_up.Goals as goal

pub returns-clause-means : goal.returns-clause-means
returns-clause-means g c = grind arith
