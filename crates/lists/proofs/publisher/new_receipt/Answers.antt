use Rattle.std.proofs.Common.{arith}
use Rattle.lists.proofs.publisher.new_receipt.Goals as goal

pub returns : goal.returns
returns c = grind arith
