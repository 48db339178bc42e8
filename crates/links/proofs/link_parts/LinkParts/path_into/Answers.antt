use Rattle.std.proofs.Common.{arith}
use Rattle.links.proofs.link_parts.LinkParts.path_into.Goals as goal

pub returns-clause-full : goal.returns-clause-full
returns-clause-full c = grind arith

pub returns-clause-ok : goal.returns-clause-ok
returns-clause-ok c = grind arith
