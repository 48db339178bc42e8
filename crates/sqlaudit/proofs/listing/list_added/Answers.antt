use Rattle.std.proofs.Common.{arith}
use Rattle.sqlaudit.proofs.listing.list_added.Goals as goal

pub returns-in-First-clause-listed : goal.returns-in-First-clause-listed
returns-in-First-clause-listed g c = grind arith

pub returns-in-First-clause-rest : goal.returns-in-First-clause-rest
returns-in-First-clause-rest g c = grind arith

pub returns-in-First-clause-same : goal.returns-in-First-clause-same
returns-in-First-clause-same g c = grind arith

pub returns-in-Second-clause-listed : goal.returns-in-Second-clause-listed
returns-in-Second-clause-listed g c = grind arith

pub returns-in-Second-clause-rest : goal.returns-in-Second-clause-rest
returns-in-Second-clause-rest g c = grind arith

pub returns-in-Second-clause-same : goal.returns-in-Second-clause-same
returns-in-Second-clause-same g c = grind arith
