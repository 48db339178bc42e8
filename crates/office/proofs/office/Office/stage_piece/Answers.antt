use Rattle.std.proofs.Common.{arith}
use Rattle.links.proofs.WrittenBytes.{are_bytes}
use Rattle.office.proofs.Questions.{stays_ok}
use Rattle.office.proofs.office.Office.stage_piece.Goals as goal

pub returns-clause-octets : goal.returns-clause-octets
returns-clause-octets g c = are_bytes c.args.bytes.now c.type_inv.bytes

pub returns-clause-rest : goal.returns-clause-rest
returns-clause-rest g c = stays_ok g.K.Keeper c.in_ok-stage.ensures.rest

pub returns-clause-hashed : goal.returns-clause-hashed
returns-clause-hashed g c = grind arith
