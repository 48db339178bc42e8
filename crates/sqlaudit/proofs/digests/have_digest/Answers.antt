use Rattle.sqlaudit.proofs.Digested.{are_bytes}
use Rattle.sqlaudit.proofs.digests.have_digest.Goals as goal

pub returns-clause-octets : goal.returns-clause-octets
returns-clause-octets c = are_bytes c.args.bytes.now c.type_inv.bytes
