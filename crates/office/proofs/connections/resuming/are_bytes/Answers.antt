use Rattle.links.proofs.WrittenBytes.{are_bytes}
use Rattle.office.proofs.connections.resuming.are_bytes.Goals as goal

pub returns : goal.returns
returns c = are_bytes c.args.bytes.now c.type_inv.bytes
