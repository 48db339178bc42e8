use Rattle.std.proofs.Common.{arith}
use Rattle.std.proofs.lemmas.Grind.{common_steps}
use Rattle.links.proofs.WrittenBytes.{are_bytes}
use Rattle.links.proofs.writing.append_param.Goals as goal

pub returns-in_err-uri_encode-clause-bytes : goal.returns-in_err-uri_encode-clause-bytes
returns-in_err-uri_encode-clause-bytes c = (are_bytes c.args.name.now c.type_inv.name, are_bytes c.args.value.now c.type_inv.value)

pub returns-in_err-push-clause-bytes : goal.returns-in_err-push-clause-bytes
returns-in_err-push-clause-bytes c = (are_bytes c.args.name.now c.type_inv.name, are_bytes c.args.value.now c.type_inv.value)

pub returns-clause-bytes : goal.returns-clause-bytes
returns-clause-bytes c = (are_bytes c.args.name.now c.type_inv.name, are_bytes c.args.value.now c.type_inv.value)

pub returns-clause-written : goal.returns-clause-written
returns-clause-written c = grind (arith, common_steps)
