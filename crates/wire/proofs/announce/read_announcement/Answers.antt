use Rattle.std.proofs.Common.{arith}
use Rattle.wire.specs.Judging.{malformed}
use Rattle.wire.proofs.Announced.{fields_break}
use Rattle.wire.proofs.announce.read_announcement.Goals as goal

pub returns-in-Err-clause-err : goal.returns-in-Err-clause-err
returns-in-Err-clause-err c =
    let (head, is_head, method, target, few, same) = c.in-Some.ensures.found in
    fields_break c.args.text.now head _ c.in-Err.refusal is_head same c.in-Err.ensures.err

pub returns-in_default-clause-err : goal.returns-in_default-clause-err
returns-in_default-clause-err c = malformed c.in_default.ensures.none

pub returns-in-Ok-clause-ok : goal.returns-in-Ok-clause-ok
returns-in-Ok-clause-ok c = grind arith
