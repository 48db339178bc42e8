use Rattle.std.proofs.Common.{rules, tests, arith}
use Rattle.sigtext.proofs.Unescaped.{is_absent}
use Rattle.sigtext.proofs.target.may_stand.Goals as goal

pub returns-then-not-matches : goal.returns-then-not-matches
returns-then-not-matches c =
    let barred = is_absent c.args.byte c.args.barred.now c.memchr.result c.memchr.ensures in
    search (rules, tests, barred)

pub returns-else-not-matches : goal.returns-else-not-matches
returns-else-not-matches c = grind arith
