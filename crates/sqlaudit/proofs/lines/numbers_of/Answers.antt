use Rattle.sqlaudit.proofs.Apart.{numbers_of}
use Rattle.sqlaudit.proofs.lines.numbers_of.Goals as goal

pub returns : goal.returns
returns c =
    numbers_of c.args.rows.now c.in_ok-numbers.numbers.items c.sort_unstable.new.self.items c.in_ok-numbers.ensures c.sort_unstable.ensures.permutation (rw c.deref.ensures.value at (c.rise.ensures c.if-not-rise.false))
