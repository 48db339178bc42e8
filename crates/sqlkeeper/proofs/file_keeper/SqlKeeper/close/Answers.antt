use Rattle.std.proofs.Common.{arith, sym, subst}
use Rattle.sqlite.specs.Held.{state}
use Rattle.sqlkeeper.specs.Grouping.{LeavesStatesIn}
use Rattle.sqlkeeper.proofs.file_keeper.SqlKeeper.close.Goals as goal

pub returns-clause-leaves : goal.returns-clause-leaves
returns-clause-leaves g c = grind arith

pub returns-clause-means : goal.returns-clause-means
returns-clause-means g c = grind arith

pub returns-clause-whole : goal.returns-clause-whole
returns-clause-whole g c alone =
    let st = state g.S.Store c.args.self.conn in
    (λ whole. subst (λ x. LeavesStatesIn x st) alone whole, λ whole. subst (λ x. LeavesStatesIn x st) (sym alone) whole)
