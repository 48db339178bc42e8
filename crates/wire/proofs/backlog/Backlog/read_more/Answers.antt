use Rattle.std.proofs.Common.{Option, ℕ, arith, subst}
use Rattle.wire.specs.Waiting.{Spends}
use Rattle.wire.proofs.backlog.Backlog.read_more.Goals as goal

pub returns-clause-came : goal.returns-clause-came
returns-clause-came g c = grind arith

pub returns-clause-fault : goal.returns-clause-fault
returns-clause-fault g c = grind arith

pub returns-clause-spends : goal.returns-clause-spends
returns-clause-spends g c =
    let spends = c.read_behind.ensures.spends in (
      subst (λ (most : Option ℕ). Spends most c.read_behind.new.self.most (g.R.Read.remaining c.args.reader.now.inner) (g.R.Read.remaining c.read_behind.new.reader.inner)) c.move_to_front.ensures.most spends.0,
      spends.1,
    )
