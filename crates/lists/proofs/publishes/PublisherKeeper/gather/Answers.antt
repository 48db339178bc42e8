use Rattle.std.proofs.Common.{Some, refl}
use Rattle.lists.proofs.Held.{with_begun}
use Rattle.lists.proofs.PassedOn.{passed_sure}
use Rattle.lists.proofs.publishes.PublisherKeeper.gather.Goals as goal

pub returns-then-is_none-clause-sure : goal.returns-then-is_none-clause-sure
returns-then-is_none-clause-sure g c =
    passed_sure g.K.Keeper g.S.Sheet.text c.args.self.now c.gather.new.self (Some c.new.result) c.gather.ensures.sure (with_begun c.args.self.now.held c.new.result _ c.if-is_none.ensures c.new.ensures.items)

pub returns-then-is_none-clause-begun : goal.returns-then-is_none-clause-begun
returns-then-is_none-clause-begun g c = λ alone. record {
  inner = c.gather.ensures.begun alone.0;
  honest = c.gather.ensures.sure.honest;
  alone = alone.1;
  group = refl;
  sheet = refl;
  whole = λ whole. whole;
}

pub returns-else-is_none-clause-sure : goal.returns-else-is_none-clause-sure
returns-else-is_none-clause-sure g c = passed_sure g.K.Keeper g.S.Sheet.text c.args.self.now c.gather.new.self c.args.self.now.held c.gather.ensures.sure refl

pub returns-then-is_none-clause-group : goal.returns-then-is_none-clause-group
returns-then-is_none-clause-group g c = λ first it. record {
  inner = c.gather.ensures.group first.keeper it.inner;
  honest = λ honest. it.honest (c.gather.ensures.sure.honest honest);
  alone = it.alone;
  group = refl;
  sheet = it.sheet;
  whole = it.whole;
}

pub returns-else-is_none-clause-group : goal.returns-else-is_none-clause-group
returns-else-is_none-clause-group g c = λ first it. record {
  inner = c.gather.ensures.group first.keeper it.inner;
  honest = λ honest. it.honest (c.gather.ensures.sure.honest honest);
  alone = it.alone;
  group = it.group;
  sheet = it.sheet;
  whole = it.whole;
}
