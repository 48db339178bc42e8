use Rattle.std.proofs.Common.{subst}
use Rattle.lists.specs.Published.{IsPublished, with_held}
use Rattle.lists.proofs.Held.{begun_held}
use Rattle.lists.proofs.publisher.Publisher.put_held.Goals as goal

pub returns-then-self-clause-begun : goal.returns-then-self-clause-begun
returns-then-self-clause-begun g c = λ s published begun.
    let all = subst (λ held. IsPublished s (with_held held (g.S.Sheet.text c.args.self.now.sheet))) c.in-Some.is (published c.if-self.true) in
    begun_held s c.in-Some.text c.deref.result.now _ _ c.deref.ensures.value all c.put.ensures.front
