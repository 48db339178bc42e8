use Rattle.std.proofs.Common.{subst}
use Rattle.lists.specs.Published.{IsPublished}
use Rattle.lists.proofs.Held.{with_no_line}
use Rattle.lists.proofs.publisher.Publisher.is_whole.Goals as goal

pub returns-then-self-clause-begun : goal.returns-then-self-clause-begun
returns-then-self-clause-begun g c = λ s means sound honest. (means.1 honest sound).0

pub returns-then-self-clause-published : goal.returns-then-self-clause-published
returns-then-self-clause-published g c = λ s means sound honest is.
    subst (IsPublished s) (with_no_line c.args.self.now.held _ (c.holds_no_line.ensures.0 is)) ((means.1 honest sound).1 c.if-self.true)

pub returns-else-self-clause-begun : goal.returns-else-self-clause-begun
returns-else-self-clause-begun g c = λ s means sound honest. (means.1 honest sound).0
