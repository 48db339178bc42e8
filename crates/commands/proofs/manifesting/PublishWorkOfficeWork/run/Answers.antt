use Rattle.commands.proofs.Landing.{within}
use Rattle.commands.proofs.manifesting.PublishWorkOfficeWork.run.Goals as goal

pub returns : goal.returns
returns g c =
    rw c.into_inner.ensures.same (within
    (record {
      honest = λ honest. honest;
      before = λ honest. c.new-keeper.ensures.honest.0 honest;
      ungrouped = λ alone. c.new-keeper.ensures.alone.1 alone;
      ungrouped_too = λ alone. alone;
      means = λ s means clean. (c.new-keeper.ensures.means s).1 means;
      within = λ s means. means.0;
      alone = λ s means clean alone. record { alone = λ t at. alone.alone t ((c.new-keeper.ensures.leaves t).0 at); whole = c.new-keeper.ensures.whole.1 alone.whole };
      leaves = λ t at. at;
      whole = λ whole. whole;
    })
    c.serve_published-session.ensures)
