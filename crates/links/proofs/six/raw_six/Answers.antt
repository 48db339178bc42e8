use Rattle.std.proofs.Common.{arith}
use Rattle.links.proofs.SixLemmas.{not_once}
use Rattle.links.proofs.six.raw_six.Goals as goal
use Rattle.links.proofs.six.raw_six.Goals.{in_default-via-in_default, in_default-via-in-Some+in_default, in_default-via-in-Some+in-Some+in_default, in_default-via-in-Some+in-Some+in-Some+in_default, in_default-via-in-Some+in-Some+in-Some+in-Some+in_default, in_default-via-in-Some+in-Some+in-Some+in-Some+in-Some+in_default}

pub returns-in_default-clause-none : goal.returns-in_default-clause-none
returns-in_default-clause-none c ps holds there =
    elim c.in_default.branch [
      | in_default-via-in_default w ↦ not_once _ ps (w.in_default.ensures.none ps holds) there.0
      | in_default-via-in-Some+in_default w ↦ not_once _ ps (w.in_default.ensures'.none ps holds) there.1.0
      | in_default-via-in-Some+in-Some+in_default w ↦ not_once _ ps (w.in_default.ensures''.none ps holds) there.1.1.0
      | in_default-via-in-Some+in-Some+in-Some+in_default w ↦ not_once _ ps (w.in_default.ensures'''.none ps holds) there.1.1.1.0
      | in_default-via-in-Some+in-Some+in-Some+in-Some+in_default w ↦ not_once _ ps (w.in_default.ensures''''.none ps holds) there.1.1.1.1.0
      | in_default-via-in-Some+in-Some+in-Some+in-Some+in-Some+in_default w ↦ not_once _ ps (w.in_default.ensures'''''.none ps holds) there.1.1.1.1.1.0
    ]

pub returns-clause-some : goal.returns-clause-some
returns-clause-some c ps holds =
    let all = c.in-Some-Some-Some-Some-Some-Some in
    record {
      algorithm = all.ensures.some ps holds;
      credential = all.ensures'.some ps holds;
      date = all.ensures''.some ps holds;
      expires = all.ensures'''.some ps holds;
      names = all.ensures''''.some ps holds;
      signature = all.ensures'''''.some ps holds;
    }

pub returns-clause-none : goal.returns-clause-none
returns-clause-none c = grind arith
