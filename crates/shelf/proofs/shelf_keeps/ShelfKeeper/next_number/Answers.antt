use Rattle.std.proofs.Common.{◌∙◌, ◌+◌, length, ap}
use Rattle.shelf.proofs.FoundLemmas.{as_many}
use Rattle.shelf.proofs.StayLemmas.{untouched}
use Rattle.shelf.proofs.shelf_keeps.ShelfKeeper.next_number.Goals as goal

pub returns-clause-value : goal.returns-clause-value
returns-clause-value c s h sound honest = ap (λ n. n + 1) (ap length c.as_slice.ensures.value ∙ as_many c.args.self.now s h)

pub returns-clause-rest : goal.returns-clause-rest
returns-clause-rest c = untouched c.args.self.now _
