use Rattle.lists.specs.Names.{AreDots}
use Rattle.lists.proofs.names.dots.Given as goal

abbrev pub invariant-dots : goal.invariant-dots
invariant-dots l = AreDots l.text l.index
