use Rattle.std.proofs.Common.{◌≡◌, ℕ, List, ◌++◌, length}
use Rattle.lists.specs.Names.{AreCleaned}
use Rattle.lists.proofs.names.push_part.Given as goal

abbrev pub invariant-bytes : goal.invariant-bytes
invariant-bytes l = (part : List ℕ) × AreCleaned l.text part × (length part ≡ l.index) × (l.name.items ≡ l.fn.name.items ++ part)
