use Rattle.std.proofs.Common.{◌≡◌, take, map}
use Rattle.shelf.proofs.copies.copy_texts.Given as goal

abbrev pub invariant-texts : goal.invariant-texts
invariant-texts l = map (λ t. t.items) l.copies.items ≡ map (λ t. t.items) (take l.text-index l.texts)
