use Rattle.std.proofs.Common.{sym, subst}
use Rattle.std.specs.FinMap.{insert}
use Rattle.boxes.proofs.CommandSteps.{key_limited_is}
use Rattle.shelf.specs.declared.shelf.Shelf.{Shelf}
use Rattle.shelf.specs.Shelves.{Holds}
use Rattle.shelf.proofs.ShelfLemmas.{holds_limits}
use Rattle.shelf.proofs.shelf.Shelf.limit_key.Goals as goal

pub returns-in-Ok-clause-made : goal.returns-in-Ok-clause-made
returns-in-Ok-clause-made c s after h obeyed =
    let k : Shelf = c.args.self.now in
    let limits = c.add_limit.new.limits in
    let more = insert s.limits (record { key = c.args.id.now; box = c.args.in_box.now }) tt in
    subst (Holds (record k { limits = limits })) (sym (key_limited_is s c.args.id.now c.args.in_box.now after obeyed.step)) (holds_limits k s limits more h (c.in-Ok.ensures.made s.limits h.limits))

pub returns-in-Err-clause-same : goal.returns-in-Err-clause-same
returns-in-Err-clause-same c s h = c.count.ensures.same s (holds_limits c.args.self.now s c.add_limit.new.limits s.limits h (c.in-Err.ensures.same s.limits h.limits))
