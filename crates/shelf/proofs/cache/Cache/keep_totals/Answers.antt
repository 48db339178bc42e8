use Rattle.std.proofs.Common.{Some, refl}
use Rattle.shelf.proofs.Followed.{boxes_with, with_boxes}
use Rattle.shelf.proofs.cache.Cache.keep_totals.Goals as goal

pub returns : goal.returns
returns c s h are =
    with_boxes c.args.self.now s c.set_totals.new.boxes h (boxes_with s s c.args.name.now (Some c.args.totals) c.args.self.now.boxes.entries c.set_totals.new.boxes.entries refl (λ q far. (refl, refl)) are c.set_totals.ensures h.boxes)
