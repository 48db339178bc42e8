use Rattle.std.proofs.Common.{◌∙◌, ap, sym, option_map}
use Rattle.boxes.specs.Rows.{settings_of}
use Rattle.shelf.proofs.Followed.{with_boxes}
use Rattle.shelf.proofs.cache.Cache.keep_box.Goals as goal

pub returns-in-Some : goal.returns-in-Some
returns-in-Some c s h is = with_boxes c.args.self.now s c.put_box.new.boxes h (c.put_box.ensures s h.boxes (sym is ∙ ap (option_map settings_of) c.in-Some.is))
