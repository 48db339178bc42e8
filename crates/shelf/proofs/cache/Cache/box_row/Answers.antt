use Rattle.std.proofs.Common.{sym}
use Rattle.std.specs.FinMap.{get}
use Rattle.boxes.specs.Rows.{settings_of}
use Rattle.shelf.proofs.Entries.{copied}
use Rattle.shelf.proofs.cache.Cache.box_row.Goals as goal

pub returns-in-Some : goal.returns-in-Some
returns-in-Some c s h =
    let known = c.in-Some.known.now in
    copied c.copy_box.result c.ok.result settings_of (settings_of known.row) (get s.boxes c.args.name.now) c.ok.ensures.value c.copy_box.ensures (h.boxes c.args.name.now known (sym c.in-Some.ensures.value)).row
