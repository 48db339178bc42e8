use Rattle.std.proofs.Common.{sym}
use Rattle.std.specs.FinMap.{get}
use Rattle.boxes.specs.Rows.{key_of}
use Rattle.shelf.proofs.Entries.{copied}
use Rattle.shelf.proofs.cache.Cache.key.Goals as goal

pub returns-in-Some : goal.returns-in-Some
returns-in-Some c s h =
    let known = c.in-Some.known.now in
    copied c.copy_key.result c.ok.result key_of (key_of known.row) (get s.keys c.args.id.now) c.ok.ensures.value c.copy_key.ensures (h.keys c.args.id.now known (sym c.in-Some.ensures.value)).row
