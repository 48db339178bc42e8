use Rattle.std.proofs.Common.{None}
use Rattle.sigtext.specs.Bytes.{bytes_cmp}
use Rattle.boxes.proofs.Lookups.{bytes_total}
use Rattle.shelf.specs.Shelves.{bytes_of}
use Rattle.shelf.proofs.MapLemmas.{sets_of}
use Rattle.shelf.proofs.Entries.{lacks_gone}
use Rattle.shelf.proofs.following.forget_box.Goals as goal

pub returns : goal.returns
returns c = lacks_gone c.args.boxes.now.entries c.remove.new.self.entries c.args.name.now (sets_of bytes_cmp bytes_of bytes_total c.args.boxes.now c.remove.new.self c.args.name.now None c.remove.ensures.updates)
