use Rattle.std.proofs.Common.{◌∙◌, sym}
use Rattle.shelf.proofs.cache.Cache.knows_use.Goals as goal

pub returns-in-Some : goal.returns-in-Some
returns-in-Some c s h has = (h.keys c.args.id.now c.in-Some.known.now (sym c.in-Some.ensures.value)).uses c.args.in_box.now (sym c.contains.ensures ∙ has)
