use Rattle.std.proofs.Common.{◌∙◌, ap, sym, option_map}
use Rattle.boxes.specs.Rows.{key_of}
use Rattle.shelf.proofs.Followed.{with_keys}
use Rattle.shelf.proofs.cache.Cache.keep_key.Goals as goal

pub returns-in-Some : goal.returns-in-Some
returns-in-Some c s h is = with_keys c.args.self.now s c.put_key.new.keys h (c.put_key.ensures s h.keys (sym is ∙ ap (option_map key_of) c.in-Some.is))
