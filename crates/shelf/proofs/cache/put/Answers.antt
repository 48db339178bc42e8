use Rattle.shelf.proofs.Entries.{put_there}
use Rattle.shelf.proofs.cache.put.Goals as goal

pub returns : goal.returns
returns g c = put_there c.insert.result c.args.kept.now c.insert.new.self c.args.name c.args.known c.insert.ensures.updates c.insert.ensures.err
