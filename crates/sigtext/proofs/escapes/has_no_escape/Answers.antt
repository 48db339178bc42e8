use Rattle.std.proofs.Common.{rules}
use Rattle.sigtext.proofs.Unescaped.{searched_through}
use Rattle.sigtext.proofs.escapes.has_no_escape.Goals as goal

pub returns : goal.returns
returns c = λ plain. searched_through c.args.text.now (search rules)
