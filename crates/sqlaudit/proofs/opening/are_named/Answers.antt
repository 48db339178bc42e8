use Rattle.std.proofs.Common.{◌↔◌, IsTrue, sym, subst}
use Rattle.sqlaudit.specs.Opened.{AreNamedAs}
use Rattle.sqlaudit.proofs.opening.are_named.Goals as goal

pub returns-in-First : goal.returns-in-First
returns-in-First c = subst (λ f. IsTrue c.are_first_named.result ↔ AreNamedAs f c.args.schema.now) (sym c.in-First.is) c.are_first_named.ensures

pub returns-in-Second : goal.returns-in-Second
returns-in-Second c = subst (λ f. IsTrue c.are_second_named.result ↔ AreNamedAs f c.args.schema.now) (sym c.in-Second.is) c.are_second_named.ensures
