use Rattle.std.proofs.Common.{sym, ◌∙◌, rules, tests, arith}
use Rattle.std.proofs.lemmas.Bool.{eq-eqb, eqb-true}
use Rattle.std.proofs.lemmas.Iterator.{YieldsList-from_slice}
use Rattle.std.proofs.lemmas.Iterator.Consumers.{YieldsList-from_filter, count_from_yields_List}
use Rattle.sigtext.specs.Bytes.{same_bytes}
use Rattle.links.proofs.OwnTerms.{named_raw}
use Rattle.links.proofs.orders.stands_once.Goals as goal

pub returns : goal.returns
returns c =
    let name = c.args.name.now in
    let counted = count_from_yields_List _ c.count.result c.count.ensures.ran
    (YieldsList-from_filter _ (λ p. same_bytes p.name.now name) (YieldsList-from_slice c.args.params.now cc) c.filter.ensures.closure (λ x b q k. search (rules, tests))) in
    let same = counted ∙ named_raw name c.args.params.now in
    (λ e. sym same ∙ eqb-true _ _ e, λ e. eq-eqb _ _ (same ∙ e))

pub count-requires-clause-fits : goal.count-requires-clause-fits
count-requires-clause-fits c = grind arith
