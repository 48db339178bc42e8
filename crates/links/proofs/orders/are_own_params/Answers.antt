use Rattle.std.proofs.Common.{map, rules, tests}
use Rattle.std.proofs.lemmas.Iterator.{YieldsList-from_slice, cases_from_all}
use Rattle.links.specs.Orders.{param_of, IsOwnParam}
use Rattle.sigtext.proofs.NamePieces.{each_piece}
use Rattle.links.proofs.OwnTerms.{each_mapped}
use Rattle.links.proofs.orders.are_own_params.Goals as goal

pub returns : goal.returns
returns c =
    let Own = IsOwnParam (map param_of c.args.params.now) in
    let cases = cases_from_all _ _ c.all.result (λ p. Own (param_of p)) (λ p. Own (param_of p) → ⊥) c.all.ensures.ran (YieldsList-from_slice c.args.params.now c.iter.ensures.rest) (λ x q k. search (rules, tests)) (λ x q k. search (rules, tests)) in
    let each = each_piece (λ x. Own (param_of x)) _ _ cases in
    let mapped = each_mapped param_of Own c.args.params.now in
    (λ t. mapped.0 (each.0 t), λ all. each.1 (mapped.1 all))
