use Rattle.std.proofs.Common.{map, rules, tests}
use Rattle.std.proofs.lemmas.Iterator.{YieldsList-from_slice, cases_from_all}
use Rattle.sigtext.specs.Fields.{header_of}
use Rattle.links.specs.Orders.{IsOwnHeader}
use Rattle.sigtext.proofs.NamePieces.{each_piece}
use Rattle.links.proofs.OwnTerms.{each_mapped}
use Rattle.links.proofs.orders.are_own_headers.Goals as goal

pub returns : goal.returns
returns c =
    let Own = IsOwnHeader (map header_of c.args.headers.now) in
    let cases = cases_from_all _ _ c.all.result (λ p. Own (header_of p)) (λ p. Own (header_of p) → ⊥) c.all.ensures.ran (YieldsList-from_slice c.args.headers.now c.iter.ensures.rest) (λ x q k. search (rules, tests)) (λ x q k. search (rules, tests)) in
    let each = each_piece (λ x. Own (header_of x)) _ _ cases in
    let mapped = each_mapped header_of Own c.args.headers.now in
    (λ t. mapped.0 (each.0 t), λ all. each.1 (mapped.1 all))
