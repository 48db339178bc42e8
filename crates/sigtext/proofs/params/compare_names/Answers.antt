use Rattle.std.proofs.Common.{◌≡◌, ◌<◌, refl, rules, subst, ◌∙◌, All}
use Rattle.std.proofs.lemmas.Iterator.{YieldsList-from_map}
use Rattle.std.proofs.lemmas.Iterator.Consumers.{YieldsList-from_first, YieldsList-at}
use Rattle.std.proofs.lemmas.Iterator.Search.{cmp_from_yields_List}
use Rattle.percent_encoding.specs.Iter.{decoded_bytes}
use Rattle.sigtext.proofs.EncodedOrder.{rank, rank_cmp, encoded_cmp}
use Rattle.sigtext.proofs.params.compare_names.Goals as goal

pub returns : goal.returns
returns c =
    let small_a = subst (All (λ b. b < 256)) c.percent_decode.ensures.bytes c.percent_decode.ensures.small in
    let small_b = subst (All (λ b. b < 256)) c.percent_decode-2.ensures.bytes c.percent_decode-2.ensures.small in
    cmp_from_yields_List (λ x y. y ≡ x) _ rank_cmp _ c.cmp-2.ensures.ran
    (YieldsList-from_map _ rank (YieldsList-at c.map.ensures.source (YieldsList-from_first (λ x. x) decoded_bytes _ c.percent_decode.ensures.bytes)) c.map.ensures.closure (λ x r q k. search rules))
    (λ it e. YieldsList-at e (YieldsList-from_map _ rank (YieldsList-at c.map-2.ensures.source (YieldsList-from_first (λ x. x) decoded_bytes _ c.percent_decode-2.ensures.bytes)) c.map-2.ensures.closure (λ x r q k. search rules)))
    (λ x y. refl)
    ∙ encoded_cmp _ _ small_a small_b
