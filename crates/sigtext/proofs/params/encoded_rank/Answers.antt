use Rattle.std.proofs.Common.{◌≡◌, Bool, true, false, not, refl, ap, ◌∙◌, arith}
use Rattle.sigtext.specs.UriEncode.{is_unreserved, EscapesTheRest}
use Rattle.sigtext.proofs.params.encoded_rank.Goals as goal

not_not : (b : Bool) → not (not b) ≡ b
not_not true = refl
not_not false = refl

pub returns : goal.returns
unfolding EscapesTheRest
returns c =
    let kept = ap not (c.should_percent_encode-is_escaped.ensures ∙ c.escaped.ensures c.args.byte (omega (arith, c.ranges.byte))) ∙ not_not (is_unreserved c.args.byte) in
    ap (λ (stays : Bool). (stays, c.args.byte)) kept
