use Rattle.std.proofs.Common.{List, ℕ, codes, ap, ◌∙◌}
use Rattle.sigv4.specs.Hmac.{hmac}
use Rattle.sigv4.specs.Signature.{signing_key}
use Rattle.sigv4.proofs.signing.derive.Goals as goal

pub returns : goal.returns
unfolding signing_key
returns c =
    let day = c.finish.ensures _ _ (c.update.ensures _ _ c.keyed-of_day.ensures) in
    let region = c.keyed-of_region.ensures ∙ ap (λ (key : List ℕ). hmac key c.args.scope.now.region.now) day in
    let service = c.keyed-of_service.ensures ∙ ap (λ (key : List ℕ). hmac key (codes "s3")) region in
    c.keyed.ensures ∙ ap (λ (key : List ℕ). hmac key (codes "aws4_request")) service
