use Rattle.std.proofs.Common.{◌≡◌, ℕ, List, ◌∷◌, [], ◌++◌, codes, append_assoc, ap, ◌∙◌, arith}
use Rattle.sha2.specs.Sha256.{sha256}
use Rattle.hex.specs.Hex.{encode_lower}
use Rattle.sigv4.specs.Hmac.{hmac}
use Rattle.sigv4.specs.Signature.{CredentialScope, string_to_sign, signature_of, signing_key}
use Rattle.sigv4.specs.Scopes.{scope_of}
use Rattle.sigv4.proofs.Moments.{text_once}
use Rattle.sigv4.proofs.signing.sign.Goals as goal

regroup : (a n m d s r f g : List ℕ) → [] ++ (a ++ n) ++ m ++ n ++ d ++ s ++ r ++ (f ++ n) ++ g ≡ a ++ (n ++ m) ++ (n ++ (d ++ (s ++ r) ++ f)) ++ (n ++ g)
regroup a n m d s r f g = simp append_assoc

-- the pieces in the order in which they are fed
joined : (text : List ℕ) (s : CredentialScope) (digest canonical : List ℕ) → digest ≡ encode_lower (sha256 canonical)
    → [] ++ codes "AWS4-HMAC-SHA256\n" ++ text ++ 10 ∷ [] ++ s.date ++ 47 ∷ [] ++ s.region ++ codes "/s3/aws4_request\n" ++ digest ≡ string_to_sign text s canonical
unfolding string_to_sign
joined text s digest canonical e =
    rw e (regroup (codes "AWS4-HMAC-SHA256") (10 ∷ []) text s.date (47 ∷ []) s.region (codes "/s3/aws4_request") (encode_lower (sha256 canonical)))

pub returns : goal.returns
unfolding signature_of
returns c secret keyed signed are =
    let (canonical, only, digest_is) = c.canonical_digest.ensures signed are in
    let scope = scope_of c.args.scope.now in
    let fed = c.update-8.ensures _ _ (c.update-7.ensures _ _ (c.update-6.ensures _ _ (c.update-5.ensures _ _ (c.update-4.ensures _ _ (c.update-3.ensures _ _ (c.update-2.ensures _ _ (c.update.ensures _ _ keyed))))))) in
    let digest = c.hex_digits-digest.ensures ∙ ap encode_lower digest_is in (
      canonical,
      only,
      λ text writes.
          let same = text_once c.text.result text c.args.moment.now c.text.ensures writes in
          let sent = joined c.text.result scope c.hex_digits-digest.result canonical digest ∙ ap (λ (t : List ℕ). string_to_sign t scope canonical) same in
          c.hex_digits.ensures ∙ ap encode_lower (c.finish.ensures _ _ fed ∙ ap (hmac (signing_key secret scope)) sent),
    )

pub slice_bounds-update-end-6 : goal.slice_bounds-update-end-6
slice_bounds-update-end-6 c = grind arith
