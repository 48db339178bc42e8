-- Which names begin with `X-Amz-` and are none of the six.
use Rattle.std.proofs.Common.{◌≡◌, ℕ, Bool, true, false, List, refl, ap, ◌∙◌}
use Rattle.std.specs.Prelude.{◌&&◌, not, codes}
use Rattle.sigtext.specs.Bytes.{begins_with}
use Rattle.sigtext.specs.Readable.{is_signing_name, is_other_amz_name}

and_false : (b : Bool) → (b && false) ≡ false
and_false true = refl
and_false false = refl

pub signing_is_no_other : (name : List ℕ) → is_signing_name name ≡ true → is_other_amz_name name ≡ false
signing_is_no_other name signing = ap (λ b. begins_with name (codes "X-Amz-") && not b) signing ∙ and_false (begins_with name (codes "X-Amz-"))

pub other_begins : (name : List ℕ) → is_signing_name name ≡ false → begins_with name (codes "X-Amz-") ≡ true → is_other_amz_name name ≡ true
other_begins name unsigned begins = ap (λ b. b && not (is_signing_name name)) begins ∙ ap not unsigned

pub no_other_begins : (name : List ℕ) → begins_with name (codes "X-Amz-") ≡ false → is_other_amz_name name ≡ false
no_other_begins name begins = ap (λ b. b && not (is_signing_name name)) begins
