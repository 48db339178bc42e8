-- The texts of the parameters determine what they mean.
use Rattle.std.proofs.Common.{◌≡◌, ℕ, List, [], ◌∷◌, sym, ap, ◌∙◌, subst}
use Rattle.sigtext.specs.Target.{Param}
use Rattle.links.specs.Forms.{IsExpiry}
use Rattle.links.specs.WellFormed.{HasValue}

-- a name has at most one value
pub value_once : (params : List Param) (name value other : List ℕ) → HasValue params name value → HasValue params name other → other ≡ value
value_once params name value other h k = ap (λ (p : Param). p.value) (alone _ _ (sym k ∙ h))
  where
    alone : (p q : Param) → p ∷ [] ≡ q ∷ [] → p ≡ q
    alone p q e = cc

-- the same, if two lists of parameters are known to be equal
pub value_same : (params others : List Param) (name value other : List ℕ) → others ≡ params → HasValue params name value → HasValue others name other → other ≡ value
value_same params others name value other same h k =
    value_once params name value other h (subst (λ (ps : List Param). HasValue ps name other) same k)

-- a text is at most one number of seconds
pub expiry_once : (text : List ℕ) (n m : ℕ) → IsExpiry text n → IsExpiry text m → m ≡ n
expiry_once text n m h k = k.value ∙ sym h.value
