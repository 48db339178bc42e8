-- Total orders.
use Rattle.std.proofs.Common.{◌≡◌, refl}
use Rattle.std.specs.declared.cmp.Ordering.{Ordering}
use Rattle.std.specs.declared.cmp.Ordering.TheVariants.{Less, Equal, Greater}
use Rattle.std.specs.Ordering.{ordering_reverse}
use Rattle.std.specs.Cmp.{IsTotalOrder, tied_itself}

pub turned : (r : Ordering) → r ≡ Greater → ordering_reverse r ≡ Less
turned Less e = absurd cc
turned Equal e = absurd cc
turned Greater e = refl

-- no key is less than itself
pub not_itself : {K : Type 0} {R : K → K → Ordering} → IsTotalOrder R → (k : K) → R k k ≡ Less → ⊥
not_itself total k less = let tied = tied_itself total k in cc
