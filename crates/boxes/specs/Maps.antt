-- What the ordered maps of the code mean, in terms of look-ups.
use Rattle.std.specs.Prelude.{◌≡◌, List, Option, cond, option_map}
use Rattle.std.specs.declared.cmp.Ordering.{Ordering}
use Rattle.std.specs.Ordering.{is_eq, eq_by_cmp}
use Rattle.std.specs.Map.{lookup}
use Rattle.std.specs.FinMap.{FinMap, get}

-- the value in the entries under the key that means q
abbrev pub found : {K K' X : Type 0} (R : K' → K' → Ordering) (f : K → K') → List (K × X) → K' → Option X
found R f es q = lookup (λ k. is_eq (R q (f k))) es

-- the entries are those of the map; f gives the meaning of a key and g that of a value
pub record MapMeans {K K' X Y : Type 0} (R : K' → K' → Ordering) (f : K → K') (g : X → Y) (es : List (K × X)) (m : FinMap R Y) : Type 0 where
  pub each : (q : K') → get m q ≡ option_map g (found R f es q)

-- under the key that means k there is now v, or nothing; all other entries are unchanged
pub record Sets {K K' X : Type 0} (R : K' → K' → Ordering) (f : K → K') (k : K') (v : Option X) (es after : List (K × X)) : Type 0 where
  pub each : (q : K') → found R f after q ≡ cond (eq_by_cmp R q k) v (found R f es q)
