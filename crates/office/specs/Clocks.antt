-- What a listed clock tells.
use Rattle.std.specs.Prelude.{◌≡◌, ℕ, zero, suc, List, [], ◌∷◌}
use Rattle.office.specs.declared.clocks.ListedClock.{ListedClock}

-- the moment after the first, and the moments after that
abbrev pub NextOf : ℕ → List ℕ → ℕ → List ℕ → Type 0
NextOf first [] next rest = (next ≡ first) × (rest ≡ [])
NextOf first (m ∷ ms) next rest = (next ≡ m) × (rest ≡ ms)

-- The first moment is told, and the next is the first of the others. The last one repeats.
abbrev pub TellsNext : ListedClock → ℕ → ListedClock → Type 0
TellsNext c m d = (m ≡ c.first) × NextOf c.first c.others.now d.first d.others.now

-- n moments of a list whose last moment is repeated
abbrev pub listed : ℕ → ℕ → List ℕ → List ℕ
listed zero first others = []
listed (suc n) first [] = first ∷ listed n first []
listed (suc n) first (m ∷ ms) = first ∷ listed n m ms
