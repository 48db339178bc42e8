-- The clerks of an office.
use Rattle.std.specs.Prelude.{ℕ, Bool, true, false, ◌&&◌, not, count_by}
use Rattle.std.specs.FinMap.{entries}
use Rattle.boxes.specs.declared.rows.Role.{Role}
use Rattle.boxes.specs.declared.rows.Role.TheVariants.{Clerk, Link}
use Rattle.boxes.specs.State.{Key, State}

abbrev pub is_clerk : Role → Bool
is_clerk Clerk = true
is_clerk Link = false

-- an unrevoked clerk's key
abbrev pub is_acting : Key → Bool
is_acting k = is_clerk k.role && not k.revoked

-- the number of unrevoked clerk's keys
abbrev pub clerks : State → ℕ
clerks s = count_by (λ e. is_acting e.1) (entries s.keys)
