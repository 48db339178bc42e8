-- How early a link may begin.
use Rattle.std.specs.Prelude.{ℕ}

-- the greatest allowance of an office, in seconds
abbrev pub most_allowance : ℕ
most_allowance = 900
