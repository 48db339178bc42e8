-- The moment at which a link is judged.
use Rattle.std.specs.Prelude.{ℕ, ◌+◌, ◌<◌, ◌≤◌}

-- moment: in seconds since 1970. allowance: how many seconds early a link may begin
pub record Now : Type 0 where
  pub moment : ℕ
  pub allowance : ℕ

-- a moment, and how many seconds early links may begin
abbrev pub moment_with : ℕ → ℕ → Now
moment_with allowance moment = record { moment = moment; allowance = allowance }

-- a window that begins at the start has begun
abbrev pub HasBegun : Now → ℕ → Type 0
HasBegun n start = start ≤ n.moment + n.allowance

-- a window that begins at the start and lasts this many seconds is not over
abbrev pub IsNotOver : Now → ℕ → ℕ → Type 0
IsNotOver n start expires = n.moment < start + expires
