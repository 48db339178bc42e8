-- What holds of all numbers below another.
use Rattle.std.proofs.Common.{◌<◌, ◌+◌, ℕ, suc, zero, arith}

-- a property that holds below n and at n holds below n + 1
pub up_to : (P : ℕ → Type 0) (n : ℕ) → ((p : ℕ) → p < n → P p) → P n → (p : ℕ) → p < n + 1 → P p
up_to P zero all last zero lt = last
up_to P zero all last (suc p) lt = absurd (omega (arith, lt))
up_to P (suc n) all last zero lt = all zero (omega arith)
up_to P (suc n) all last (suc p) lt = up_to (λ q. P (suc q)) n (λ q l. all (suc q) (omega (arith, l))) last p (omega (arith, lt))
