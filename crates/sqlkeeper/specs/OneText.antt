-- The staged bytes are one text.
use Rattle.std.proofs.Common.{◌≡◌, ℕ, List, sym, ◌∙◌}

pub one_text : (held a b : List ℕ) → held ≡ a → held ≡ b → a ≡ b
one_text held a b x y = sym x ∙ y
