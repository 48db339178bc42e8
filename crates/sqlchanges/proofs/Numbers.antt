-- Numbers that are passed to a statement as signed 64-bit integers.
use Rattle.std.proofs.Common.{◌≡◌, ℕ, ℤ, pos, FitsSigned, w64, to_z, of_z, sym, subst, ◌∙◌}
use Rattle.std.proofs.lemmas.Int.{to_z-of_z}

pub handed : (z : ℤ) (n : ℕ) → FitsSigned w64 (pos n) → z ≡ pos n → pos n ≡ to_z w64 (of_z w64 z)
handed z n fits is = sym is ∙ sym (to_z-of_z w64 z (subst (FitsSigned w64) (sym is) fits))
