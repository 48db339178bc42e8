-- Tests of texts.
use Rattle.std.proofs.Common.{◌≡◌, ℕ, Bool, true, false, not, eqb, List, refl, sym, ◌∙◌}
use Rattle.std.specs.Cmp.Lexicographic.{pointwise}
use Rattle.std.proofs.lemmas.Slice.Eq.{slice_eq-Decides}
use Rattle.std.proofs.lemmas.Bool.Decides.{Decides-eqb}

differs : true ≡ false → ⊥
differs e = cc

pub texts_equal : (a b : List ℕ) → pointwise eqb a b ≡ true → a ≡ b
texts_equal a b e = (slice_eq-Decides Decides-eqb a b (pointwise eqb a b) refl).0 e

pub texts_same : (a b : List ℕ) → a ≡ b → pointwise eqb a b ≡ true
texts_same a b same = (slice_eq-Decides Decides-eqb a b (pointwise eqb a b) refl).1 same

pub texts_differ : (a b : List ℕ) → pointwise eqb a b ≡ false → a ≡ b → ⊥
texts_differ a b e same = differs (sym (texts_same a b same) ∙ e)

pub clash : (b : Bool) → b ≡ false → b ≡ true → ⊥
clash b f t = differs (sym t ∙ f)

pub not_true : (b : Bool) → true ≡ not b → b ≡ false
not_true true e = absurd cc
not_true false e = refl

pub not_false : (b : Bool) → false ≡ not b → b ≡ true
not_false true e = refl
not_false false e = absurd cc
