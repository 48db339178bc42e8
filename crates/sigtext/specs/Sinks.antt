-- The text that a sink took.
use Rattle.std.specs.Prelude.{◌≡◌, ℕ, List, [], ◌++◌}
use Rattle.std.proofs.Common.{sym, ap, ◌∙◌, append_assoc}
use Rattle.std.proofs.lemmas.List.{append-nil}
use Rattle.sigtext.specs.Bytes.{IsBeginning}

-- If the sink failed, it took a prefix of the text. takes: the first sink becomes the second by taking these bytes.
pub record TakesBeginning {S : Type 0} (takes : S → List ℕ → S → Type 0) (old : S) (text : List ℕ) (new : S) : Type 0 where
  pub front : List ℕ
  pub is_front : IsBeginning front text
  pub taken : takes old front new

-- the two laws of a sink hold for a vector
pub appends_nothing : (v : List ℕ) → v ≡ v ++ []
appends_nothing v = sym (append-nil v)

pub appends_both : (v w x a b : List ℕ) → w ≡ v ++ a → x ≡ w ++ b → x ≡ v ++ (a ++ b)
appends_both v w x a b p q = q ∙ ap (λ (t : List ℕ). t ++ b) p ∙ append_assoc v a b
