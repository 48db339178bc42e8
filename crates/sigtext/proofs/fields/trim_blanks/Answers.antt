use Rattle.std.proofs.Common.{◌∙◌, ap, List, ℕ}
use Rattle.std.specs.Prelude.{reverse}
use Rattle.sigtext.specs.SignedHeaders.{without_leading_blanks, trimmed}
use Rattle.sigtext.proofs.fields.trim_blanks.Goals as goal

pub returns : goal.returns
unfolding trimmed
returns c = c.without_blanks_behind.ensures ∙ ap (λ (t : List ℕ). reverse (without_leading_blanks (reverse t))) c.without_blanks_in_front.ensures
