use Rattle.std.proofs.Common.{◌≡◌, ℕ, eqb, not, List, [], ◌∷◌, length, get_or, sym, ap, ◌∙◌, arith}
use Rattle.std.proofs.lemmas.Bool.{false≢true}
use Rattle.sigtext.specs.Target.{BeginsWithSlash}
use borrow.Author.Tests.{eqb-true}
use Rattle.links.proofs.orders.begins_with_slash.Goals as goal

slash_first : (path : List ℕ) → get_or path 0 0 ≡ 47 → BeginsWithSlash path
slash_first [] is = absurd (omega (arith, is))
slash_first (b ∷ rest) is = (rest, λ i. is i ∷ rest)

pub returns-then-not-is_empty : goal.returns-then-not-is_empty
returns-then-not-is_empty c = (λ t. slash_first c.args.path.now (eqb-true _ 47 t), λ (rest, is). ap (λ path. eqb (get_or path 0 0) 47) is)

pub returns-else-not-is_empty : goal.returns-else-not-is_empty
returns-else-not-is_empty c = (
  λ t. absurd (false≢true (sym (ap not c.if-not-is_empty.false) ∙ t)),
  λ (rest, is). absurd (omega (arith, eqb-true (length c.args.path.now) 0 (sym c.if-not-is_empty.ensures), ap length is)),
)

pub bounds-path-0 : goal.bounds-path-0
bounds-path-0 c = grind arith
