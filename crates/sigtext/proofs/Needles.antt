-- Occurrences of a text within another.
use Rattle.std.proofs.Common.{◌≡◌, ◌≢◌, ℕ, ◌+◌, List, ◌++◌, length, take, drop, sym, ap, ◌∙◌, subst, arith, length-append}
use Rattle.std.proofs.Math.Seq.{drop-append_seam, take-append_seam}
use Rattle.std.proofs.lemmas.List.{take-append-drop}
use Rattle.memchr.specs.Find.{Nowhere, OccursAt}
use Rattle.memchr.proofs.lemmas.MatchLemmas.{OccursAt-from_part, OccursAt-split}

-- a needle after a prefix occurs where the prefix ends
pub occurs_behind : (front needle rest : List ℕ) → OccursAt (front ++ (needle ++ rest)) needle (length front)
occurs_behind front needle rest =
    OccursAt-from_part (front ++ (needle ++ rest)) needle (length front)
    (omega (arith, length-append front (needle ++ rest), length-append needle rest))
    (ap (take (length needle)) (drop-append_seam front (needle ++ rest)) ∙ take-append_seam needle rest)

-- a text without an occurrence has no such parts
pub absent : (hay needle front rest : List ℕ) → Nowhere (OccursAt hay needle) 0 (length hay + 1) → hay ≢ front ++ (needle ++ rest)
absent hay needle front rest none is =
    let occurs = subst (λ (text : List ℕ). OccursAt text needle (length front)) (sym is) (occurs_behind front needle rest) in
    none (length front) (omega arith) (omega (arith, occurs.fits)) occurs

-- with an occurrence the text has such parts
pub parted : (hay needle : List ℕ) (at : ℕ) → OccursAt hay needle at → hay ≡ take at hay ++ (needle ++ drop (at + length needle) hay)
parted hay needle at occurs = sym (take-append-drop at hay) ∙ ap (λ (text : List ℕ). take at hay ++ text) (OccursAt-split hay needle at occurs)
