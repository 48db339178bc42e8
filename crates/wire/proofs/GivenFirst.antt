-- Giving bytes from the front of those that were read ahead.
use Rattle.std.proofs.Common.{◌≡◌, ◌≤◌, ◌+◌, ℕ, List, ◌++◌, length, take, drop, sym, ap, ◌∙◌, take-append-drop}
use Rattle.std.proofs.lemmas.List.{length-take-le, drop-drop}
use Rattle.std.proofs.Math.Seq.{take-append_seam}

-- the first n bytes from s on are given, and the others stay
pub given_first : (xs front rest seen : List ℕ) (s n : ℕ) → seen ≡ drop s xs → n ≤ length seen → front ≡ take n seen
    → drop s xs ≡ take n (front ++ rest) ++ drop (s + n) xs
given_first xs front rest seen s n are fits first =
    let long : length front ≡ n = ap length first ∙ length-take-le n seen fits in
    let taken : take n (front ++ rest) ≡ take n (drop s xs) =
    ap (λ (k : ℕ). take k (front ++ rest)) (sym long) ∙ take-append_seam front rest ∙ first ∙ ap (take n) are in
    sym (ap (λ (t : List ℕ). t ++ drop (s + n) xs) taken ∙ ap (λ (t : List ℕ). take n (drop s xs) ++ t) (sym (drop-drop n s xs)) ∙ take-append-drop n (drop s xs))
