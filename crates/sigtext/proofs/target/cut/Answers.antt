use Rattle.std.proofs.Common.{◌≡◌, ◌≢◌, ℕ, ◌+◌, ◌-◌, ◌<◌, List, ◌∷◌, ◌++◌, length, get_or, take, drop, sym, ap, ◌∙◌, arith, length-drop, All}
use Rattle.std.proofs.lemmas.Bool.{eqb-true, eq-eqb}
use Rattle.std.proofs.lemmas.List.{at_drop_more, get_or-take, length-take, take-append-drop, take_all}
use Rattle.std.proofs.lemmas.List.Elements.{All-from_get_or}
use Rattle.std.proofs.lemmas.Grind.{common_steps}
use Rattle.memchr.specs.Find.{NoneBefore, Passes, is_byte}
use Rattle.sigtext.proofs.target.cut.Goals as goal

-- a text is what stands before the first such byte, the byte, and what stands behind it
cut_first : (b : ℕ) (text : List ℕ) (i : ℕ) → NoneBefore (Passes (is_byte b) text) 0 (length text) i → Passes (is_byte b) text i
    → (text ≡ take i text ++ b ∷ take (length text - (i + 1)) (drop (i + 1) text)) × All (λ x. x ≢ b) (take i text)
cut_first b text i first is =
    let behind = take_all (length text - (i + 1)) (drop (i + 1) text) (omega (arith, length-drop (i + 1) text)) in
    let from : drop i text ≡ b ∷ drop (i + 1) text =
    at_drop_more (λ (t : List ℕ). t) text i 0 first.high ∙ ap (λ (x : ℕ). x ∷ drop (i + 1) text) (eqb-true (get_or text i 0) b is) in (
      sym (take-append-drop i text) ∙ ap (λ (t : List ℕ). take i text ++ t) (from ∙ ap (λ (t : List ℕ). b ∷ t) (sym behind)),
      All-from_get_or (λ x. x ≢ b) (take i text) 0 (λ k within same.
          let before : k < i = omega (arith, length-take i text, within) in
          first.before k (omega arith) before (eq-eqb (get_or text k 0) b (sym (get_or-take i text k 0 before) ∙ same))),
    )

pub returns : goal.returns
returns c = let found = c.in_ok-at.ensures in cut_first c.args.byte c.args.text.now c.in_ok-at.at found.0 found.1

pub slice_bounds-result-end : goal.slice_bounds-result-end
slice_bounds-result-end c = grind (arith, common_steps)
