-- The code tests each text.
use Rattle.std.proofs.Common.{ℕ, List, [], ◌∷◌, map, rules, tests}
use Rattle.std.specs.Prelude.{◌↔◌, Vec}
use Rattle.std.specs.declared.alloc.Global.{Global}
use Rattle.std.specs.List.{AllByRecursion}
use Rattle.std.proofs.lemmas.Iterator.{YieldsList-from_slice, cases_from_all}
use Rattle.sigtext.proofs.NamePieces.{each_piece}
use Rattle.boxes.specs.Sound.{IsRuleText}
use Rattle.boxes.proofs.forms.are_endings.Goals as goal

all_mapped : {X Y : Type 0} (P : Y → Type 0) (f : X → Y) (xs : List X) → AllByRecursion (λ x. P (f x)) xs ↔ AllByRecursion P (map f xs)
all_mapped P f [] = (λ h. tt, λ h. tt)
all_mapped P f (x ∷ xs) = let rest = all_mapped P f xs in (λ h. (h.0, rest.0 h.1), λ h. (h.0, rest.1 h.1))

pub returns : goal.returns
returns c =
    let texts = c.args.texts.now in
    let cases = cases_from_all _ _ c.all.result (λ (t : Vec ℕ Global). IsRuleText 32 t.items) (λ t. IsRuleText 32 t.items → ⊥) c.all.ensures.ran (YieldsList-from_slice texts cc) (λ x q k. search (rules, tests)) (λ x q k. search (rules, tests)) in
    let both = each_piece (λ (t : Vec ℕ Global). IsRuleText 32 t.items) _ _ cases in
    let mapped = all_mapped (IsRuleText 32) (λ (t : Vec ℕ Global). t.items) texts in
    (λ t. mapped.0 (both.0 t), λ each. both.1 (mapped.1 each))
