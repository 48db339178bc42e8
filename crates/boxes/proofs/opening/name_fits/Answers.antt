-- The rule's texts, as the code compares them.
use Rattle.std.proofs.Common.{◌∙◌, ap, sym, subst, eqb, List, ℕ, rules, tests, arith}
use Rattle.std.specs.List.{starts_with}
use Rattle.std.proofs.lemmas.Iterator.{YieldsList-from_slice}
use Rattle.std.proofs.lemmas.Iterator.Search.{any_from_yields_List}
use Rattle.boxes.specs.Opening.{Fits}
use Rattle.boxes.specs.Rows.{name_rule_of}
use Rattle.boxes.proofs.NameTexts.{begins, ends, ends_with_one}
use Rattle.boxes.proofs.opening.name_fits.Goals as goal

pub returns-in-Begins : goal.returns-in-Begins
returns-in-Begins c =
    let is = ap name_rule_of c.in-Begins.is in
    let text = c.in-Begins.text.items in
    let value = c.starts_with.ensures.value ∙ ap (λ (t : List ℕ). starts_with eqb c.args.name.now t) c.deref-in-Begins.ensures.value in
    let both = begins c.starts_with.result c.args.name.now text value in (
      λ t. subst (λ r. Fits r c.args.name.now) (sym is) (both.0 t),
      λ fits. both.1 (subst (λ r. Fits r c.args.name.now) is fits),
    )

pub returns-in-Ends : goal.returns-in-Ends
returns-in-Ends c =
    let is = ap name_rule_of c.in-Ends.is in
    let name = c.args.name.now in
    let some = any_from_yields_List (λ t. ends name t.items) _ _ c.any.result c.any.ensures.ran (YieldsList-from_slice c.in-Ends.texts.items cc) (λ x b q k. search (rules, tests)) in
    let both = ends_with_one (λ t. t.items) c.any.result name c.in-Ends.texts.items some in (
      λ t. subst (λ r. Fits r name) (sym is) (both.0 t),
      λ fits. both.1 (subst (λ r. Fits r name) is fits),
    )

pub returns-in-Any : goal.returns-in-Any
returns-in-Any c = grind arith
