use Rattle.std.proofs.Common.{◌≡◌, ◌∙◌, Vec, Global, ℕ, map, eqb, ap, sym}
use Rattle.std.specs.Cmp.Lexicographic.{pointwise}
use Rattle.boxes.specs.State.{Ends}
use Rattle.boxes.specs.Rows.{name_rule_of}
use Rattle.sqlaudit.proofs.SameTexts.{same_items, tells_text}
use Rattle.sqlaudit.proofs.box_rules.is_same_rule.Goals as goal

pub returns-in-Ends-b : goal.returns-in-Ends-b
returns-in-Ends-b c =
    let both = same_items (λ (x y : Vec ℕ Global). pointwise eqb x.items y.items) (λ x. x.items) (λ x y. tells_text x.items y.items) c.in-Ends.texts.items c.in-Ends-b.others.items in
    let a = ap name_rule_of c.in-Ends.is in
    let b = ap name_rule_of c.in-Ends-b.is in (
      λ t. a ∙ ap Ends (both.0 (sym c.eq.ensures ∙ t)) ∙ sym b,
      λ q. let rules : Ends (map (λ x. x.items) c.in-Ends.texts.items) ≡ Ends (map (λ x. x.items) c.in-Ends-b.others.items) = sym a ∙ q ∙ b in
          let texts : map (λ x. x.items) c.in-Ends.texts.items ≡ map (λ x. x.items) c.in-Ends-b.others.items = cc in
          c.eq.ensures ∙ both.1 texts,
    )
