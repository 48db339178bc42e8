use Rattle.std.proofs.Common.{◌≡◌, ◌+◌, ◌∷◌, ◌++◌, [], ℕ, List, drop, map, rules, ap, sym, ◌∙◌, append_assoc}
use Rattle.std.proofs.lemmas.List.{append-nil, at_drop_all, at_drop_more}
use Rattle.sqltables.specs.Tables.{joined}
use Rattle.sqltables.proofs.RuleTexts.{behind, joined_first}
use Rattle.sqlchanges.proofs.box_rows.join.Goals as goal

-- one more text
one_behind : (text other : List ℕ) (others : List (List ℕ)) → ((text ++ 0x2C ∷ []) ++ other) ++ behind others ≡ text ++ behind (other ∷ others)
one_behind text other others = append_assoc (text ++ 0x2C ∷ []) other (behind others) ∙ append_assoc text (0x2C ∷ []) (other ++ behind others)

pub others-init : goal.others-init
others-init c =
    let whole : c.args.texts.now ≡ c.in-Some.first.now ∷ c.in-Some.others.now = search rules in
    let front : c.extend_from_slice.new.self.items ≡ c.in-Some.first.now.items = search rules in
    ap (λ t. t ++ behind (map (λ t. t.items) c.in-Some.others.now)) front ∙ joined_first c.in-Some.first.now.items (map (λ t. t.items) c.in-Some.others.now)
    ∙ ap (λ ts. joined (map (λ t. t.items) ts)) (sym whole)

pub others-preserved : goal.others-preserved
others-preserved c =
    let text = c.others.text.items in
    let others = c.in-Some.others.now in
    let other = c.other-item.result in
    let left = drop (c.others.other-index + 1) others in
    let wrote : c.extend_from_slice-in-others.new.self.items ≡ (text ++ 0x2C ∷ []) ++ other.items = c.in_ok-extend_from_slice-2.ensures.items ∙ ap (◌++◌ c.push.new.self.items) c.deref-in-others.ensures.value ∙ ap (λ t. t ++ other.items) c.in_ok-push.ensures.items in
    ap (λ t. t ++ behind (map (λ t. t.items) left)) wrote ∙ one_behind text other.items (map (λ t. t.items) left)
    ∙ sym (at_drop_more (λ ts. text ++ behind (map (λ t. t.items) ts)) others c.others.other-index other c.others-test.true ∙ ap (λ x. text ++ behind (map (λ t. t.items) (x ∷ left))) (sym c.other-item.is))
    ∙ c.others.invariant

pub returns : goal.returns
returns c = record {
  value = sym (append-nil c.others.text.items) ∙ sym (at_drop_all (λ ts. c.others.text.items ++ behind (map (λ t. t.items) ts)) c.in-Some.others.now c.others.other-index c.others-test.false) ∙ c.others.invariant;
}
