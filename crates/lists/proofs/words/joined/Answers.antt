use Rattle.std.proofs.Common.{rules, ◌≡◌, ◌∙◌, List, ℕ, [], ◌∷◌, ◌++◌, map, sym, ap, Vec, arith}
use Rattle.std.specs.List.{join_with_byte}
use Rattle.std.specs.declared.alloc.Global.{Global}
use Rattle.std.proofs.lemmas.List.{at_drop_all, append-nil}
use Rattle.std.proofs.lemmas.Grind.{common_steps}
use Rattle.sigtext.proofs.JoinedTexts.{joined_behind, joined_behind-nil, pieces_written}
use Rattle.lists.proofs.ListTexts.{joined_at, joined_first}
use Rattle.lists.proofs.words.joined.Goals as goal

pub others-init : goal.others-init
others-init c =
    let whole : c.args.texts.now ≡ c.in-Some.first.now ∷ c.in-Some.others.now = search rules in
    let front : c.extend_from_slice.new.self.items ≡ c.in-Some.first.now.items = search rules in
    ap (λ ts. join_with_byte c.args.between (map (λ t. t.items) ts)) whole
    ∙ joined_first c.args.between c.in-Some.first.now.items (map (λ t. t.items) c.in-Some.others.now)
    ∙ ap (λ (t : List ℕ). t ++ joined_behind (c.args.between ∷ []) c.args.between (map (λ t. t.items) c.in-Some.others.now)) (sym front)

pub others-preserved : goal.others-preserved
others-preserved c =
    let step = joined_at c.args.between c.in-Some.others.now c.others.other-index _ c.others-test.true in
    pieces_written _ _ _ _ (c.args.between ∷ []) _ _ (c.others.invariant ∙ ap (λ (t : List ℕ). c.others.text.items ++ t) step) c.in_ok-push.ensures.items
    (c.in_ok-extend_from_slice-2.ensures.items ∙ ap (λ (t : List ℕ). c.push.new.self.items ++ t) (c.deref-in-others.ensures.value ∙ ap (λ v. v.items) c.other-item.is))

pub returns : goal.returns
returns c =
    let none = at_drop_all (λ (rest : List (Vec ℕ Global)). joined_behind (c.args.between ∷ []) c.args.between (map (λ t. t.items) rest)) c.in-Some.others.now c.others.other-index c.others-test.false
    ∙ joined_behind-nil (c.args.between ∷ []) c.args.between in
    sym (c.others.invariant ∙ ap (λ (t : List ℕ). c.others.text.items ++ t) none ∙ append-nil c.others.text.items)

pub returns-in_default : goal.returns-in_default
returns-in_default c = grind (arith, common_steps)
