use Rattle.std.proofs.Common.{[], ◌∷◌, ◌++◌, ap, ◌∙◌, append_assoc}
use Rattle.lists.proofs.texts.sum_text.Goals as goal

pub returns : goal.returns
returns c =
    let digits = c.args.digits.now in
    let path = c.args.path.now in
    let spaced = c.in_ok-extend_from_slice.ensures.items ∙ ap (λ t. t ++ 32 ∷ 32 ∷ []) c.in_ok-text.ensures.items in
    let named = c.in_ok-extend_from_slice-2.ensures.items ∙ ap (λ t. t ++ path) spaced ∙ append_assoc digits (32 ∷ 32 ∷ []) path in
    c.in_ok-push.ensures.items ∙ ap (λ t. t ++ 10 ∷ []) named
