use Rattle.std.proofs.Common.{[], ◌∷◌, ◌++◌, ap, ◌∙◌, append_assoc}
use Rattle.lists.proofs.link_lists.path_of.Goals as goal

pub returns : goal.returns
returns c =
    let in_box = c.args.in_box.now in
    let name = c.args.name.now in
    let front = c.in_ok-extend_from_slice.ensures.items ∙ ap (λ t. t ++ in_box) c.in_ok-path.ensures.items in
    let middle = c.in_ok-push.ensures.items ∙ ap (λ t. t ++ 47 ∷ []) front in
    c.in_ok-extend_from_slice-2.ensures.items ∙ ap (λ t. t ++ name) middle ∙ append_assoc (47 ∷ in_box) (47 ∷ []) name
