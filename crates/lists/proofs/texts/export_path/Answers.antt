use Rattle.std.proofs.Common.{[], ◌∷◌, ◌++◌, ap, subst, ◌∙◌, append_assoc}
use Rattle.lists.specs.Names.{IsExportName, IsFolderName}
use Rattle.lists.proofs.texts.export_path.Goals as goal

pub returns-clause-folder : goal.returns-clause-folder
returns-clause-folder c = (subst (λ t. IsFolderName t c.in_ok-folder.folder.items) c.deref.ensures.value c.in_ok-folder.ensures.name, c.in_ok-folder.ensures.component)

pub returns-clause-name : goal.returns-clause-name
returns-clause-name c = (subst (λ t. IsExportName c.args.number t c.in_ok-name.name.items) c.deref-2.ensures.value c.in_ok-name.ensures.name, c.in_ok-name.ensures.component)

pub returns-clause-text : goal.returns-clause-text
returns-clause-text c =
    let front = c.in_ok-text.ensures.items ∙ c.deref-3.ensures.value in
    let middle = c.in_ok-push.ensures.items ∙ ap (λ t. t ++ 47 ∷ []) front in
    c.in_ok-extend_from_slice.ensures.items ∙ (λ i. middle i ++ c.deref-4.ensures.value i) ∙ append_assoc c.in_ok-folder.folder.items (47 ∷ []) c.in_ok-name.name.items
