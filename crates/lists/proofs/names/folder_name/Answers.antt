use Rattle.std.proofs.Common.{◌≡◌, ◌∙◌, ◌++◌, ap, subst, sym}
use Rattle.lists.specs.Names.{IsFolderName, IsPart}
use Rattle.lists.proofs.Components.{folder_component}
use Rattle.lists.proofs.names.folder_name.Goals as goal

named : (c : goal.In_ok-push_part) → IsFolderName c.args.in_box.now c.push_part.new.name.items
named c =
    let (part, is_part, items) = c.in_ok-push_part.ensures in
    let same : c.push_part.new.name.items ≡ part = items ∙ ap (λ t. t ++ part) c.new-text.ensures.items in
    record {
      called = c.called.result.now;
      is_called = c.called.ensures;
      front = c.front.result.now;
      is_front = c.front.ensures;
      is_part = subst (λ t. IsPart c.front.result.now t) (sym same) is_part;
    }

pub returns-clause-name : goal.returns-clause-name
returns-clause-name c = named c

pub returns-clause-component : goal.returns-clause-component
returns-clause-component c = folder_component c.args.in_box.now c.push_part.new.name.items (named c)
