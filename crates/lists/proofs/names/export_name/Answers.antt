use Rattle.std.proofs.Common.{◌∙◌, ◌++◌, ◌∷◌, [], ap, append_assoc}
use Rattle.std.specs.Fmt.{decimal}
use Rattle.lists.specs.Names.{IsExportName}
use Rattle.lists.proofs.Components.{component}
use Rattle.lists.proofs.names.export_name.Goals as goal

named : (c : goal.In_ok-push_part) → IsExportName c.args.number c.args.name.now c.push_part.new.name.items
named c =
    let (part, is_part, items) = c.in_ok-push_part.ensures in
    let number = c.in_ok-text.ensures.items ∙ c.as_bytes.ensures.value ∙ c.format.ensures.text in
    let before = c.in_ok-push.ensures.items ∙ ap (λ t. t ++ 45 ∷ []) number in
    record {
      last = c.last_part.result.now;
      is_last = c.last_part.ensures;
      front = c.front.result.now;
      is_front = c.front.ensures;
      part = part;
      is_part = is_part;
      is = items ∙ ap (λ t. t ++ part) before ∙ append_assoc (decimal c.args.number) (45 ∷ []) part;
    }

pub returns-clause-name : goal.returns-clause-name
returns-clause-name c = named c

pub returns-clause-component : goal.returns-clause-component
returns-clause-component c = component c.args.number c.args.name.now c.push_part.new.name.items c.ranges.number.fits (named c)
