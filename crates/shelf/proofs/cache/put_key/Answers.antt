use Rattle.std.proofs.Common.{◌∙◌, Some, ap, sym}
use Rattle.std.specs.FinMap.{get}
use Rattle.shelf.specs.Recalled.{IsKeyIn}
use Rattle.shelf.proofs.Entries.{none_of, new_entry}
use Rattle.shelf.proofs.cache.put_key.Goals as goal

pub returns-in-Ok : goal.returns-in-Ok
returns-in-Ok c s each there =
    let made = c.in-Ok.ensures in
    new_entry (IsKeyIn s) c.in-Ok.id.items c.in-Ok.known c.make_room.new.kept.entries c.put.new.kept.entries c.put.ensures (λ q x e. each q x (c.make_room.ensures q x e)) (record {
      row = ap (get s.keys) made.0 ∙ there ∙ ap (λ k. Some k) (sym made.1);
      uses = λ box has. absurd (none_of c.in-Ok.known.uses box made.2 has);
    })
