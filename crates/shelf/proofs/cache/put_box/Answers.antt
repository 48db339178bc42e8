use Rattle.std.proofs.Common.{◌∙◌, Some, ap, sym, subst}
use Rattle.std.specs.FinMap.{get}
use Rattle.std.specs.Prelude.{IfSome}
use Rattle.boxes.specs.Views.{AreTotals}
use Rattle.shelf.specs.Recalled.{IsBoxIn}
use Rattle.shelf.proofs.Entries.{new_entry}
use Rattle.shelf.proofs.cache.put_box.Goals as goal

pub returns-in-Ok : goal.returns-in-Ok
returns-in-Ok c s each there =
    let made = c.in-Ok.ensures in
    new_entry (IsBoxIn s) c.in-Ok.name.items c.in-Ok.known c.make_room.new.kept.entries c.put.new.kept.entries c.put.ensures (λ q x e. each q x (c.make_room.ensures q x e)) (record {
      row = ap (get s.boxes) made.0 ∙ there ∙ ap (λ b. Some b) (sym made.1);
      totals = subst (λ o. IfSome o (AreTotals s c.in-Ok.name.items)) (sym made.2) tt;
    })

pub returns-in_default : goal.returns-in_default
returns-in_default c s each there q x e = each q x (c.make_room.ensures q x e)
