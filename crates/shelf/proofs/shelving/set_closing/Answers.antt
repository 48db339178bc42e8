use Rattle.std.proofs.Common.{◌≡◌, ◌∙◌, Some, ap, subst, arith}
use Rattle.std.specs.Prelude.{is_some}
use Rattle.sigtext.specs.Bytes.{bytes_cmp}
use Rattle.boxes.proofs.Lookups.{bytes_total}
use Rattle.shelf.specs.declared.shelf.ShelvedBox.{ShelvedBox}
use Rattle.shelf.specs.Maps.{Sets}
use Rattle.shelf.specs.Shelves.{bytes_of}
use Rattle.shelf.proofs.MapLemmas.{sets_of}
use Rattle.shelf.proofs.shelving.set_closing.Goals as goal

pub returns-in-Some : goal.returns-in-Some
returns-in-Some c b there =
    let old : ShelvedBox = c.in-Some.shelved.now in
    let same : ◌≡◌ {A = _} (Some old) (Some b) = c.in-Some.ensures.value ∙ there in
    let is : old ≡ b = cc in
    let with : ShelvedBox = record old { row = record old.row { closes = c.args.moment } } in
    let after = c.get_mut.follows.lender with in
    subst (λ (x : ShelvedBox). Sets bytes_cmp bytes_of c.args.name.now (Some (record x { row = record x.row { closes = c.args.moment } })) c.args.boxes.now.entries after.entries) is
    (sets_of bytes_cmp bytes_of bytes_total c.args.boxes.now after c.args.name.now (Some with) ((c.get_mut.follows.holds with).3 (ap is_some there)))

pub returns-in_default : goal.returns-in_default
returns-in_default c = grind arith
