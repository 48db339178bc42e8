-- The size in the receipt of the stored file.
use Rattle.std.proofs.Common.{◌≡◌, ◌∙◌, rules}
use Rattle.std.specs.Prelude.{option_map}
use Rattle.boxes.specs.declared.rows.ReceiptRow.{ReceiptRow}
use Rattle.boxes.proofs.Asked.{sizes_stand}
use Rattle.boxes.proofs.uploads.standing_size.Goals as goal

pub returns : goal.returns
returns c s place sound at =
    let sizes : c.map.result ≡ option_map (λ (r : ReceiptRow). r.size) c.args.view.now.standing = search rules in
    sizes ∙ sizes_stand s place c.args.view.now.standing sound at
