use Rattle.std.proofs.Common.{◌∙◌}
use Rattle.boxes.specs.State.{Place}
use Rattle.boxes.proofs.Asked.{sizes_stand}
use Rattle.shelf.proofs.Followed.{size_told, with_size}
use Rattle.shelf.proofs.cache.Cache.keep_size.Goals as goal

pub returns : goal.returns
returns c s sound h at =
    let place : Place = record { box = c.args.in_box.now; name = c.args.name.now } in
    with_size c.args.self.now s c.ok.result h (size_told s c.new.result c.ok.result c.args.in_box.now c.args.name.now c.told_size.result c.ok.ensures.value c.new.ensures (c.told_size.ensures ∙ sizes_stand s place c.args.receipt.now sound at))
