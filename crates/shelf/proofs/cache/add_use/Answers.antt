use Rattle.std.proofs.Common.{◌∙◌, inl, inr}
use Rattle.shelf.proofs.Entries.{use_there}
use Rattle.shelf.proofs.cache.add_use.Goals as goal

pub returns-in-Ok : goal.returns-in-Ok
returns-in-Ok c box has =
    elim (use_there c.insert.result c.args.uses.now c.insert.new.self c.in-Ok.name c.insert.ensures.updates c.insert.ensures.err box has) [
      | inl was ↦ inl was
      | inr same ↦ inr (same ∙ c.in-Ok.ensures.items)
    ]
