use Rattle.std.proofs.Common.{◌∙◌, refl, subst, sym}
use Rattle.lists.proofs.Settled.{SettlesHeld, on_err, on_err_never, on_ok, on_ok_never, settled_on}
use Rattle.lists.proofs.publishes.PublisherKeeper.settle.Goals as goal
use Rattle.lists.proofs.publishes.PublisherKeeper.settle.Goals.{then-is_ok, else-is_ok}

pub returns-clause-settles : goal.returns-clause-settles
returns-clause-settles g c =
    let p = c.args.self.now in
    let done = c.settle-done.result in
    elim c.if-is_ok.branch [
      | then-is_ok w ↦
          let new = w.put_held.new.self in
          subst (λ x. SettlesHeld g.K.Keeper g.S.Sheet.text p x done) (sym w.self-is)
          (settled_on g.K.Keeper g.S.Sheet.text p new c.settle-done.new.self c.take-held.result done c.settle-done.ensures.settles c.take-held.ensures.value
          w.put_held.ensures.keeper (w.put_held.ensures.held ∙ c.take-held.ensures.after) w.put_held.ensures.whole
          (on_ok done (record { published = w.put_held.ensures.published; begun = w.put_held.ensures.begun })) (on_err_never _ done (sym c.is_ok.ensures.value ∙ w.if-is_ok.true)))
      | else-is_ok w ↦
          let new = record p { keeper = c.settle-done.new.self; held = c.take-held.new.self } in
          subst (λ x. SettlesHeld g.K.Keeper g.S.Sheet.text p x done) (sym w.self-is)
          (settled_on g.K.Keeper g.S.Sheet.text p new c.settle-done.new.self c.take-held.result done c.settle-done.ensures.settles c.take-held.ensures.value
          refl c.take-held.ensures.after (λ whole. whole) (on_ok_never _ done (sym c.is_ok.ensures.value ∙ w.if-is_ok.false)) (on_err done refl))
    ]
