use borrow.Author.Rules.{scaled_Fits}
use Rattle.std.proofs.Common.{None, refl, sym, subst}
use Rattle.std.proofs.lemmas.List.{get_or_default}
use Rattle.office.specs.Crowds.{TurnsSlot}
use Rattle.office.proofs.office.Office.turn_at.Goals as goal

pub returns-clause-turns : goal.returns-clause-turns
returns-clause-turns g c s kept =
    let h = c.turn_slot.ensures.turns s kept in (
      h.0,
      h.1,
      c.turn_slot.new.slot,
      refl,
      subst (λ o. TurnsSlot g.C.Clock.now_gives g.R.Read.remaining g.W.Write.contents c.args.due.most c.args.clock.now c.turn_slot.new.clock g.K.Keeper c.args.self.now.keeper c.turn_slot.new.self.keeper s h.0 o c.turn_slot.new.slot c.turn_slot.result.is_fault)
          (sym (get_or_default c.args.slots.now c.args.due.index None c.index-slots-due.result c.requires)) h.2,
    )

pub returns-clause-slot : goal.returns-clause-slot
returns-clause-slot g c = (c.turn_slot.new.slot, refl)

pub returns-clause-honest : goal.returns-clause-honest
returns-clause-honest g c = c.turn_slot.ensures.honest

pub returns-clause-unstaged : goal.returns-clause-unstaged
returns-clause-unstaged g c = c.turn_slot.ensures.unstaged

pub returns-clause-group : goal.returns-clause-group
returns-clause-group g c = c.turn_slot.ensures.group

pub returns-clause-never_less : goal.returns-clause-never_less
returns-clause-never_less g c = c.turn_slot.ensures.never_less

pub offset_bounds-slots-due : goal.offset_bounds-slots-due
offset_bounds-slots-due g c = search scaled_Fits
