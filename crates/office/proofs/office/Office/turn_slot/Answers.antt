use Rattle.std.proofs.Common.{◌≡◌, ◌∙◌, None, rules, false, Some, Option, refl, sym, ap, subst, arith}
use Rattle.std.specs.Prelude.{is_some, not}
use Rattle.office.specs.Crowds.{TurnsSlot, nobody, fails_now, is_fault_end}
use Rattle.wire.specs.declared.seat.Seat.{Seat}
use Rattle.office.proofs.CrowdTurns.{fails_open, fails_closed, taken_by}
use Rattle.office.proofs.Holding.{group_still}
use Rattle.office.proofs.office.Office.turn_slot.Goals as goal
use Rattle.office.proofs.office.Office.turn_slot.Goals.{then-was_open, else-was_open}

pub returns-in_default-clause-turns : goal.returns-in_default-clause-turns
returns-in_default-clause-turns g c s kept =
    let none : c.args.slot.now ≡ None = search rules in (
      s,
      record { means = kept.means; sound = kept.sound },
      subst (λ (o : Option (Seat g.row.R.Denot g.row.W.Denot)). TurnsSlot g.C.Clock.now_gives g.R.Read.remaining g.W.Write.contents c.args.due.most c.args.clock.now c.args.clock.now g.K.Keeper c.args.self.now.keeper c.args.self.now.keeper s s o o false)
          (sym none) (nobody refl refl refl),
    )

pub returns-clause-turns : goal.returns-clause-turns
returns-clause-turns g c s kept =
    let h = c.take_turn-spare.ensures.turns s kept in
    let was : not c.is_none-was_open.result ≡ is_some c.in-Some.seat.end = sym c.is_none-was_open.ensures ∙ ap is_some c.end.ensures in
    let slot : c.if-was_open.slot ≡ Some c.take_turn-spare.new.seat = elim c.if-was_open.branch [ then-was_open w ↦ w.slot-is | else-was_open w ↦ w.slot-is ] in
    let told : c.if-was_open.result ≡ fails_now c.in-Some.seat.end c.take_turn-spare.new.seat.end =
    elim c.if-was_open.branch [
      | then-was_open w ↦ w.result-is ∙ w.has_failed.ensures ∙ ap is_fault_end w.end-then-was_open.ensures ∙ fails_open c.in-Some.seat.end c.take_turn-spare.new.seat.end c.is_none-was_open.result was w.if-was_open.true
      | else-was_open w ↦ w.result-is ∙ w.if-was_open.false ∙ fails_closed c.in-Some.seat.end c.take_turn-spare.new.seat.end c.is_none-was_open.result was w.if-was_open.false
    ] in (
      h.0,
      h.1,
      taken_by g.R.Read.remaining g.W.Write.contents c.args.due.most g.C.Clock.now_gives g.K.Keeper c.args.clock.now c.take_turn-spare.new.clock c.args.self.now.keeper c.take_turn-spare.new.self.keeper s h.0
          c.args.slot.now c.if-was_open.slot c.if-was_open.result c.in-Some.seat c.take_turn-spare.new.seat c.in-Some.is slot told h.2 c.take_turn-spare.ensures.faults
          (record { all = c.take_turn-spare.ensures.all; lacks = c.take_turn-spare.ensures.awaits }),
    )

pub returns-clause-honest : goal.returns-clause-honest
returns-clause-honest g c = grind arith

pub returns-in_default-clause-unstaged : goal.returns-in_default-clause-unstaged
returns-in_default-clause-unstaged g c = grind arith

pub returns-in_default-clause-group : goal.returns-in_default-clause-group
returns-in_default-clause-group g c = group_still

pub returns-clause-group : goal.returns-clause-group
returns-clause-group g c = c.take_turn-spare.ensures.rest.group
