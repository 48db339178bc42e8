use Rattle.std.proofs.Common.{[], ◌∷◌, ◌∙◌, ◌+◌, ap, refl, sym, arith}
use Rattle.sockets.proofs.Moved.{goes_out, passes_none, may_of, went_none, went_one}
use Rattle.sockets.proofs.gate.Gate+L+L+Stream.free.Goals as goal

pub returns-in-Some-clause-moves : goal.returns-in-Some-clause-moves
returns-in-Some-clause-moves g c =
    let seat = c.in-Some.seat in
    let may = may_of _ seat (sym c.free_slot.ensures.given ∙ c.in-Some.is) c.requires.may in (
      [],
      seat ∷ [],
      goes_out _ _ c.args.self.now _ seat refl refl refl refl refl (ap (λ n. c.args.self.now.unsent + n) c.lacking.ensures.count) may c.close.ensures.closed,
      went_one c.free_slot.result seat c.in-Some.is c.free_slot.ensures.changes,
    )

pub returns-in_default-clause-moves : goal.returns-in_default-clause-moves
returns-in_default-clause-moves g c = ([], [], passes_none _ _ c.args.self.now, went_none c.free_slot.result c.in_default.is c.free_slot.ensures.changes)

pub overflow_add-self-in-Some : goal.overflow_add-self-in-Some
overflow_add-self-in-Some g c = omega (arith, c.args.self.now.lacking, c.requires.counted, c.lacking.ensures.most)

pub invariant_of-self : goal.invariant_of-self
invariant_of-self g c = record { lacking = omega (arith, c.args.self.now.lacking, c.lacking.ensures.most) }

pub free_slot-requires : goal.free_slot-requires
free_slot-requires g c = grind arith

pub overflow_add-self : goal.overflow_add-self
overflow_add-self g c = grind arith

pub returns-in-Some-clause-freed : goal.returns-in-Some-clause-freed
returns-in-Some-clause-freed g c = grind arith

pub returns-in-Some-clause-stays : goal.returns-in-Some-clause-stays
returns-in-Some-clause-stays g c = grind arith

pub returns-in_default-clause-stays : goal.returns-in_default-clause-stays
returns-in_default-clause-stays g c = grind arith
