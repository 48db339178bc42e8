use Rattle.std.specs.Prelude.{not}
use Rattle.std.proofs.Common.{inl, inr, [], ◌++◌, ◌∷◌, ◌∙◌, ap, refl, subst, sym, arith}
use Rattle.sockets.specs.Listening.{unready}
use Rattle.sockets.proofs.Moved.{comes_in, moves_called, moves_none, passes_still, puts_off}
use Rattle.sockets.proofs.Told.{none_free, one_free, put_off_so}
use Rattle.sockets.proofs.gate.Gate+L+L+Stream.let_in.Goals as goal
use Rattle.sockets.proofs.gate.Gate+L+L+Stream.let_in.Goals.{then-not-may_open-via-then-not-may_open, then-not-may_open-via-else-not-may_open+then-is_none}

pub returns-in_default : goal.returns-in_default
returns-in_default g c = record { moves = moves_none _ _ _ _ c.args.self.now c.args.slots.now; told = ((refl, refl, refl), refl, refl, inl (omega (arith, c.in_default.ensures))) }

pub returns-then-not-may_open : goal.returns-then-not-may_open
returns-then-not-may_open g c =
    record {
      moves = moves_none _ _ _ _ c.args.self.now c.args.slots.now;
      told = (
        (refl, refl, refl),
        refl,
        refl,
        inr (elim c.then-not-may_open.branch [
          | then-not-may_open-via-then-not-may_open w ↦ inl (c.may_open.ensures.all w.if-not-may_open.true)
          | then-not-may_open-via-else-not-may_open+then-is_none w ↦ inr (inl (none_free w.first_free.result c.args.slots.now (w.is_none.ensures ∙ ap not w.if-is_none.true) w.first_free.ensures.none))
        ]),
      );
    }

pub seat_in-index-requires-clause-free : goal.seat_in-index-requires-clause-free
seat_in-index-requires-clause-free g c = one_free c.first_free.result c.args.slots.now (c.is_none.ensures ∙ ap not c.if-is_none.false) c.first_free.ensures.some

pub returns-in_default-take : goal.returns-in_default-take
returns-in_default-take g c =
    let stays = passes_still _ _ c.args.self.now _ (c.take.ensures.after ∙ (sym c.in_default-take.is ∙ c.take.ensures.value)) refl refl refl refl refl (λ log is. is) in
    record { moves = moves_called _ _ _ _ c.args.self.now _ c.args.slots.now stays; told = (c.take.ensures.after, refl, refl, refl) }

pub returns-in-Ok : goal.returns-in-Ok
returns-in-Ok g c =
    let seat = c.new_seat.result in
    let new = c.new_seat.ensures in
    let waits = sym c.take.ensures.value ∙ c.in-Some-take.is in
    let comes = comes_in _ _ c.args.self.now _ c.in-Some-take.stream seat c.in-Ok.reader c.in-Ok.writer waits c.take.ensures.after refl refl (omega (arith, c.in-Some.ensures)) refl refl
    (c.may_open.ensures.few c.if-not-may_open.false) c.in-Ok.ensures.ends new.reader new.writer new.new new.untouched c.in-Ok.ensures.opened in
    record { moves = (seat ∷ [], [], comes, c.seat_in-index.ensures.changes); told = (c.take.ensures.after, refl, refl, c.seat_in-index.ensures.within, c.seat_in-index.ensures.free, seat, new.untouched, c.seat_in-index.ensures.seated) }

pub returns-in-Err : goal.returns-in-Err
returns-in-Err g c =
    let told = g.L.Listener.told in
    let back = c.in-Err.field-0.stream in
    let error = c.in-Err.field-0.error in
    let others = c.put_off.ensures.others in
    let waits = sym c.take.ensures.value ∙ c.in-Some-take.is in
    let passes = puts_off _ _ c.args.self.now c.put_off.new.self c.put_off.result c.in-Some-take.stream back c.take.new.self error waits c.in-Err.ensures.back c.put_off.ensures.told c.take.ensures.after others.1 others.2
    others.3 others.4 others.5 (λ log is. subst (λ l. told l (log ++ unready back error ∷ [])) (sym others.0) (c.in-Err.ensures.unready log is)) in
    record { moves = moves_called _ _ _ _ c.args.self.now c.put_off.new.self c.args.slots.now passes; told = put_off_so told c.args.self.now c.put_off.new.self c.put_off.result c.in-Some-take.stream back c.take.new.self error c.args.slots.now waits c.in-Err.ensures.back c.put_off.ensures.told c.take.ensures.after others.1 others.3 others.4 (λ log is. subst (λ l. told l (log ++ unready back error ∷ [])) (sym others.0) (c.in-Err.ensures.unready log is)) }

pub invariant_of-self : goal.invariant_of-self
invariant_of-self g c = grind arith

pub seat_in-index-requires-clause-new : goal.seat_in-index-requires-clause-new
seat_in-index-requires-clause-new g c = grind arith
