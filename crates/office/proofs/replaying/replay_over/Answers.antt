use Rattle.std.proofs.Common.{◌≡◌, ◌+◌, ◌∙◌, cond, length, subst, sym, refl, ap, arith}
use Rattle.wire.specs.Ends.{is_fault}
use Rattle.office.specs.Replays.{InTurnOver}
use Rattle.office.proofs.Holding.{group_still, group_then}
use Rattle.office.proofs.Turns.{name_at, none_over, over_more}
use Rattle.office.proofs.replaying.replay_over.Goals as goal
use Rattle.office.proofs.replaying.replay_over.Goals.{then-is_fault, else-is_fault}

pub streams-init : goal.streams-init
streams-init g c = (
  λ s kept. (
    s,
    record { means = kept.means; sound = kept.sound },
    none_over g.K.Keeper c.args.office.now.keeper (g.W.Write.contents c.args.writer.now.inner) s c.args.moment
        (λ a b. g.met.K.Keeper.one c.args.office.now.keeper a b kept.is_honest) (record { means = kept.means; sound = kept.sound }),
  ),
  λ honest. honest,
  omega arith,
  group_still,
)

pub streams-preserved : goal.streams-preserved
streams-preserved g c =
    let counted : c.if-is_fault.faulty ≡ c.streams.faulty + cond (is_fault c.session-end.result) 1 0 =
    elim c.if-is_fault.branch [
      | then-is_fault w ↦ w.faulty-is ∙ ap (λ b. c.streams.faulty + cond b 1 0) (sym w.if-is_fault.true ∙ c.is_fault.ensures)
      | else-is_fault w ↦ w.faulty-is ∙ omega arith ∙ ap (λ b. c.streams.faulty + cond b 1 0) (sym w.if-is_fault.false ∙ c.is_fault.ensures)
    ] in (
      λ s kept.
          let before = c.streams.invariant.0 s (record { means = kept.means; is_honest = c.session-end.ensures.rest.honest kept.is_honest; sound = kept.sound }) in
          let served = c.session-end.ensures.serves before.0 (record { means = before.1.means; is_honest = kept.is_honest; sound = before.1.sound }) in (
            served.0,
            served.1,
            over_more _ _ _ _ _ _ _ _ _ _ _ _ s before.0 served.0 c.args.moment c.streams.name-index (c.streams.name-index + 1) c.streams.faulty c.if-is_fault.faulty c.session-end.result
                (λ a b. g.met.K.Keeper.one c.session-end.new.self.keeper a b kept.is_honest) served.1 before.2 c.new-clock.ensures served.2 refl counted,
          ),
      λ honest. c.streams.invariant.1 (c.session-end.ensures.rest.honest honest),
      elim c.if-is_fault.branch [ then-is_fault w ↦ omega arith | else-is_fault w ↦ omega arith ],
      group_then c.streams.invariant.3 c.session-end.ensures.rest.group,
    )

pub returns-in_default-clause-turns : goal.returns-in_default-clause-turns
returns-in_default-clause-turns g c s kept =
    let turns = c.streams.invariant.0 s kept in
    (turns.0, turns.1, (c.streams.name-index, c.streams.faulty, turns.2, name_at c.args.streams.now c.streams.name-index _ c.streams-test.true))

pub returns-clause-turns : goal.returns-clause-turns
returns-clause-turns g c s kept =
    let turns = c.streams.invariant.0 s kept in
    let all : c.streams.name-index ≡ length c.args.streams.now = omega arith in
    (turns.0, turns.1, subst (λ n. InTurnOver g.K.Keeper c.args.office.now.keeper c.streams.office.keeper (g.W.Write.contents c.args.writer.now.inner) (g.W.Write.contents c.streams.writer.inner) s turns.0 c.args.moment n c.streams.faulty) all turns.2)

pub returns-in_default-clause-group : goal.returns-in_default-clause-group
returns-in_default-clause-group g c = c.streams.invariant.3

pub returns-clause-group : goal.returns-clause-group
returns-clause-group g c = c.streams.invariant.3
