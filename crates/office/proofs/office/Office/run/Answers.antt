use borrow.Author.Rules.{scaled_Fits}
use Rattle.std.proofs.Common.{◌≡◌, ◌+◌, ◌<◌, ◌∙◌, cond, inl, length, refl, sym, ap, arith}
use Rattle.wire.specs.Ends.{is_fault}
use Rattle.office.proofs.Holding.{group_still, group_then}
use Rattle.office.proofs.KeeperCalls.{unstaged_then}
use Rattle.office.proofs.RunSoFar.{starts, goes_on, others_stay, finishes}
use Rattle.office.proofs.office.Office.run.Goals as goal
use Rattle.office.proofs.office.Office.run.Goals.{then-is_fault, else-is_fault}

pub connections-init : goal.connections-init
connections-init g c = (
  λ s kept. starts g.C.Clock.now_gives g.R.Read.remaining g.W.Write.contents c.args.clock.now c.args.connections.now g.K.Keeper c.args.self.now.keeper s
      (λ a b. g.met.K.Keeper.one c.args.self.now.keeper a b kept.is_honest) (record { means = kept.means; sound = kept.sound }),
  λ honest. honest,
  refl,
  omega arith,
  omega arith,
  λ none. inl none,
  group_still,
)

pub connections-preserved : goal.connections-preserved
connections-preserved g c =
    let i = c.connections.connection-index in
    let old = c.args.connections.now in
    let now = c.connections.connections in
    let sizes : length now ≡ length old = c.connections.auto.connections in
    let lt : i < length old = c.connections-test.true in
    let lt' : i < length now = omega arith in
    let counted : c.if-is_fault.faulty ≡ c.connections.faulty + cond (is_fault c.session-end.result) 1 0 =
    elim c.if-is_fault.branch [
      | then-is_fault w ↦ w.faulty-is ∙ ap (λ b. c.connections.faulty + cond b 1 0) (sym w.if-is_fault.true ∙ c.is_fault.ensures)
      | else-is_fault w ↦ w.faulty-is ∙ omega arith ∙ ap (λ b. c.connections.faulty + cond b 1 0) (sym w.if-is_fault.false ∙ c.is_fault.ensures)
    ] in (
      λ s kept.
          goes_on g.C.Clock.now_gives g.R.Read.remaining g.W.Write.contents c.args.clock.now c.connections.clock c.session-end.new.clock
          old now i g.K.Keeper c.args.self.now.keeper c.connections.self.keeper c.session-end.new.self.keeper s c.connections.faulty c.if-is_fault.faulty c.connection-item.result (c.session-end.new.reader, c.session-end.new.writer) c.session-end.result
          lt lt' c.connections.invariant.2 (λ a b. g.met.K.Keeper.one c.session-end.new.self.keeper a b kept.is_honest)
          (λ mid left. c.session-end.ensures.serves mid (record { means = left.means; is_honest = kept.is_honest; sound = left.sound })) c.session-end.ensures.faults counted
          (c.connections.invariant.0 s (record { means = kept.means; is_honest = c.session-end.ensures.rest.honest kept.is_honest; sound = kept.sound })),
      λ honest. c.connections.invariant.1 (c.session-end.ensures.rest.honest honest),
      others_stay old now i c.connection-item.result (c.session-end.new.reader, c.session-end.new.writer) lt lt' c.connections.invariant.2,
      elim c.if-is_fault.branch [ then-is_fault w ↦ omega arith | else-is_fault w ↦ omega arith ],
      omega (arith, c.connections.invariant.4, c.session-end.ensures.rest.never_less),
      unstaged_then g.K.Keeper c.args.self.now.keeper c.connections.self.keeper c.session-end.new.self.keeper c.connections.invariant.5 c.connections.invariant.4 c.session-end.ensures.unstaged c.session-end.ensures.rest.never_less,
      group_then c.connections.invariant.6 c.session-end.ensures.rest.group,
    )

pub returns-clause-runs : goal.returns-clause-runs
returns-clause-runs g c s kept =
    let sizes : length c.connections.connections ≡ length c.args.connections.now = c.connections.auto.connections in
    finishes g.C.Clock.now_gives g.R.Read.remaining g.W.Write.contents c.args.clock.now c.connections.clock c.args.connections.now c.connections.connections
    c.connections.connection-index g.K.Keeper c.args.self.now.keeper c.connections.self.keeper s c.connections.faulty (omega arith) (omega arith) (c.connections.invariant.0 s kept)

pub returns-clause-honest : goal.returns-clause-honest
returns-clause-honest g c = c.connections.invariant.1

pub returns-clause-group : goal.returns-clause-group
returns-clause-group g c = c.connections.invariant.6

pub returns-clause-never_less : goal.returns-clause-never_less
returns-clause-never_less g c = c.connections.invariant.4

pub returns-clause-unstaged : goal.returns-clause-unstaged
returns-clause-unstaged g c = c.connections.invariant.5

pub offset_bounds-connections-connection-index : goal.offset_bounds-connections-connection-index
offset_bounds-connections-connection-index g c = search scaled_Fits

pub overflow_add-faulty : goal.overflow_add-faulty
overflow_add-faulty g c = grind arith
