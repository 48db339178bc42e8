use Rattle.std.proofs.Common.{[], ◌≡◌, ◌+◌, ◌++◌, ◌∷◌, ◌∙◌, Bool, Option, cond, length, ap, inl, sym, subst, append_assoc, arith}
use Rattle.std.proofs.lemmas.List.{append-nil, length-append, length_push}
use Rattle.wire.specs.Crowds.{GivenTurn, numbers_after, turn_given}
use Rattle.wire.specs.declared.crowding.Due.{Due}
use Rattle.wire.proofs.Changing.{among_turned}
use Rattle.wire.proofs.Ties.{none_is}
use Rattle.office.proofs.CrowdTurns.{CrowdSoFar, changes_more, crowd_ends, crowd_starts, turned_more}
use Rattle.office.proofs.Holding.{group_still, group_then}
use Rattle.office.proofs.KeeperCalls.{unstaged_then}
use Rattle.office.proofs.office.Office.serve_crowd.Goals as goal
use Rattle.office.proofs.office.Office.serve_crowd.Goals.{then-turned, else-turned}

pub turns-init : goal.turns-init
turns-init g c = (
  λ free before gone met numbers given gave. (
    [],
    [],
    subst (λ l. g.G.Crowd.met c.args.crowd.now l (gone ++ [])) (sym (append-nil before)) (subst (g.G.Crowd.met c.args.crowd.now before) (sym (append-nil gone)) met),
    numbers,
    [],
    subst (g.G.Crowd.gave c.args.crowd.now numbers) (sym (append-nil given)) gave,
    omega arith,
    λ p x at. absurd (none_is x (sym (free p) ∙ at)),
    λ s kept. (
      s,
      record { means = kept.means; sound = kept.sound },
      crowd_starts g.R.Read.remaining g.W.Write.contents g.C.Clock.now_gives g.K.Keeper (length before) c.args.clock.now c.args.self.now.keeper s c.args.slots.now numbers free,
    ),
  ),
  λ honest. honest,
  omega arith,
  λ none. inl none,
  omega arith,
  group_still,
)

pub overflow_add-faulty : goal.overflow_add-faulty
overflow_add-faulty g c =
    elim c.if-turned.branch [
      | then-turned w ↦ omega (arith, c.turns.invariant.4, w.faulty-is, c.in-Some.ensures.counts, g.G.Crowd.few c.args.crowd.now)
      | else-turned w ↦ omega (arith, c.turns.invariant.4, w.faulty-is, c.in-Some.ensures.counts, g.G.Crowd.few c.args.crowd.now)
    ]

pub returns-clause-serves : goal.returns-clause-serves
returns-clause-serves g c free before gone met numbers given gave =
    let i = c.turns.invariant.0 free before gone met numbers given gave in
    let more = c.next.ensures.changes (before ++ i.0) (gone ++ i.1) i.2 in
    let n = length (before ++ i.0) in
    let numbered = numbers_after more.3 n i.3 in
    let none = subst (λ (r : Option Due). g.G.Crowd.gave c.next.new.self numbered ((given ++ i.4) ++ turn_given numbered r)) c.in_default.is (more.4 i.3 (given ++ i.4) i.7 i.5) in (
      i.0 ++ more.0,
      i.1 ++ more.1,
      subst (λ l. g.G.Crowd.met c.next.new.self l (gone ++ (i.1 ++ more.1))) (append_assoc before i.0 more.0) (subst (g.G.Crowd.met c.next.new.self ((before ++ i.0) ++ more.0)) (append_assoc gone i.1 more.1) more.2),
      numbered,
      i.4,
      subst (g.G.Crowd.gave c.next.new.self numbered) (append-nil (given ++ i.4)) none,
      let still : g.G.Crowd.turns c.turns.crowd ≡ g.G.Crowd.turns c.next.new.self + 0 = rw c.in_default.is at c.next.ensures.counts in omega (arith, i.6, still),
      λ s kept.
          let x = i.8 s kept in
          let t = changes_more g.R.Read.remaining g.W.Write.contents g.C.Clock.now_gives g.K.Keeper (length before) c.args.clock.now c.args.self.now.keeper s i.4 c.turns.clock c.turns.self.keeper c.turns.faulty x.0
          c.turns.slots c.next.new.slots i.3 i.0 i.1 more.0 more.1 n (length-append before i.0) more.3 x.2 in (
            x.0,
            x.1,
            crowd_ends g.R.Read.remaining g.W.Write.contents g.C.Clock.now_gives g.K.Keeper (length before) c.args.clock.now c.args.self.now.keeper s c.next.new.slots numbered (i.0 ++ more.0) (i.1 ++ more.1) i.4
                c.turns.clock c.turns.self.keeper c.turns.faulty x.0 (λ a b. g.met.K.Keeper.one c.turns.self.keeper a b kept.is_honest) x.1 t,
          ),
    )

pub turns-preserved : goal.turns-preserved
turns-preserved g c =
    let j = c.turns.invariant in
    let turned = c.turn_at-turned.ensures in
    let one : c.if-turned.faulty ≡ cond c.turn_at-turned.result.is_fault 1 0 =
    elim c.if-turned.branch [
      | then-turned w ↦ w.faulty-is ∙ ap (λ (b : Bool). cond b 1 0) (sym w.if-turned.true)
      | else-turned w ↦ w.faulty-is ∙ ap (λ (b : Bool). cond b 1 0) (sym w.if-turned.false)
    ] in (
      λ free before gone met numbers given gave.
          let i = j.0 free before gone met numbers given gave in
          let more = c.in-Some.ensures.changes (before ++ i.0) (gone ++ i.1) i.2 in
          let n = length (before ++ i.0) in
          let numbered = numbers_after more.3 n i.3 in
          let whose : GivenTurn = record { whose = numbered c.in-Some.due.index; most = c.in-Some.due.most } in (
            i.0 ++ more.0,
            i.1 ++ more.1,
            subst (λ l. g.G.Crowd.met c.next.new.self l (gone ++ (i.1 ++ more.1))) (append_assoc before i.0 more.0) (subst (g.G.Crowd.met c.next.new.self ((before ++ i.0) ++ more.0)) (append_assoc gone i.1 more.1) more.2),
            numbered,
            i.4 ++ whose ∷ [],
            subst (g.G.Crowd.gave c.next.new.self numbered) (append_assoc given i.4 (whose ∷ [])) (more.4 i.3 (given ++ i.4) i.7 i.5),
            omega (arith, i.6, c.in-Some.ensures.counts, length_push i.4 whose),
            among_turned g.R.Read.remaining g.W.Write.contents c.turns.slots c.next.new.slots c.turn_at-turned.new.slots more.0 more.1 n (length (before ++ (i.0 ++ more.0))) i.3 more.3
                c.in-Some.due.index turned.slot.0 (sym (length-append (before ++ i.0) more.0) ∙ ap length (append_assoc before i.0 more.0)) c.in-Some.ensures.due turned.slot.1 i.7,
            λ s kept.
                let x = i.8 s (record { means = kept.means; is_honest = turned.honest kept.is_honest; sound = kept.sound }) in
                let t = changes_more g.R.Read.remaining g.W.Write.contents g.C.Clock.now_gives g.K.Keeper (length before) c.args.clock.now c.args.self.now.keeper s i.4 c.turns.clock c.turns.self.keeper c.turns.faulty x.0
                c.turns.slots c.next.new.slots i.3 i.0 i.1 more.0 more.1 n (length-append before i.0) more.3 x.2 in
                let h = turned.turns x.0 (record { means = x.1.means; is_honest = kept.is_honest; sound = x.1.sound }) in (
                  h.0,
                  h.1,
                  subst (λ l. CrowdSoFar g.R.Read.remaining g.W.Write.contents g.C.Clock.now_gives g.K.Keeper l (i.0 ++ more.0) (i.1 ++ more.1) (length before) numbered (i.4 ++ whose ∷ []) c.args.clock.now c.turn_at-turned.new.clock c.args.self.now.keeper c.turn_at-turned.new.self.keeper (c.turns.faulty + c.if-turned.faulty) s h.0) (sym h.3)
                      (turned_more g.R.Read.remaining g.W.Write.contents g.C.Clock.now_gives g.K.Keeper (length before) c.args.clock.now c.args.self.now.keeper s c.next.new.slots numbered (i.0 ++ more.0) (i.1 ++ more.1) i.4 c.in-Some.due.most
                      c.turns.clock c.turn_at-turned.new.clock c.turns.self.keeper c.turn_at-turned.new.self.keeper c.turns.faulty x.0 h.0
                      (c.turns.faulty + c.if-turned.faulty) c.in-Some.due.index h.2 c.turn_at-turned.result.is_fault c.in-Some.ensures.due (ap (λ n. c.turns.faulty + n) one) h.4 t),
                ),
          ),
      λ honest. j.1 (turned.honest honest),
      omega (arith, j.2, turned.never_less),
      unstaged_then g.K.Keeper c.args.self.now.keeper c.turns.self.keeper c.turn_at-turned.new.self.keeper j.3 j.2 turned.unstaged turned.never_less,
      elim c.if-turned.branch [
        | then-turned w ↦ omega (arith, j.4, w.faulty-is, c.in-Some.ensures.counts)
        | else-turned w ↦ omega (arith, j.4, w.faulty-is, c.in-Some.ensures.counts)
      ],
      group_then j.5 turned.group,
    )

pub returns-clause-alone : goal.returns-clause-alone
returns-clause-alone g c = c.turns.invariant.5.alone

pub returns-clause-never_less : goal.returns-clause-never_less
returns-clause-never_less g c = grind arith

pub returns-clause-over : goal.returns-clause-over
returns-clause-over g c = grind arith

pub turn_at-turned-requires : goal.turn_at-turned-requires
turn_at-turned-requires g c = grind arith

pub turns-smaller : goal.turns-smaller
turns-smaller g c = grind arith
