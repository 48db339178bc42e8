use Rattle.std.proofs.Common.{subst, sym, arith}
use Rattle.shelf.proofs.Answered.{on_err_more, on_ok_more}
use Rattle.lists.proofs.Added.{may_change}
use Rattle.lists.proofs.PassedOn.{noted_group, passed_group}
use Rattle.lists.proofs.publishes.PublisherKeeper.apply.Goals as goal

pub returns-then-is_ok-clause-made : goal.returns-then-is_ok-clause-made
returns-then-is_ok-clause-made g c = λ s after m sound is.
    let same = c.note.ensures.keeper in
    on_ok_more c.apply-done.result (c.apply-done.ensures.made s after m.0 sound is) (λ means. (
      subst (λ k. g.K.Keeper.means k after) (sym same) means,
      λ honest sound_after.
          let was = m.1 (c.apply-done.ensures.honest (subst g.K.Keeper.is_honest same honest)) sound in
          let may = may_change _ s c.args.change.now after is in (
            c.note.ensures.begun s after may was.1 was.0,
            λ whole. c.note.ensures.published s after may (was.1 (c.note.ensures.whole whole)) whole,
          ),
    ))

pub returns-then-is_ok-clause-room : goal.returns-then-is_ok-clause-room
returns-then-is_ok-clause-room g c = λ s after m sound is. c.apply-done.ensures.room s after m.0 sound is

pub returns-then-is_ok-clause-durable : goal.returns-then-is_ok-clause-durable
returns-then-is_ok-clause-durable g c = λ s after m sound is honest.
    let same = c.note.ensures.keeper in
    on_ok_more c.apply-done.result (c.apply-done.ensures.durable s after m.0 sound is (subst g.K.Keeper.is_honest same honest)) (λ it. record {
      there = subst (λ k. g.K.Keeper.leaves k after) (sym same) it.there;
      alone = λ t l. it.alone t (subst (λ k. g.K.Keeper.leaves k t) same l);
      whole = subst g.K.Keeper.leaves_whole (sym same) it.whole;
    })

pub returns-then-is_ok-clause-group : goal.returns-then-is_ok-clause-group
returns-then-is_ok-clause-group g c =
    let old = c.args.self.now in
    let asked = c.apply-done.new.self in
    let first = passed_group g.K.Keeper old asked c.apply-done.ensures.group c.apply-done.ensures.honest in
    let second = noted_group g.K.Keeper (record old { keeper = asked }) c.note.new.self c.note.ensures.keeper c.note.ensures.whole c.note.ensures.alone c.note.ensures.group in
    record { alone = λ alone. second.alone (first.alone alone); same = λ begun held. second.same begun (first.same begun held) }

pub returns-else-is_ok-clause-group : goal.returns-else-is_ok-clause-group
returns-else-is_ok-clause-group g c = passed_group g.K.Keeper c.args.self.now c.apply-done.new.self c.apply-done.ensures.group c.apply-done.ensures.honest

pub returns-else-is_ok-clause-full : goal.returns-else-is_ok-clause-full
returns-else-is_ok-clause-full g c = λ s after m sound is. c.apply-done.ensures.full s after m.0 sound is

pub returns-else-is_ok-clause-first : goal.returns-else-is_ok-clause-first
returns-else-is_ok-clause-first g c = λ s after m sound is. c.apply-done.ensures.first s after m.0 sound is

pub returns-else-is_ok-clause-crash : goal.returns-else-is_ok-clause-crash
returns-else-is_ok-clause-crash g c = λ s after m sound is honest.
    on_err_more c.apply-done.result (c.apply-done.ensures.crash s after m.0 sound is honest) (λ it. record { either = it.either; whole = it.whole })

pub returns-else-is_ok-clause-durable : goal.returns-else-is_ok-clause-durable
returns-else-is_ok-clause-durable g c = grind arith

pub returns-else-is_ok-clause-emptied : goal.returns-else-is_ok-clause-emptied
returns-else-is_ok-clause-emptied g c = grind arith

pub returns-else-is_ok-clause-made : goal.returns-else-is_ok-clause-made
returns-else-is_ok-clause-made g c = grind arith

pub returns-else-is_ok-clause-opened : goal.returns-else-is_ok-clause-opened
returns-else-is_ok-clause-opened g c = grind arith

pub returns-else-is_ok-clause-room : goal.returns-else-is_ok-clause-room
returns-else-is_ok-clause-room g c = grind arith

pub returns-else-is_ok-clause-same : goal.returns-else-is_ok-clause-same
returns-else-is_ok-clause-same g c = grind arith

pub returns-else-is_ok-clause-staged : goal.returns-else-is_ok-clause-staged
returns-else-is_ok-clause-staged g c = grind arith

pub returns-then-is_ok-clause-count : goal.returns-then-is_ok-clause-count
returns-then-is_ok-clause-count g c = grind arith

pub returns-then-is_ok-clause-crash : goal.returns-then-is_ok-clause-crash
returns-then-is_ok-clause-crash g c = grind arith

pub returns-then-is_ok-clause-emptied : goal.returns-then-is_ok-clause-emptied
returns-then-is_ok-clause-emptied g c = grind arith

pub returns-then-is_ok-clause-first : goal.returns-then-is_ok-clause-first
returns-then-is_ok-clause-first g c = grind arith

pub returns-then-is_ok-clause-full : goal.returns-then-is_ok-clause-full
returns-then-is_ok-clause-full g c = grind arith

pub returns-then-is_ok-clause-honest : goal.returns-then-is_ok-clause-honest
returns-then-is_ok-clause-honest g c = grind arith

pub returns-then-is_ok-clause-opened : goal.returns-then-is_ok-clause-opened
returns-then-is_ok-clause-opened g c = grind arith

pub returns-then-is_ok-clause-same : goal.returns-then-is_ok-clause-same
returns-then-is_ok-clause-same g c = grind arith

pub returns-then-is_ok-clause-staged : goal.returns-then-is_ok-clause-staged
returns-then-is_ok-clause-staged g c = grind arith

pub returns-then-is_ok-clause-store : goal.returns-then-is_ok-clause-store
returns-then-is_ok-clause-store g c = grind arith
