use Rattle.std.proofs.Common.{Result, IfErr, OnOk, OnErr, ◌≡◌, ◌⊎◌, subst, sym, arith}
use Rattle.std.specs.Prelude.{IsErrOf}
use Rattle.boxes.specs.Changes.{IsPastFull}
use Rattle.boxes.specs.Sound.{IsSound}
use Rattle.boxes.proofs.Staging.{may_change}
use Rattle.boxes.specs.declared.keep.KeepFault.{KeepFault}
use Rattle.boxes.specs.declared.keep.KeepFault.TheVariants.{Full}
use Rattle.boxes.specs.Keeping.{LeavesAlone, LeavesEither}
use Rattle.shelf.proofs.Answered.{on_ok_more, on_err_more}
use Rattle.shelf.specs.declared.cached_keeper.CachedKeeper.{CachedKeeper}
use Rattle.shelf.specs.Recalled.{Recalls}
use Rattle.shelf.proofs.cached_keeps.CachedKeeperKeeper.apply.Given as given
use Rattle.shelf.proofs.cached_keeps.CachedKeeperKeeper.apply.Goals as goal

abbrev new : (g : given.Over) (c : goal.After-or_forget g) → CachedKeeper g.row.K.Denot
new g c = record { keeper = c.apply.new.self; cache = c.or_forget.new.cache }

pub returns-clause-made : goal.returns-clause-made
returns-clause-made g c s after m sound is =
    let Both : Type 0 = g.K.Keeper.means c.apply.new.self after × (g.K.Keeper.is_honest c.apply.new.self → IsSound after → Recalls c.or_forget.new.cache after) in
    let more : g.K.Keeper.means c.apply.new.self after → Both = λ means. (
      means,
      λ honest sound_after. c.or_forget.ensures.stays after (c.follow.ensures s after sound (may_change _ s after c.args.change.now is) (m.1 (c.apply.ensures.honest honest) sound)),
    ) in
    subst (λ (r : Result (Unit {0}) KeepFault). OnOk r Both) (sym c.or_forget.ensures.same) (on_ok_more c.apply.result (c.apply.ensures.made s after m.0 sound is) more)

pub returns-clause-full : goal.returns-clause-full
returns-clause-full g c s after m sound is told =
    c.apply.ensures.full s after m.0 sound is (subst (λ (r : Result (Unit {0}) KeepFault). IsErrOf r Full) c.or_forget.ensures.same told)

pub returns-clause-room : goal.returns-clause-room
returns-clause-room g c s after m sound is =
    subst (λ (r : Result (Unit {0}) KeepFault). OnOk r (IsPastFull s c.args.change.now → ⊥)) (sym c.or_forget.ensures.same) (c.apply.ensures.room s after m.0 sound is)

pub returns-clause-first : goal.returns-clause-first
returns-clause-first g c s after m sound is past =
    subst (λ (r : Result (Unit {0}) KeepFault). IfErr r (λ f. (f ≡ Full) ⊎ g.K.Keeper.has_store)) (sym c.or_forget.ensures.same) (c.apply.ensures.first s after m.0 sound is past)

pub returns-clause-durable : goal.returns-clause-durable
returns-clause-durable g c s after m sound is honest =
    let Alone : Type 0 = LeavesAlone (λ (k : CachedKeeper g.row.K.Denot) t. g.K.Keeper.leaves k.keeper t) (λ k. g.K.Keeper.leaves_whole k.keeper) (new g c) after in
    let more : LeavesAlone g.K.Keeper.leaves g.K.Keeper.leaves_whole c.apply.new.self after → Alone = λ it. record { there = it.there; alone = it.alone; whole = it.whole } in
    subst (λ (r : Result (Unit {0}) KeepFault). OnOk r Alone) (sym c.or_forget.ensures.same) (on_ok_more c.apply.result (c.apply.ensures.durable s after m.0 sound is honest) more)

pub returns-clause-crash : goal.returns-clause-crash
returns-clause-crash g c s after m sound is honest =
    let Either : Type 0 = LeavesEither (λ (k : CachedKeeper g.row.K.Denot) t. g.K.Keeper.leaves k.keeper t) (λ k. g.K.Keeper.leaves_whole k.keeper) c.args.self.now (new g c) s after in
    let more : LeavesEither g.K.Keeper.leaves g.K.Keeper.leaves_whole c.args.self.now.keeper c.apply.new.self s after → Either = λ it. record { either = it.either; whole = it.whole } in
    subst (λ (r : Result (Unit {0}) KeepFault). OnErr r Either) (sym c.or_forget.ensures.same) (on_err_more c.apply.result (c.apply.ensures.crash s after m.0 sound is honest) more)

pub returns-clause-count : goal.returns-clause-count
returns-clause-count g c = grind arith

pub returns-clause-emptied : goal.returns-clause-emptied
returns-clause-emptied g c = grind arith

pub returns-clause-opened : goal.returns-clause-opened
returns-clause-opened g c = grind arith

pub returns-clause-same : goal.returns-clause-same
returns-clause-same g c = grind arith

pub returns-clause-staged : goal.returns-clause-staged
returns-clause-staged g c = grind arith

pub returns-clause-store : goal.returns-clause-store
returns-clause-store g c = grind arith
