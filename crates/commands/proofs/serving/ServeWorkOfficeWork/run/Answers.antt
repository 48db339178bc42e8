use Rattle.std.proofs.Common.{subst, sym}
use Rattle.boxes.specs.Sound.{IsSound}
use Rattle.shelf.specs.Recalled.{Recalls}
use Rattle.shelf.specs.declared.cached_keeper.CachedKeeper.{CachedKeeper}
use Rattle.commands.proofs.Landing.{within}
use Rattle.commands.proofs.serving.ServeWorkOfficeWork.run.Goals as goal

pub returns : goal.returns
returns g c =
    let k = g.K.Keeper in
    let Cached = CachedKeeper g.row.K.Denot in
    rw c.into_inner.ensures.same (within
    (record {
      honest = λ honest. honest;
      before = λ honest. c.new.ensures.honest.0 (subst (λ (x : Cached). k.is_honest x.keeper) c.new-office.ensures honest);
      ungrouped = λ alone. subst (λ (x : Cached). k.is_alone x.keeper) (sym c.new-office.ensures) (c.new.ensures.alone.1 alone);
      ungrouped_too = λ alone. alone;
      means = λ s means clean. subst (λ (x : Cached). k.means x.keeper s × (k.is_honest x.keeper → IsSound s → Recalls x.cache s)) (sym c.new-office.ensures) ((c.new.ensures.means s).1 means);
      within = λ s means. means.0;
      alone = λ s means clean alone. record {
        alone = λ t at. alone.alone t ((c.new.ensures.leaves t).0 (subst (λ (x : Cached). k.leaves x.keeper t) c.new-office.ensures at));
        whole = subst (λ (x : Cached). k.leaves_whole x.keeper) (sym c.new-office.ensures) (c.new.ensures.whole.1 alone.whole);
      };
      leaves = λ t at. at;
      whole = λ whole. whole;
    })
    c.serve_at-session.ensures)
