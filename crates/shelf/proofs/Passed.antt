-- What a caching keeper leaves where its inner keeper answers, or its cache.
use Rattle.std.proofs.Common.{◌≡◌, Result, Ok, inl, refl, subst, sym}
use Rattle.std.specs.Prelude.{IsErrOf, OnErr, Err}
use Rattle.boxes.specs.Sound.{IsSound}
use Rattle.boxes.specs.State.{State}
use Rattle.boxes.specs.Bound.{StaysBy}
use Rattle.boxes.specs.Keeping.{Settles, Stays}
use Rattle.boxes.specs.declared.keep.KeepFault.{KeepFault}
use Rattle.boxes.specs.declared.keep.KeepFault.TheVariants.{Store}
use Rattle.boxes.specs.declared.keep.Keeper.{Ghosts}
use Rattle.shelf.specs.Recalled.{Recalls}
use Rattle.shelf.specs.declared.cached_keeper.CachedKeeper.{CachedKeeper}
use Rattle.shelf.proofs.Answered.{on_ok_more}

not_store : {T : Type 0} (x : T) → IsErrOf {T = T} (Ok x) Store → ⊥
not_store x is = cc

module _ {K T : Type 0} (k : Ghosts K) where
  abbrev pub StaysCached : CachedKeeper K → CachedKeeper K → Result T KeepFault → Type 0
  StaysCached =
      Stays (λ c s. k.means c.keeper s × (k.is_honest c.keeper → IsSound s → Recalls c.cache s)) (λ c. k.is_honest c.keeper) (λ c. k.is_open c.keeper) (λ c. k.faults c.keeper)
      (λ c s. k.leaves c.keeper s) (λ c. k.leaves_whole c.keeper) k.has_store (λ c. k.is_alone c.keeper) (λ first c. k.gathers first.keeper c.keeper)

  -- the inner keeper's answer was passed on
  pub passed_on : (old new : CachedKeeper K) (answer result : Result T KeepFault) → StaysBy k old.keeper new.keeper answer → result ≡ answer → ((s : State) → Recalls old.cache s → Recalls new.cache s)
      → StaysCached old new result
  passed_on old new answer result inner is stays = subst (StaysCached old new) (sym is) (record {
    same = λ s m. (inner.same s m.0, λ honest sound. stays s (m.1 (inner.honest honest) sound));
    honest = inner.honest;
    opened = inner.opened;
    count = inner.count;
    room = inner.room;
    store = inner.store;
    crash = λ s t m honest left. inner.crash s t m.0 honest left;
    whole = λ s m honest whole. inner.whole s m.0 honest whole;
    group = record { alone = inner.group.alone; same = λ first in_group. inner.group.same first.keeper in_group };
  })

  -- the cache answered
  pub recalled : (c : CachedKeeper K) (x : T) → StaysCached c c (Ok x)
  recalled c x = record {
    same = λ s m. m;
    honest = λ honest. honest;
    opened = λ honest was. was;
    count = record { err = tt; ok = refl };
    room = tt;
    store = λ is. absurd (not_store x is);
    crash = λ s t m honest left. inl left;
    whole = λ s m honest whole. whole;
    group = record { alone = λ alone. alone; same = λ first in_group. in_group };
  }

both_at_error : {A B C : Type 0} (r : Result (Unit {0}) KeepFault) → OnErr r A → OnErr r B → (A → B → C) → OnErr r C
both_at_error (Ok x) a b f = tt
both_at_error (Err e) a b f = f a b

module _ {K : Type 0} (k : Ghosts K) where
  abbrev pub SettlesCached : CachedKeeper K → CachedKeeper K → Result (Unit {0}) KeepFault → Type 0
  SettlesCached =
      Settles (λ c s. k.means c.keeper s × (k.is_honest c.keeper → IsSound s → Recalls c.cache s)) (λ c. k.is_honest c.keeper) (λ c. k.is_open c.keeper) (λ c. k.faults c.keeper)
      (λ c s. k.leaves c.keeper s) (λ c. k.leaves_whole c.keeper) k.has_store (λ c. k.is_alone c.keeper) (λ first c. k.gathers first.keeper c.keeper)

  -- the inner keeper's group has ended, and an error emptied the cache
  pub settled_on : (old new : CachedKeeper K) (answer result : Result (Unit {0}) KeepFault)
      → Settles k.means k.is_honest k.is_open k.faults k.leaves k.leaves_whole k.has_store k.is_alone k.gathers old.keeper new.keeper answer → result ≡ answer
      → ((s : State) → Recalls old.cache s → Recalls new.cache s) → OnErr answer ((s : State) → Recalls new.cache s) → SettlesCached old new result
  settled_on old new answer result inner is stays forgot = subst (SettlesCached old new) (sym is) (record {
    alone = inner.alone;
    idle = inner.idle;
    kept = λ s m. on_ok_more answer (inner.kept s m.0) (λ means. (means, λ honest sound. stays s (m.1 (inner.honest honest) sound)));
    undone = λ first s in_group m. both_at_error answer (inner.undone first.keeper s in_group m.0) forgot (λ means all. (means, λ honest sound. all s));
    honest = inner.honest;
    opened = inner.opened;
    count = inner.count;
    room = inner.room;
    store = inner.store;
    durable = inner.durable;
    whole = inner.whole;
    crash = λ first s t in_group m. inner.crash first.keeper s t in_group m.0;
    whole_too = λ first s in_group m. inner.whole_too first.keeper s in_group m.0;
  })
