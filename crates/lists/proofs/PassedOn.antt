-- What a publisher leaves where its inner keeper answers.
use Rattle.std.proofs.Common.{◌≡◌, ◌∙◌, Result, Option, None, List, ℕ, sym, subst}
use Rattle.std.specs.Prelude.{IsSome, IsTrue, Vec}
use Rattle.std.specs.declared.alloc.Global.{Global}
use Rattle.boxes.specs.Sound.{IsSound}
use Rattle.boxes.specs.State.{State}
use Rattle.boxes.specs.Bound.{StaysBy}
use Rattle.boxes.specs.Keeping.{KeepsGroup, Stays, StaysSure}
use Rattle.boxes.specs.declared.keep.KeepFault.{KeepFault}
use Rattle.boxes.specs.declared.keep.Keeper.{Ghosts}
use Rattle.lists.specs.Published.{HoldsSince, IsBegun, IsPublished, with_held}
use Rattle.lists.specs.declared.publisher.Publisher.{Publisher}

module _ {K S E : Type 0} (k : Ghosts K) where
  -- a publisher outside any group
  abbrev pub StandsAlone : Publisher K S E → Type 0
  StandsAlone p = k.is_alone p.keeper × (p.held ≡ None)

  -- the inner keeper began no group and ended none
  pub passed_group : (p : Publisher K S E) (keeper : K) → KeepsGroup k.is_alone k.gathers p.keeper keeper → (k.is_honest keeper → k.is_honest p.keeper)
      → KeepsGroup StandsAlone (HoldsSince k) p (record p { keeper = keeper })
  passed_group p keeper group honest = record {
    alone = λ alone. (group.alone alone.0, alone.1);
    same = λ first held. record {
      inner = group.same first.keeper held.inner;
      honest = λ now. held.honest (honest now);
      alone = held.alone;
      group = held.group;
      sheet = held.sheet;
      whole = held.whole;
    };
  }

  -- a line was added, or within a group held
  pub noted_group : (p new : Publisher K S E) → new.keeper ≡ p.keeper → (IsTrue new.is_whole → IsTrue p.is_whole) → (p.held ≡ None → new.held ≡ None)
      → (IsSome p.held → IsSome new.held × (new.sheet ≡ p.sheet)) → KeepsGroup StandsAlone (HoldsSince k) p new
  noted_group p new same whole alone group = record {
    alone = λ was. (subst k.is_alone (sym same) was.0, alone was.1);
    same = λ first held.
        let still = group held.group in record {
          inner = subst (k.gathers first.keeper) (sym same) held.inner;
          honest = λ now. held.honest (subst k.is_honest same now);
          alone = held.alone;
          group = still.0;
          sheet = still.1 ∙ held.sheet;
          whole = λ now. held.whole (whole now);
        };
  }

module _ {K S E : Type 0} (k : Ghosts K) (text : S → Option (List ℕ)) where
  -- what a publisher means
  abbrev pub Publishes : Publisher K S E → State → Type 0
  Publishes p s = k.means p.keeper s × (k.is_honest p.keeper → IsSound s → IsBegun s (text p.sheet) × (IsTrue p.is_whole → IsPublished s (with_held p.held (text p.sheet))))

  -- the sheet is unchanged
  pub passed_on : {T : Type 0} (p : Publisher K S E) (keeper : K) (result : Result T KeepFault) → StaysBy k p.keeper keeper result
      → Stays Publishes (λ p. k.is_honest p.keeper) (λ p. k.is_open p.keeper) (λ p. k.faults p.keeper) (λ p s. k.leaves p.keeper s) (λ p. k.leaves_whole p.keeper) k.has_store
      (StandsAlone k) (HoldsSince k) p (record p { keeper = keeper }) result
  passed_on p keeper result inner = record {
    same = λ s m. (inner.same s m.0, λ honest sound. m.1 (inner.honest honest) sound);
    honest = inner.honest;
    opened = inner.opened;
    count = inner.count;
    room = inner.room;
    store = inner.store;
    crash = λ s t m honest left. inner.crash s t m.0 honest left;
    whole = λ s m honest whole. inner.whole s m.0 honest whole;
    group = passed_group k p keeper inner.group inner.honest;
  }

  -- the inner keeper can't fail; what is held has the same text
  pub passed_sure : (p : Publisher K S E) (keeper : K) (held : Option (Vec ℕ Global)) → StaysSure k.means k.is_honest k.is_open k.faults k.leaves k.leaves_whole p.keeper keeper
      → with_held held (text p.sheet) ≡ with_held p.held (text p.sheet)
      → StaysSure Publishes (λ p. k.is_honest p.keeper) (λ p. k.is_open p.keeper) (λ p. k.faults p.keeper) (λ p s. k.leaves p.keeper s) (λ p. k.leaves_whole p.keeper)
      p (record p { keeper = keeper; held = held })
  passed_sure p keeper held inner same = record {
    same = λ s m. (
      inner.same s m.0,
      λ honest sound.
          let was = m.1 (inner.honest honest) sound in
          (was.0, λ whole. subst (IsPublished s) (sym same) (was.1 whole)),
    );
    honest = inner.honest;
    opened = inner.opened;
    count = inner.count;
    crash = λ s t m honest left. inner.crash s t m.0 honest left;
    whole = λ s m honest whole. inner.whole s m.0 honest whole;
  }
