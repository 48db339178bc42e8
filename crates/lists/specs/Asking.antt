-- What several questions leave of a keeper.
use Rattle.std.proofs.Common.{◌≡◌, Ok, Err, inl, inr, refl, subst, ap}
use Rattle.std.specs.Prelude.{◌⊎◌, ℕ, ⊤, Result}
use Rattle.sigtext.specs.Counts.{CountsErrors}
use Rattle.boxes.specs.Sound.{IsSound}
use Rattle.boxes.specs.State.{State}
use Rattle.boxes.specs.Keeping.{Stays}
use Rattle.boxes.specs.declared.keep.Keeper.{Ghosts}
use Rattle.boxes.specs.declared.keep.KeepFault.{KeepFault}
use Rattle.boxes.specs.declared.keep.KeepFault.TheVariants.{Store}

no_error : {T : Type 0} (x : T) (f : KeepFault) → ◌≡◌ {A = Result T KeepFault} (Ok x) (Err f) → ⊥
no_error x f e = cc

same_error : {T : Type 0} (f g : KeepFault) → ◌≡◌ {A = Result T KeepFault} (Err f) (Err g) → f ≡ g
same_error f g e = cc

module _ {K : Type 0} (k : Ghosts K) where
  -- a sound state that the keeper meant before, if it is honest after
  abbrev pub Meant : K → K → State → Type 0
  Meant old new s = k.means old s × IsSound s × k.is_honest new

-- over the ghosts of a keeper that its calls name
module _ {K : Type 0} {means : K → State → Type 0} {is_honest is_open : K → Type 0} {faults : K → ℕ} {leaves : K → State → Type 0} {leaves_whole : K → Type 0}
    {has_store : Type 0} {is_alone : K → Type 0} {gathers : K → K → Type 0} where
  -- nothing was asked
  pub stays_unasked : (a : K) → Stays {T = ⊤} means is_honest is_open faults leaves leaves_whole has_store is_alone gathers a a (Ok tt)
  stays_unasked a = record {
    same = λ s m. m;
    honest = λ h. h;
    opened = λ h o. o;
    count = record { err = tt; ok = refl };
    room = tt;
    store = λ e. absurd (no_error tt Store e);
    crash = λ s t m h l. inl l;
    whole = λ s m h w. w;
    group = record { alone = λ alone. alone; same = λ first in_group. in_group };
  }

  -- two questions in a row
  pub stays_joined : {T : Type 0} (a b c : K) (r : Result T KeepFault) → Stays {T = ⊤} means is_honest is_open faults leaves leaves_whole has_store is_alone gathers a b (Ok tt) → Stays means is_honest is_open faults leaves leaves_whole has_store is_alone gathers b c r → Stays means is_honest is_open faults leaves leaves_whole has_store is_alone gathers a c r
  stays_joined a b c r p q = record {
    same = λ s m. q.same s (p.same s m);
    honest = λ h. p.honest (q.honest h);
    opened = λ h o. q.opened h (p.opened (q.honest h) o);
    count = subst (λ n. CountsErrors n (faults c) r) p.count.ok q.count;
    room = q.room;
    store = q.store;
    crash = λ s t m h l. from_either s t m h (q.crash s t (p.same s m) h l);
    whole = λ s m h w. q.whole s (p.same s m) h (p.whole s m (q.honest h) w);
    group = record { alone = λ alone. q.group.alone (p.group.alone alone); same = λ first in_group. q.group.same first (p.group.same first in_group) };
  }
    where
      from_either : (s t : State) → means a s → is_honest c → leaves b t ⊎ (t ≡ s) → leaves a t ⊎ (t ≡ s)
      from_either s t m h (inl l) = p.crash s t m (q.honest h) l
      from_either s t m h (inr e) = inr e

  -- whatever the answer was
  pub stays_ok : {T : Type 0} (a b : K) (x : T) → Stays means is_honest is_open faults leaves leaves_whole has_store is_alone gathers a b (Ok x) → Stays {T = ⊤} means is_honest is_open faults leaves leaves_whole has_store is_alone gathers a b (Ok tt)
  stays_ok a b x p = record {
    same = p.same;
    honest = p.honest;
    opened = p.opened;
    count = record { err = tt; ok = p.count.ok };
    room = tt;
    store = λ e. absurd (no_error tt Store e);
    crash = p.crash;
    whole = p.whole;
    group = p.group;
  }

  pub stays_err : {T : Type 0} (a b : K) (f : KeepFault) → Stays {T = T} means is_honest is_open faults leaves leaves_whole has_store is_alone gathers a b (Err f) → Stays {T = ⊤} means is_honest is_open faults leaves leaves_whole has_store is_alone gathers a b (Err f)
  stays_err {T} a b f p = record {
    same = p.same;
    honest = p.honest;
    opened = λ h o. tt;
    count = record { err = p.count.err; ok = tt };
    room = p.room;
    store = λ e. p.store (ap (λ (g : KeepFault). Err g) (same_error f Store e));
    crash = p.crash;
    whole = p.whole;
    group = p.group;
  }
