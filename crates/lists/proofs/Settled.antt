-- A publisher whose group ends.
use Rattle.std.proofs.Common.{◌≡◌, ◌∙◌, Result, Ok, Err, Option, None, List, ℕ, true, false, sym, subst}
use Rattle.std.proofs.lemmas.Bool.{true≢false, false≢true}
use Rattle.std.specs.Prelude.{IsTrue, OnErr, OnOk, Vec, is_ok, ⊤}
use Rattle.std.specs.declared.alloc.Global.{Global}
use Rattle.sigtext.specs.Counts.{CountsErrors}
use Rattle.boxes.specs.State.{State}
use Rattle.boxes.specs.Keeping.{Settles}
use Rattle.boxes.specs.declared.keep.KeepFault.{KeepFault}
use Rattle.boxes.specs.declared.keep.Keeper.{Ghosts}
use Rattle.shelf.proofs.Answered.{on_err_more, on_ok_more}
use Rattle.lists.specs.Published.{HoldsSince, IsBegun, IsPublished, with_held}
use Rattle.lists.specs.declared.publisher.Publisher.{Publisher}
use Rattle.lists.proofs.PassedOn.{Publishes, StandsAlone}

-- a success, and no success
pub on_ok : {T E A : Type 0} (r : Result T E) → A → OnOk r A
on_ok (Ok x) a = a
on_ok (Err e) a = tt

pub on_err_never : {T E : Type 0} (A : Type 0) (r : Result T E) → is_ok r ≡ true → OnErr r A
on_err_never A (Ok x) is = tt
on_err_never A (Err e) is = absurd (false≢true is)

pub on_ok_never : {T E : Type 0} (A : Type 0) (r : Result T E) → is_ok r ≡ false → OnOk r A
on_ok_never A (Ok x) is = absurd (true≢false is)
on_ok_never A (Err e) is = tt

pub on_err : {T E A : Type 0} (r : Result T E) → A → OnErr r A
on_err (Ok x) a = tt
on_err (Err e) a = a

-- what follows from two facts
on_ok_both : {T E A B C : Type 0} (r : Result T E) → OnOk r A → OnOk r B → (A → B → C) → OnOk r C
on_ok_both (Ok x) a b both = both a b
on_ok_both (Err e) a b both = tt

on_err_both : {T E A B C : Type 0} (r : Result T E) → OnErr r A → OnErr r B → (A → B → C) → OnErr r C
on_err_both (Ok x) a b both = tt
on_err_both (Err e) a b both = both a b

module _ {K S E : Type 0} (k : Ghosts K) (text : S → Option (List ℕ)) where
  -- what a publisher's group leaves when it ends
  abbrev pub SettlesHeld : Publisher K S E → Publisher K S E → Result ⊤ KeepFault → Type 0
  SettlesHeld =
      Settles (Publishes k text) (λ p. k.is_honest p.keeper) (λ p. k.is_open p.keeper) (λ p. k.faults p.keeper) (λ p s. k.leaves p.keeper s) (λ p. k.leaves_whole p.keeper) k.has_store
      (StandsAlone k) (HoldsSince k)

  -- what was held was put on the sheet: what was published is on it, and what was begun is still a beginning
  pub record Puts (held : Option (Vec ℕ Global)) (p new : Publisher K S E) : Type 0 where
    pub published : (s : State) → IsPublished s (with_held held (text p.sheet)) → IsTrue new.is_whole → IsPublished s (text new.sheet)
    pub begun : (s : State) → (IsTrue p.is_whole → IsPublished s (with_held held (text p.sheet))) → IsBegun s (text p.sheet) → IsBegun s (text new.sheet)

  -- the inner keeper ended its group; nothing is held now, and a failure left the sheet unchanged
  pub settled_on : (p new : Publisher K S E) (keeper : K) (held : Option (Vec ℕ Global)) (result : Result ⊤ KeepFault)
      → Settles k.means k.is_honest k.is_open k.faults k.leaves k.leaves_whole k.has_store k.is_alone k.gathers p.keeper keeper result
      → held ≡ p.held → new.keeper ≡ keeper → new.held ≡ None → (IsTrue new.is_whole → IsTrue p.is_whole) → OnOk result (Puts held p new) → OnErr result (new.sheet ≡ p.sheet)
      → SettlesHeld p new result
  settled_on p new keeper held result inner was_held same none whole puts unchanged = record {
    alone = (subst k.is_alone (sym same) inner.alone, none);
    idle = λ alone. inner.idle alone.0;
    kept = λ s m. on_ok_both result (inner.kept s m.0) puts (λ means put. kept s m means put);
    undone = λ first s since m. on_err_both result (inner.undone first.keeper s since.inner m.0) unchanged (λ means sheet. undone first s since m means sheet);
    honest = λ now. inner.honest (was now);
    opened = λ now before. on_ok_more result (inner.opened (was now) before) (subst k.is_open (sym same));
    count = subst (λ x. CountsErrors (k.faults p.keeper) (k.faults x) result) (sym same) inner.count;
    room = inner.room;
    store = inner.store;
    durable = λ now. on_ok_more result (inner.durable (was now)) (λ both t. (λ left. (both t).0 (subst (λ x. k.leaves x t) same left), λ left. subst (λ x. k.leaves x t) (sym same) ((both t).1 left)));
    whole = λ now all. on_ok_more result (inner.whole (was now) all) (subst k.leaves_whole (sym same));
    crash = λ first s t since m now. on_err_more result (inner.crash first.keeper s t since.inner m.0 (was now)) (λ it left. it (subst (λ x. k.leaves x t) same left));
    whole_too = λ first s since m now before all. on_err_more result (inner.whole_too first.keeper s since.inner m.0 (was now) before all) (subst k.leaves_whole (sym same));
  }
    where
      was : k.is_honest new.keeper → k.is_honest keeper
      was now = subst k.is_honest same now

      kept : (s : State) → Publishes k text p s → k.means keeper s → Puts held p new → Publishes k text new s
      kept s m means put = (
        subst (λ x. k.means x s) (sym same) means,
        λ now sound.
            let before = m.1 (inner.honest (was now)) sound in
            let published = λ (all : IsTrue p.is_whole). subst (λ lines. IsPublished s (with_held lines (text p.sheet))) (sym was_held) (before.1 all) in (
              put.begun s published before.0,
              λ all. subst (λ lines. IsPublished s (with_held lines (text new.sheet))) (sym none) (put.published s (published (whole all)) all),
            ),
      )

      undone : (first : Publisher K S E) (s : State) → HoldsSince k first p → Publishes k text first s → k.means keeper s → new.sheet ≡ p.sheet → Publishes k text new s
      undone first s since m means unchanged = (
        subst (λ x. k.means x s) (sym same) means,
        λ now sound.
            let before = m.1 (since.honest (inner.honest (was now))) sound in
            let sheet : new.sheet ≡ first.sheet = unchanged ∙ since.sheet in (
              subst (λ x. IsBegun s (text x)) (sym sheet) before.0,
              λ all.
                  let published = subst (λ lines. IsPublished s (with_held lines (text first.sheet))) since.alone (before.1 (since.whole (whole all))) in
                  subst (λ lines. IsPublished s (with_held lines (text new.sheet))) (sym none) (subst (λ x. IsPublished s (text x)) (sym sheet) published),
            ),
      )
