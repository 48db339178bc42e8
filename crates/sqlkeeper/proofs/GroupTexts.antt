-- The texts that begin and end the transaction of a group. They mean the same under every schema.
use Rattle.std.proofs.Common.{◌≡◌, ◌≢◌, ◌⊎◌, ◌≤◌, inl, inr, ℕ, codes, length, List, [], None, Some, Option, Bool, Ok, Err, Result, IsTrue, true, false, refl, sym, ap, subst, ◌∙◌, arith}
use Rattle.std.specs.Prelude.{IsSome, not}
use Rattle.sqlite_trees.specs.Tree.{Trees}
use Rattle.sqlite_value.specs.Order.{Row}
use Rattle.sqlite_resolve.specs.declared.compiled.Compiled.{Compiled}
use Rattle.sqlite_schema.specs.declared.schema.Schema.{Schema}
use Rattle.sqlite_schema.specs.declared.command.Command.{Command}
use Rattle.sqlite.specs.Command.TheVariants.{Begin, Commit, Rollback, Release}
use Rattle.sqlite.specs.declared.error.Error.{Error}
use Rattle.sqlite_tied.specs.Compute.{everything}
use Rattle.sqlite.specs.Listing.{understood}
use Rattle.sqlkeeper.proofs.Grouped.{survives_none}
use Rattle.sqlite.specs.State.{State, CommitsBy, Executes, ExecutesIn, IsMisplaced, IsNotRun, IsRolledBack, IsUnchanged, MayWrite, Runs, RunsAlone, RunsCommand, Survives, shows_rows, text_of}
use Rattle.sqlite.specs.Calls.{IsWrite}
use Rattle.sqlite.proofs.Callers.{IsPlain, command_of, runs_as, statement_of}
use Rattle.std.proofs.lemmas.Bool.{cases_Bool, false≢true}

-- the whole text is this statement, without parameters
pub record IsText (schema : Schema) (sql : List ℕ) (command : Command) : Type 0 where
  pub it : Compiled
  pub is : understood schema sql ≡ Ok it
  pub does : it.command ≡ command
  pub silent : it.returning ≡ None
  pub whole : length sql ≤ it.tail
  pub names : it.names ≡ []
  pub formats : it.formats ≡ []

pub begin_is : (schema : Schema) → IsText schema (codes "BEGIN") Begin
unfolding understood everything
begin_is schema = record { it = _; is = refl; does = refl; silent = refl; whole = omega arith; names = refl; formats = refl }

pub commit_is : (schema : Schema) → IsText schema (codes "COMMIT") Commit
unfolding understood everything
commit_is schema = record { it = _; is = refl; does = refl; silent = refl; whole = omega arith; names = refl; formats = refl }

pub rollback_is : (schema : Schema) → IsText schema (codes "ROLLBACK") Rollback
unfolding understood everything
rollback_is schema = record { it = _; is = refl; does = refl; silent = refl; whole = omega arith; names = refl; formats = refl }

-- ---- what a statement does that failed

-- it left all as it was, or undid the transaction
failed_not : (old new : State) (sql : List ℕ) (c : Compiled) (params : Row) (e : Error) → RunsCommand old new sql c params (Err e) → IsUnchanged old new ⊎ IsRolledBack old new
failed_not old new sql c params e (inl refused) = inl refused.1
failed_not old new sql c params e (inr fails) = inr fails.3

ran_not : (old new : State) (sql : List ℕ) (c : Compiled) (params : Row) (e : Error) → RunsAlone false old new sql c params (Err e) → IsUnchanged old new ⊎ IsRolledBack old new
ran_not old new sql c params e ran = elim (cases_Bool (shows_rows false c)) [
  | inl shows ↦ inl (rw shows at ran).1
  | inr hides ↦ failed_not old new sql c params e (rw hides at ran)
]

pub not_run : (old new : State) (sql : List ℕ) (params : Row) (e : Error) → Executes sql params old new (Err e) → IsUnchanged old new ⊎ IsRolledBack old new
unfolding ExecutesIn IsNotRun
not_run old new sql params e (inl (inl refused)) = inl refused.1
not_run old new sql params e (inl (inr fails)) = inr fails.3
not_run old new sql params e (inr h) = ran_not old new sql h.0 _ e h.2

told_none : {X : Type 0} (o : Option X) → o ≡ None → IsSome o → ⊥
told_none None is told = absurd (false≢true told)
told_none (Some x) is told = cc

module _ (sql : List ℕ) (command : Command) (old new : State) (text : IsText old.now.schema sql command) where
  plain : IsPlain (understood old.now.schema sql)
  plain = subst IsPlain (sym text.is) (text.silent, text.formats)

  pub runs : (count : ℕ) → Executes sql [] old new (Ok count) → Runs old new None command (statement_of sql (understood old.now.schema sql)) [] count
  runs count h = runs_as sql [] old new old.now.schema refl command (ap command_of text.is ∙ text.does) plain count h

  same_as : (c : Compiled) → understood old.now.schema sql ≡ Ok c → text.it ≡ c
  same_as c is = let e = sym text.is ∙ is in cc

  module _ (e : Error) (quiet : (c : Compiled) → c.command ≡ command → c.returning ≡ None → shows_rows false c ≡ false) (reads : IsWrite command → ⊥) where
    misplaced : (c : Compiled) (params : Row) → c.command ≡ command → c.returning ≡ None → RunsCommand old new sql c params (Err e) → IsMisplaced old command e ⊎ IsRolledBack old new
    misplaced c params does silent (inl (inl wrong, same)) = inl (subst (λ x. IsMisplaced old x e) does wrong)
    misplaced c params does silent (inl (inr (inl writes, why), same)) = absurd (reads (subst IsWrite does writes))
    misplaced c params does silent (inl (inr (inr told, why), same)) = absurd (told_none c.returning silent told)
    misplaced c params does silent (inr fails) = inr fails.3

    ran : (c : Compiled) (params : Row) → c.command ≡ command → c.returning ≡ None → RunsAlone false old new sql c params (Err e) → IsMisplaced old command e ⊎ IsRolledBack old new
    ran c params does silent h = misplaced c params does silent (rw (quiet c does silent) at h)

    -- a statement that ends the transaction: it was misplaced, or the transaction is undone
    pub ended : Executes sql [] old new (Err e) → IsMisplaced old command e ⊎ IsRolledBack old new
    unfolding ExecutesIn IsNotRun
    ended (inl (inl (inl (fault, is, told), same))) = absurd (let x = sym text.is ∙ is in cc)
    ended (inl (inl (inr (c, is, inl (long, told)), same))) = absurd (long (subst (λ x. length sql ≤ x.tail) (same_as c is) text.whole))
    ended (inl (inl (inr (c, is, inr (inl (many, told))), same))) = absurd (many (sym (subst (λ x. length x.names ≡ 0) (same_as c is) (ap length text.names))))
    ended (inl (inl (inr (c, is, inr (inr (timed, told))), same))) = absurd (timed (subst (λ x. x.formats ≡ []) (same_as c is) text.formats))
    ended (inl (inr fails)) = inr fails.3
    ended (inr h) =
        let same = same_as h.0 h.1.is in
        ran h.0 _ (subst (λ x. x.command ≡ command) same text.does) (subst (λ x. x.returning ≡ None) same text.silent) h.2

  -- nothing is committed by a statement that is neither a commit nor a release, within a transaction or not
  pub commits_none : (db : Trees) → (command ≡ Commit → ⊥) → ((name : List ℕ) → command ≡ Release name → ⊥) → (IsTrue old.in_transaction ⊎ ((c : Compiled) (params : Row) → c.command ≡ command → c.returning ≡ None → MayWrite old c.returning c.command (text_of sql c) params db → ⊥))
      → CommitsBy sql [] old db → ⊥
  unfolding CommitsBy
  commits_none db no_commit no_release quiet h =
      let same = same_as h.0 h.1.is in
      let does : h.0.command ≡ command = subst (λ x. x.command ≡ command) same text.does in
      elim h.2 [
        | inl ends ↦ elim ends.0 [
          | inl commits ↦ no_commit (sym does ∙ commits)
          | inr releases ↦ no_release releases.0 (sym does ∙ releases.2)
        ]
        | inr writes ↦ elim quiet [
          | inl inside ↦ false≢true (sym writes.0 ∙ inside)
          | inr none ↦ none h.0 _ does (subst (λ x. x.returning ≡ None) same text.silent) writes
        ]
      ]

-- ---- the three texts

begin_quiet : (c : Compiled) → c.command ≡ Begin → c.returning ≡ None → shows_rows false c ≡ false
begin_quiet c does silent = rw (does, silent) refl

commit_quiet : (c : Compiled) → c.command ≡ Commit → c.returning ≡ None → shows_rows false c ≡ false
commit_quiet c does silent = rw (does, silent) refl

rollback_quiet : (c : Compiled) → c.command ≡ Rollback → c.returning ≡ None → shows_rows false c ≡ false
rollback_quiet c does silent = rw (does, silent) refl

-- a commit that was refused within a transaction undid it
pub commit_ends : (old new : State) → IsTrue old.in_transaction → (e : Error) → Executes (codes "COMMIT") [] old new (Err e) → IsRolledBack old new
commit_ends old new inside e h = elim (ended (codes "COMMIT") Commit old new (commit_is old.now.schema) e commit_quiet (λ x. x) h) [
  | inl misplaced ↦ placed misplaced
  | inr back ↦ back
]
  where
    placed : IsMisplaced old Commit e → IsRolledBack old new
    placed (inl (told, inl (begins, _))) = absurd cc
    placed (inl (told, inr (_, outside))) = absurd (false≢true (sym outside ∙ inside))
    placed (inr (told, name, inl is, none)) = absurd cc
    placed (inr (told, name, inr is, none)) = absurd cc

pub rolls_back : (old new : State) → IsTrue old.in_transaction → (r : Result ℕ Error) → Executes (codes "ROLLBACK") [] old new r → IsRolledBack old new
rolls_back old new inside (Ok count) h = (runs (codes "ROLLBACK") Rollback old new (rollback_is old.now.schema) count h).1
rolls_back old new inside (Err e) h = elim (ended (codes "ROLLBACK") Rollback old new (rollback_is old.now.schema) e rollback_quiet (λ x. x) h) [
  | inl misplaced ↦ placed misplaced
  | inr back ↦ back
]
  where
    placed : IsMisplaced old Rollback e → IsRolledBack old new
    placed (inl (told, inl (begins, _))) = absurd cc
    placed (inl (told, inr (_, outside))) = absurd (false≢true (sym outside ∙ inside))
    placed (inr (told, name, inl is, none)) = absurd cc
    placed (inr (told, name, inr is, none)) = absurd cc

-- ---- what a crash leaves of the statement

begins_no_write : (old : State) (c : Compiled) (params : Row) (db : Trees) → c.command ≡ Begin → c.returning ≡ None → MayWrite old c.returning c.command (text_of (codes "BEGIN") c) params db → ⊥
begins_no_write old c params db does silent writes = let it = rw (does, silent) at writes in absurd cc

pub begins_nothing : (old new : State) → Survives old new (CommitsBy (codes "BEGIN") [] old) → Survives old new (λ _. ⊥)
begins_nothing old new it =
    survives_none old new (λ clean db commits. commits_none (codes "BEGIN") Begin old new (begin_is old.now.schema) db (λ is. cc) (λ name is. cc) (inr (λ c params. begins_no_write old c params db)) commits) it

pub rolls_nothing : (old new : State) → IsTrue old.in_transaction → Survives old new (CommitsBy (codes "ROLLBACK") [] old) → Survives old new (λ _. ⊥)
rolls_nothing old new inside it = survives_none old new (λ clean db commits. commits_none (codes "ROLLBACK") Rollback old new (rollback_is old.now.schema) db (λ is. cc) (λ name is. cc) (inl inside) commits) it

leaves_now : (old : State) (db : Trees) → IsTrue old.in_transaction → CommitsBy (codes "COMMIT") [] old db → db ≡ old.now.trees
unfolding CommitsBy
leaves_now old db inside h = elim h.2 [
  | inl ends ↦ ends.1
  | inr writes ↦ absurd (false≢true (sym writes.0 ∙ inside))
]

-- a commit leaves what the transaction sees
pub commits_now : (old new : State) → IsTrue old.in_transaction → Survives old new (CommitsBy (codes "COMMIT") [] old) → Survives old new (λ db. IsTrue old.in_transaction × (db ≡ old.now.trees))
commits_now old new inside it = record {
  clean = it.clean;
  shield = it.shield;
  counts = it.counts;
  limit = it.limit;
  closes = it.closes;
  crash = λ clean db left. elim (it.crash clean db left) [ inl was ↦ inl was | inr commits ↦ inr (inside, leaves_now old db inside commits) ];
}

-- a transaction is pending
pub is_pending : (inside : Bool) {autocommit : Bool} → autocommit ≡ not inside → autocommit ≡ false → IsTrue inside
is_pending true is none = refl
is_pending false is none = absurd (false≢true (sym none ∙ is))
