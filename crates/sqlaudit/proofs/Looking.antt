-- A file that was only tested, in a transaction that was rolled back.
use Rattle.std.proofs.Common.{◌≡◌, inl, inr, Bool, true, false, IsTrue, [], arith, refl, sym, subst, ◌∙◌}
use Rattle.std.specs.Prelude.{not}
use Rattle.std.proofs.lemmas.Bool.{false≢true}
use Rattle.sqlite_trees.specs.Tree.{Trees}
use Rattle.sqlite_value.specs.Order.{Row}
use Rattle.sqlite_rules.specs.Lists.{Has}
use Rattle.sqlite.specs.declared.error.Error.{Error}
use Rattle.sqlite.specs.State.{State, HasCleanDisk, IsLive, IsRolledBack, IsUnchanged, IsNotRun, KeepsCommit, Survives}
use Rattle.sqltables.specs.Schema.{Version, IsVersion, begun_schemas}
use Rattle.sqlite_schema.specs.declared.schema.Schema.{Schema}
use Rattle.sqlaudit.proofs.Extents.{ours_begun}
use Rattle.sqltables.specs.Means.{IsWhole}
use Rattle.sqlaudit.specs.declared.opening.Extent.{Extent}
use Rattle.sqlaudit.specs.declared.opening.Extent.TheVariants.{Nothing, Begun, Whole}
use Rattle.sqlaudit.specs.Opened.{IsOurs, HasOurs, IsExtent, IsBegunAs, IsSettled, SeesSame, IsAtRest, LeavesUntouched}

begun_of : (v : Version) → IsVersion v → (extent : Extent) (schema : Schema) → IsExtent v extent schema → (extent ≡ Nothing → ⊥) → Has begun_schemas schema
begun_of v version Nothing schema is not = absurd (not refl)
begun_of v version Begun schema is not = is.0
begun_of v version Whole schema is not = subst (Has begun_schemas) (sym is) (ours_begun v version)

-- what is known about an open database before it is tested
pub looks_at : (v : Version) → IsVersion v → (s : State) (extent : Extent) → HasOurs s → (IsOurs s.now.schema → IsExtent v extent s.now.schema) → (extent ≡ Nothing → ⊥) → IsLive s → IsBegunAs v extent s
unfolding IsWhole
looks_at v version s extent ours is not live is_open = let e = is (ours is_open) in (begun_of v version extent s.now.schema e not, e, (live is_open).0)

-- a transaction begins
pub record Begins (old begun : State) : Type 1 where
  pub now_is : begun.now ≡ old.now
  pub committed_is : begun.committed ≡ old.committed
  pub was_open : IsTrue begun.is_open → IsTrue old.is_open
  pub clean : HasCleanDisk begun → HasCleanDisk old
  pub leaves : (trees : Trees) → begun.may_leave trees → old.may_leave trees
  pub inside : IsTrue begun.in_transaction

-- the transaction was rolled back
module _ (old begun mid new : State) (begins : Begins old begun) (settled : IsSettled old) (mode : old.in_transaction ≡ false)
    (keeps : HasCleanDisk mid → KeepsCommit begun mid) (undone : HasCleanDisk new → IsRolledBack mid new) where
  pub undone_same : (HasCleanDisk new → HasCleanDisk mid) → HasCleanDisk new → SeesSame old new
  undone_same early clean =
      let back = undone clean in
      let kept = keeps (early clean) in
      record {
        was_open = λ is_open. begins.was_open (kept.was_open (back.was_open is_open));
        now_is = λ is_open.
            let mid_open = back.was_open is_open in
            (back.undone is_open).0 ∙ kept.committed mid_open ∙ begins.committed_is ∙ sym (settled (begins.was_open (kept.was_open mid_open)));
        committed_is = λ is_open. (back.undone is_open).1 ∙ kept.committed (back.was_open is_open) ∙ begins.committed_is;
        mode = back.autocommit ∙ sym mode;
      }

  pub untouched : (before : Survives begun mid (λ db. ⊥)) (after : Survives mid new (λ db. ⊥)) → LeavesUntouched old new
  untouched before after = record {
    same = undone_same (λ clean. omega (arith, clean, after.clean));
    crash = λ clean trees left. elim (after.crash clean trees left) [
      | inl was ↦ elim (before.crash (omega (arith, clean, after.clean)) trees was) [
        | inl first ↦ begins.leaves trees first
        | inr none ↦ absurd none
      ]
      | inr none ↦ absurd none
    ];
    honest = λ clean. begins.clean (omega (arith, clean, after.clean, before.clean));
  }

-- no transaction has begun
pub not_begun : (begun : Bool) {autocommit : Bool} → autocommit ≡ not begun → autocommit ≡ true → begun ≡ false
not_begun false is true_is = refl
not_begun true is true_is = absurd (false≢true (sym is ∙ true_is))

-- a file that was not tested
pub as_it_is : (s : State) → LeavesUntouched s s
as_it_is s = record {
  same = λ clean. record { was_open = λ is_open. is_open; now_is = λ is_open. refl; committed_is = λ is_open. refl; mode = refl };
  crash = λ clean trees left. left;
  honest = λ clean. clean;
}

module _ (old new : State) (left : LeavesUntouched old new) (settled : IsSettled old) (mode : old.in_transaction ≡ false) where
  pub at_rest : HasCleanDisk new → IsAtRest new
  at_rest clean =
      let same = left.same clean in
      record { autocommit = same.mode ∙ mode; settled = λ is_open. same.now_is is_open ∙ settled (same.was_open is_open) ∙ sym (same.committed_is is_open) }

-- after the test a statement was compiled or refused
module _ (old mid new : State) (left : LeavesUntouched old mid) (survives : Survives mid new (λ db. ⊥)) where
  early : HasCleanDisk new → HasCleanDisk mid
  early clean = omega (arith, clean, survives.clean)

  adds : (clean : HasCleanDisk new) (trees : Trees) → new.may_leave trees → old.may_leave trees
  adds clean trees may = elim (survives.crash clean trees may) [
    | inl was ↦ left.crash (early clean) trees was
    | inr none ↦ absurd none
  ]

  then_same : (HasCleanDisk new → SeesSame old new) → LeavesUntouched old new
  then_same same = record { same = same; crash = adds; honest = λ clean. left.honest (early clean) }

  unchanged_same : HasCleanDisk new → IsUnchanged mid new → SeesSame old new
  unchanged_same clean unchanged =
      let was = left.same (early clean) in
      let shown = unchanged.0 in
      record {
        was_open = λ is_open. was.was_open shown.was_open;
        now_is = λ is_open. shown.now_is ∙ was.now_is shown.was_open;
        committed_is = λ is_open. shown.committed_is ∙ was.committed_is shown.was_open;
        mode = shown.mode ∙ was.mode;
      }

  pub still_untouched : (HasCleanDisk new → IsUnchanged mid new) → LeavesUntouched old new
  still_untouched unchanged = then_same (λ clean. unchanged_same clean (unchanged clean))

  module _ (settled : IsSettled old) (mode : old.in_transaction ≡ false) where
    rolled_same : HasCleanDisk new → IsRolledBack mid new → SeesSame old new
    rolled_same clean back =
        let was = left.same (early clean) in
        record {
          was_open = λ is_open. was.was_open (back.was_open is_open);
          now_is = λ is_open.
              let mid_open = back.was_open is_open in
              (back.undone is_open).0 ∙ was.committed_is mid_open ∙ sym (settled (was.was_open mid_open));
          committed_is = λ is_open. (back.undone is_open).1 ∙ was.committed_is (back.was_open is_open);
          mode = back.autocommit ∙ sym mode;
        }

    not_run_same : (sql : _) (params : Row) (e : Error) → HasCleanDisk new → IsNotRun mid new sql params e → SeesSame old new
    unfolding IsNotRun
    not_run_same sql params e clean (inl h) = unchanged_same clean h.1
    not_run_same sql params e clean (inr h) = rolled_same clean h.3

    pub refused_untouched : (sql : _) (e : Error) → (HasCleanDisk new → (params : Row) → IsNotRun mid new sql params e) → LeavesUntouched old new
    refused_untouched sql e not_run = then_same (λ clean. not_run_same sql [] e clean (not_run clean []))
