use Rattle.std.proofs.Common.{◌≡◌, IsTrue, rules, arith, refl, sym, subst, OnOk, inl}
use Rattle.sqlaudit.proofs.Looking.{Begins}
use Rattle.std.specs.Prelude.{OnErr}
use Rattle.sqlite.specs.State.{HasCleanDisk}
use Rattle.sqlite.specs.Held.{state}
use Rattle.boxes.specs.State.{State}
use Rattle.boxes.specs.Sound.{IsSound}
use Rattle.boxes.specs.Changes.{IsChangeOf}
use Rattle.sqltables.specs.Schema.{v2}
use Rattle.sqltables.specs.Tables.{tables_of}
use Rattle.sqltables.specs.Means.{Pends, Holds, Means, LeavesOnly, AddsOnly, LeavesLast}
use Rattle.sqltables.specs.Staging.{held}
use Rattle.sqlkeeper.proofs.Taken.{made, durable, crash, open_still}
use Rattle.sqlkeeper.proofs.RolledBack.{left_before, means_back, clean_before, means_dropped, on_any_error}
use Rattle.sqlkeeper.proofs.applying.apply_change.Given as given
use Rattle.sqlkeeper.proofs.applying.apply_change.Goals as goal

module _ (g : given.Over) (c : goal.After-conn-2-1 g) where
  -- the connection is handed back
  same_end : c.commit.new.self.0 ≡ c.conn-2-1.given.0
  same_end = search rules

  begins : Begins (state g.S.Store c.args.conn.now) (state g.S.Store c.transaction-tx.result.conn.now)
  begins = rw c.transaction-tx.ensures.begun (record { now_is = refl; committed_is = refl; was_open = λ is_open. is_open; clean = λ clean. clean; leaves = λ trees left. left; inside = refl })

module _ (g : given.Over) (c : goal.After-conn-2-1 g) (s after : State) where
  -- what the transaction has written means the state after the change
  holds : Means v2 (state g.S.Store c.args.conn.now) s → IsSound s → IsChangeOf (λ bytes. held c.args.staged.now ≡ bytes) s c.args.change.now after
      → HasCleanDisk (state g.S.Store c.commit.new.self.0) → Holds v2 (state g.S.Store c.write_change.new.tx.conn.now).now (tables_of after)
  holds means sound change clean =
      let begun = state g.S.Store c.transaction-tx.result.conn.now in
      let mid = state g.S.Store c.write_change.new.tx.conn.now in
      let early : HasCleanDisk mid = omega (arith, c.commit.ensures.survives.clean) in
      let first : Pends v2 begun (tables_of s) = rw c.transaction-tx.ensures.begun (λ was_clean _ is_open. ((means was_clean).tables is_open).holds) in
      let inside : IsTrue begun.in_transaction = rw c.transaction-tx.ensures.begun refl in
      let running = c.in_ok-write_change.ensures.rest.running early inside in
      c.in_ok-write_change.ensures.done s after first sound change inside early running.0 running.1

pub returns-clause-made : goal.returns-clause-made
returns-clause-made g c s after means sound change =
    let mid = state g.S.Store c.write_change.new.tx.conn.now in
    let end = state g.S.Store c.commit.new.self.0 in
    let out = made v2 mid end after (holds g c s after means sound change) c.commit.result c.commit.ensures.ok in
    subst (λ h. OnOk c.commit.result (Means v2 (state g.S.Store h) after)) (same_end g c) out

pub returns-clause-durable : goal.returns-clause-durable
returns-clause-durable g c s after means sound change =
    let mid = state g.S.Store c.write_change.new.tx.conn.now in
    let end = state g.S.Store c.commit.new.self.0 in
    let out = durable v2 mid end after (holds g c s after means sound change) c.commit.result c.commit.ensures.ok (λ db is_open. g.met.S.Store.settled c.commit.new.self.0.store db is_open) in
    subst (λ h. OnOk c.commit.result (LeavesOnly v2 (state g.S.Store h) after)) (same_end g c) out

pub returns-clause-crash : goal.returns-clause-crash
returns-clause-crash g c s after means sound change =
    let old = state g.S.Store c.args.conn.now in
    let mid = state g.S.Store c.write_change.new.tx.conn.now in
    let end = state g.S.Store c.commit.new.self.0 in
    let begun = state g.S.Store c.transaction-tx.result.conn.now in
    let before = left_before old begun mid end (begins g c) c.write_change.ensures.rest.survives c.commit.ensures.survives in
    let out = crash v2 old mid end after (holds g c s after means sound change) c.commit.ensures.survives before in
    subst (λ h. AddsOnly v2 old (state g.S.Store h) after) (same_end g c) out

pub returns-clause-opened : goal.returns-clause-opened
returns-clause-opened g c clean =
    let end = state g.S.Store c.commit.new.self.0 in
    let out = open_still (state g.S.Store c.write_change.new.tx.conn.now) end c.commit.result c.commit.ensures.ok (subst (λ h. HasCleanDisk (state g.S.Store h)) (sym (same_end g c)) clean) (λ is_open. g.met.S.Store.stays c.commit.new.self.0.store is_open) in
    subst (λ h. OnOk c.commit.result (IsTrue (state g.S.Store h).is_open × LeavesLast (state g.S.Store h))) (same_end g c) out

pub returns-clause-kept : goal.returns-clause-kept
returns-clause-kept g c s means =
    let old = state g.S.Store c.args.conn.now in
    let begun = state g.S.Store c.transaction-tx.result.conn.now in
    let mid = state g.S.Store c.write_change.new.tx.conn.now in
    let end = state g.S.Store c.commit.new.self.0 in
    let out = means_back old begun mid end (begins g c) c.write_change.ensures.rest.survives (λ clean. c.in_ok-write_change.ensures.rest.running clean (begins g c).inside) (λ clean. c.write_change.ensures.rest.uncommitted clean (begins g c).inside) c.commit.ensures.survives c.commit.result c.commit.ensures.err v2 s means in
    subst (λ h. OnErr c.commit.result (Means v2 (state g.S.Store h) s)) (same_end g c) out

pub returns-clause-honest : goal.returns-clause-honest
returns-clause-honest g c =
    let old = state g.S.Store c.args.conn.now in
    let begun = state g.S.Store c.transaction-tx.result.conn.now in
    let mid = state g.S.Store c.write_change.new.tx.conn.now in
    let end = state g.S.Store c.commit.new.self.0 in
    subst (λ h. HasCleanDisk (state g.S.Store h) → HasCleanDisk (state g.S.Store c.args.conn.now)) (same_end g c) (clean_before old begun mid end (begins g c) c.write_change.ensures.rest.survives c.commit.ensures.survives)

pub returns-in_err-write_change-clause-kept : goal.returns-in_err-write_change-clause-kept
returns-in_err-write_change-clause-kept g c s means =
    let old = state g.S.Store c.args.conn.now in
    let begun = state g.S.Store c.transaction-tx.result.conn.now in
    let mid = state g.S.Store c.write_change.new.tx.conn.now in
    let end = state g.S.Store c.drop-tx.new.self.0 in
    let same : c.drop-tx.new.self.0 ≡ c.conn-1.given.0 = search rules in
    let begins : Begins old begun = rw c.transaction-tx.ensures.begun (record { now_is = refl; committed_is = refl; was_open = λ is_open. is_open; clean = λ clean. clean; leaves = λ trees left. left; inside = refl }) in
    let out = means_dropped old begun mid end begins c.write_change.ensures.rest.survives (λ clean. c.write_change.ensures.rest.uncommitted clean begins.inside) c.drop-tx.ensures.undone c.drop-tx.ensures.survives v2 s means in
    on_any_error c.from_residual.result (subst (λ h. Means v2 (state g.S.Store h) s) same out)

pub returns-then-not-is_autocommit-clause-crash : goal.returns-then-not-is_autocommit-clause-crash
returns-then-not-is_autocommit-clause-crash g c s after means sound change clean trees left = inl left

pub transaction-tx-requires : goal.transaction-tx-requires
transaction-tx-requires g c = grind arith
