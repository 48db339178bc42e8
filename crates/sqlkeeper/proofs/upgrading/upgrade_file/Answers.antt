use Rattle.std.proofs.Common.{◌≡◌, IsTrue, rules, arith, refl, sym, ap, subst, OnOk, ◌∙◌, false}
use Rattle.sqlaudit.specs.Opened.{OnlyLooks}
use Rattle.sqlaudit.proofs.Looking.{Begins}
use Rattle.std.specs.Prelude.{OnErr}
use Rattle.sqlite.specs.State.{HasCleanDisk}
use Rattle.sqlite.specs.Held.{state}
use Rattle.boxes.specs.State.{State}
use Rattle.sqltables.specs.Schema.{v1, v2}
use Rattle.sqltables.specs.Changes.{with_allowance}
use Rattle.sqltables.specs.Tables.{tables_of, NoneStaged}
use Rattle.sqltables.specs.Means.{Pends, Holds, Means, LeavesOnly, AddsOnly, LeavesLast}
use Rattle.sqlkeeper.specs.Emptying.{HasNoneStaged}
use Rattle.sqlkeeper.proofs.Taken.{made, durable, crash, open_still, unstaged}
use Rattle.sqlkeeper.proofs.RolledBack.{left_before, looks_back, clean_before}
use Rattle.sqlkeeper.proofs.upgrading.upgrade_file.Given as given
use Rattle.sqlkeeper.proofs.upgrading.upgrade_file.Goals as goal

module _ (g : given.Over) (c : goal.After-conn-2-1 g) where
  -- the connection is handed back
  same_end : c.commit.new.self.0 ≡ c.conn-2-1.given.0
  same_end = search rules

  begins : Begins (state g.S.Store c.args.conn.now) (state g.S.Store c.transaction-tx.result.conn.now)
  begins = rw c.transaction-tx.ensures.begun (record { now_is = refl; committed_is = refl; was_open = λ is_open. is_open; clean = λ clean. clean; leaves = λ trees left. left; inside = refl })

module _ (g : given.Over) (c : goal.After-conn-2-1 g) (s : State) where
  -- what the transaction has written means the same state in version 2
  holds : Means v1 (state g.S.Store c.args.conn.now) s → HasCleanDisk (state g.S.Store c.commit.new.self.0) → Holds v2 (state g.S.Store c.upgrade.new.tx.conn.now).now (tables_of s)
  holds means clean =
      let begun = state g.S.Store c.transaction-tx.result.conn.now in
      let mid = state g.S.Store c.upgrade.new.tx.conn.now in
      let early : HasCleanDisk mid = omega (arith, c.commit.ensures.survives.clean) in
      let first : Pends v1 begun (tables_of s) = rw c.transaction-tx.ensures.begun (λ was_clean _ is_open. ((means was_clean).tables is_open).holds) in
      let inside : IsTrue begun.in_transaction = rw c.transaction-tx.ensures.begun refl in
      let running = c.in_ok-upgrade.ensures.rest.running early in
      let was : HasCleanDisk begun = omega (arith, early, c.upgrade.ensures.rest.survives.clean) in
      let was_open = (c.in_ok-upgrade.ensures.rest.uncommitted early).was_open running.1 in
      let none : s.allowance ≡ 0 = ((first was inside was_open).means.unlimited refl).0 in
      let done = c.in_ok-upgrade.ensures.done (tables_of s) first early running.0 running.1 in
      let same : with_allowance (tables_of s) c.none.result ≡ tables_of s = ap (with_allowance (tables_of s)) (c.none.ensures ∙ sym none) in
      subst (Holds v2 mid.now) same done

pub returns-clause-made : goal.returns-clause-made
returns-clause-made g c s means =
    let mid = state g.S.Store c.upgrade.new.tx.conn.now in
    let end = state g.S.Store c.commit.new.self.0 in
    let out = made v2 mid end s (holds g c s means) c.commit.result c.commit.ensures.ok in
    subst (λ h. OnOk c.commit.result (Means v2 (state g.S.Store h) s)) (same_end g c) out

pub returns-clause-durable : goal.returns-clause-durable
returns-clause-durable g c s means =
    let mid = state g.S.Store c.upgrade.new.tx.conn.now in
    let end = state g.S.Store c.commit.new.self.0 in
    let out = durable v2 mid end s (holds g c s means) c.commit.result c.commit.ensures.ok (λ db is_open. g.met.S.Store.settled c.commit.new.self.0.store db is_open) in
    subst (λ h. OnOk c.commit.result (LeavesOnly v2 (state g.S.Store h) s)) (same_end g c) out

pub returns-clause-crash : goal.returns-clause-crash
returns-clause-crash g c s means =
    let old = state g.S.Store c.args.conn.now in
    let mid = state g.S.Store c.upgrade.new.tx.conn.now in
    let end = state g.S.Store c.commit.new.self.0 in
    let begun = state g.S.Store c.transaction-tx.result.conn.now in
    let before = left_before old begun mid end (begins g c) c.upgrade.ensures.rest.survives c.commit.ensures.survives in
    let out = crash v2 old mid end s (holds g c s means) c.commit.ensures.survives before in
    subst (λ h. AddsOnly v2 old (state g.S.Store h) s) (same_end g c) out

pub returns-clause-opened : goal.returns-clause-opened
returns-clause-opened g c clean =
    let end = state g.S.Store c.commit.new.self.0 in
    let out = open_still (state g.S.Store c.upgrade.new.tx.conn.now) end c.commit.result c.commit.ensures.ok (subst (λ h. HasCleanDisk (state g.S.Store h)) (sym (same_end g c)) clean) (λ is_open. g.met.S.Store.stays c.commit.new.self.0.store is_open) in
    subst (λ h. OnOk c.commit.result (IsTrue (state g.S.Store h).is_open × LeavesLast (state g.S.Store h))) (same_end g c) out

pub returns-clause-unstaged : goal.returns-clause-unstaged
returns-clause-unstaged g c s means =
    let begun = state g.S.Store c.transaction-tx.result.conn.now in
    let mid = state g.S.Store c.upgrade.new.tx.conn.now in
    let end = state g.S.Store c.commit.new.self.0 in
    let first : Pends v1 begun (tables_of s) = rw c.transaction-tx.ensures.begun (λ was_clean _ is_open. ((means was_clean).tables is_open).holds) in
    let none : HasCleanDisk end → NoneStaged mid.now.trees = λ clean.
    let early : HasCleanDisk mid = omega (arith, clean, c.commit.ensures.survives.clean) in
    let running = c.in_ok-upgrade.ensures.rest.running early in
    c.in_ok-upgrade.ensures.unstaged (tables_of s) first early running.0 running.1 in
    let out = unstaged mid end none c.commit.result c.commit.ensures.ok in
    subst (λ h. OnOk c.commit.result (HasCleanDisk (state g.S.Store h) → HasNoneStaged (state g.S.Store h))) (same_end g c) out

pub returns-clause-kept : goal.returns-clause-kept
returns-clause-kept g c settled =
    let old = state g.S.Store c.args.conn.now in
    let begun = state g.S.Store c.transaction-tx.result.conn.now in
    let mid = state g.S.Store c.upgrade.new.tx.conn.now in
    let end = state g.S.Store c.commit.new.self.0 in
    let mode : old.in_transaction ≡ false = search rules in
    let out = looks_back old begun mid end (begins g c) c.upgrade.ensures.rest.survives c.in_ok-upgrade.ensures.rest.running c.upgrade.ensures.rest.uncommitted c.commit.ensures.survives c.commit.result c.commit.ensures.err settled mode in
    subst (λ h. OnErr c.commit.result (OnlyLooks (state g.S.Store c.args.conn.now) (state g.S.Store h))) (same_end g c) out

pub returns-clause-honest : goal.returns-clause-honest
returns-clause-honest g c =
    let old = state g.S.Store c.args.conn.now in
    let begun = state g.S.Store c.transaction-tx.result.conn.now in
    let mid = state g.S.Store c.upgrade.new.tx.conn.now in
    let end = state g.S.Store c.commit.new.self.0 in
    subst (λ h. HasCleanDisk (state g.S.Store h) → HasCleanDisk (state g.S.Store c.args.conn.now)) (same_end g c) (clean_before old begun mid end (begins g c) c.upgrade.ensures.rest.survives c.commit.ensures.survives)

pub returns-then-not-is_autocommit-clause-crash : goal.returns-then-not-is_autocommit-clause-crash
returns-then-not-is_autocommit-clause-crash g c = grind arith

pub returns-then-not-is_autocommit-clause-kept : goal.returns-then-not-is_autocommit-clause-kept
returns-then-not-is_autocommit-clause-kept g c = grind arith

pub transaction-tx-requires : goal.transaction-tx-requires
transaction-tx-requires g c = grind arith
