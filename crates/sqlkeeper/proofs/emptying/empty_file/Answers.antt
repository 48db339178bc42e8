use Rattle.std.proofs.Common.{◌≡◌, IsTrue, rules, arith, refl, sym, subst, OnOk, false}
use Rattle.std.specs.Prelude.{OnErr}
use Rattle.sqlite.specs.State.{HasCleanDisk}
use Rattle.sqlite.specs.Held.{state}
use Rattle.boxes.specs.State.{State}
use Rattle.sqltables.specs.Schema.{v2}
use Rattle.sqltables.specs.Tables.{tables_of}
use Rattle.sqltables.specs.Means.{Pends, Holds, Means, LeavesOnly, AddsOnly, LeavesLast}
use Rattle.sqlaudit.specs.Opened.{LeavesUntouched, OnlyLooks}
use Rattle.sqlaudit.proofs.Looking.{Begins}
use Rattle.sqlkeeper.specs.Emptying.{EmptiesStaged}
use Rattle.sqlkeeper.proofs.Taken.{made, durable, crash, open_still}
use Rattle.sqlkeeper.proofs.Emptied.{emptied, spared}
use Rattle.sqlkeeper.proofs.RolledBack.{left_before, looks_back, clean_before}
use Rattle.sqlkeeper.proofs.emptying.empty_file.Given as given
use Rattle.sqlkeeper.proofs.emptying.empty_file.Goals as goal

module _ (g : given.Over) (c : goal.After-conn-2-1 g) where
  -- the connection is handed back
  same_end : c.commit.new.self.0 ≡ c.conn-2-1.given.0
  same_end = search rules

  begins : Begins (state g.S.Store c.args.conn.now) (state g.S.Store c.transaction-tx.result.conn.now)
  begins = rw c.transaction-tx.ensures.begun (record { now_is = refl; committed_is = refl; was_open = λ is_open. is_open; clean = λ clean. clean; leaves = λ trees left. left; inside = refl })

module _ (g : given.Over) (c : goal.After-conn-2-1 g) (s : State) where
  -- what the transaction has written means the same state
  holds : Means v2 (state g.S.Store c.args.conn.now) s → HasCleanDisk (state g.S.Store c.commit.new.self.0) → Holds v2 (state g.S.Store c.empty_staged.new.tx.conn.now).now (tables_of s)
  holds means clean =
      let begun = state g.S.Store c.transaction-tx.result.conn.now in
      let mid = state g.S.Store c.empty_staged.new.tx.conn.now in
      let early : HasCleanDisk mid = omega (arith, c.commit.ensures.survives.clean) in
      let first : Pends v2 begun (tables_of s) = rw c.transaction-tx.ensures.begun (λ was_clean _ is_open. ((means was_clean).tables is_open).holds) in
      let inside : IsTrue begun.in_transaction = rw c.transaction-tx.ensures.begun refl in
      let running = c.in_ok-empty_staged.ensures.rest.running early inside in
      c.in_ok-empty_staged.ensures.done (tables_of s) first early running.0 running.1

pub returns-clause-made : goal.returns-clause-made
returns-clause-made g c s means =
    let mid = state g.S.Store c.empty_staged.new.tx.conn.now in
    let end = state g.S.Store c.commit.new.self.0 in
    let out = made v2 mid end s (holds g c s means) c.commit.result c.commit.ensures.ok in
    subst (λ h. OnOk c.commit.result (Means v2 (state g.S.Store h) s)) (same_end g c) out

pub returns-clause-emptied : goal.returns-clause-emptied
returns-clause-emptied g c s means =
    let old = state g.S.Store c.args.conn.now in
    let begun = state g.S.Store c.transaction-tx.result.conn.now in
    let mid = state g.S.Store c.empty_staged.new.tx.conn.now in
    let end = state g.S.Store c.commit.new.self.0 in
    let out = emptied old begun mid end (begins g c) c.empty_staged.ensures.rest.survives (λ clean. c.in_ok-empty_staged.ensures.rest.running clean (begins g c).inside) (λ clean. c.empty_staged.ensures.rest.uncommitted clean (begins g c).inside)
    c.commit.ensures.survives s means c.in_ok-empty_staged.ensures.emptied c.commit.result c.commit.ensures.ok in
    subst (λ h. OnOk c.commit.result (EmptiesStaged old (state g.S.Store h))) (same_end g c) out

pub returns-clause-spared : goal.returns-clause-spared
returns-clause-spared g c s means none =
    let old = state g.S.Store c.args.conn.now in
    let begun = state g.S.Store c.transaction-tx.result.conn.now in
    let mid = state g.S.Store c.empty_staged.new.tx.conn.now in
    let end = state g.S.Store c.commit.new.self.0 in
    let out = spared old begun mid end (begins g c) c.empty_staged.ensures.rest.survives (λ clean. c.in_ok-empty_staged.ensures.rest.running clean (begins g c).inside) (λ clean. c.empty_staged.ensures.rest.uncommitted clean (begins g c).inside)
    c.commit.ensures.survives s means none c.in_ok-empty_staged.ensures.same (λ is_open. g.met.S.Store.stays c.args.conn.now.store is_open) c.commit.result c.commit.ensures.ok c.commit.ensures.err in
    subst (λ h. LeavesUntouched old (state g.S.Store h)) (same_end g c) out

pub returns-clause-durable : goal.returns-clause-durable
returns-clause-durable g c s means =
    let mid = state g.S.Store c.empty_staged.new.tx.conn.now in
    let end = state g.S.Store c.commit.new.self.0 in
    let out = durable v2 mid end s (holds g c s means) c.commit.result c.commit.ensures.ok (λ db is_open. g.met.S.Store.settled c.commit.new.self.0.store db is_open) in
    subst (λ h. OnOk c.commit.result (LeavesOnly v2 (state g.S.Store h) s)) (same_end g c) out

pub returns-clause-crash : goal.returns-clause-crash
returns-clause-crash g c s means =
    let old = state g.S.Store c.args.conn.now in
    let mid = state g.S.Store c.empty_staged.new.tx.conn.now in
    let end = state g.S.Store c.commit.new.self.0 in
    let begun = state g.S.Store c.transaction-tx.result.conn.now in
    let before = left_before old begun mid end (begins g c) c.empty_staged.ensures.rest.survives c.commit.ensures.survives in
    let out = crash v2 old mid end s (holds g c s means) c.commit.ensures.survives before in
    subst (λ h. AddsOnly v2 old (state g.S.Store h) s) (same_end g c) out

pub returns-clause-opened : goal.returns-clause-opened
returns-clause-opened g c clean =
    let end = state g.S.Store c.commit.new.self.0 in
    let out = open_still (state g.S.Store c.empty_staged.new.tx.conn.now) end c.commit.result c.commit.ensures.ok (subst (λ h. HasCleanDisk (state g.S.Store h)) (sym (same_end g c)) clean) (λ is_open. g.met.S.Store.stays c.commit.new.self.0.store is_open) in
    subst (λ h. OnOk c.commit.result (IsTrue (state g.S.Store h).is_open × LeavesLast (state g.S.Store h))) (same_end g c) out

pub returns-clause-kept : goal.returns-clause-kept
returns-clause-kept g c settled =
    let old = state g.S.Store c.args.conn.now in
    let begun = state g.S.Store c.transaction-tx.result.conn.now in
    let mid = state g.S.Store c.empty_staged.new.tx.conn.now in
    let end = state g.S.Store c.commit.new.self.0 in
    let mode : old.in_transaction ≡ false = search rules in
    let out = looks_back old begun mid end (begins g c) c.empty_staged.ensures.rest.survives (λ clean. c.in_ok-empty_staged.ensures.rest.running clean (begins g c).inside) (λ clean. c.empty_staged.ensures.rest.uncommitted clean (begins g c).inside) c.commit.ensures.survives c.commit.result c.commit.ensures.err settled mode in
    subst (λ h. OnErr c.commit.result (OnlyLooks (state g.S.Store c.args.conn.now) (state g.S.Store h))) (same_end g c) out

pub returns-clause-honest : goal.returns-clause-honest
returns-clause-honest g c =
    let old = state g.S.Store c.args.conn.now in
    let begun = state g.S.Store c.transaction-tx.result.conn.now in
    let mid = state g.S.Store c.empty_staged.new.tx.conn.now in
    let end = state g.S.Store c.commit.new.self.0 in
    subst (λ h. HasCleanDisk (state g.S.Store h) → HasCleanDisk (state g.S.Store c.args.conn.now)) (same_end g c) (clean_before old begun mid end (begins g c) c.empty_staged.ensures.rest.survives c.commit.ensures.survives)

pub returns-then-not-is_autocommit-clause-crash : goal.returns-then-not-is_autocommit-clause-crash
returns-then-not-is_autocommit-clause-crash g c = grind arith

pub returns-then-not-is_autocommit-clause-kept : goal.returns-then-not-is_autocommit-clause-kept
returns-then-not-is_autocommit-clause-kept g c = grind arith

pub returns-then-not-is_autocommit-clause-spared : goal.returns-then-not-is_autocommit-clause-spared
returns-then-not-is_autocommit-clause-spared g c = grind arith

pub transaction-tx-requires : goal.transaction-tx-requires
transaction-tx-requires g c = grind arith
