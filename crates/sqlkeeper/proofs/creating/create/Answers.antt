use Rattle.std.proofs.Common.{◌≡◌, IsTrue, rules, arith, false, w16, sym, subst, OnOk, refl}
use Rattle.sqlaudit.proofs.Looking.{Begins}
use Rattle.std.specs.Prelude.{OnErr}
use Rattle.std.proofs.lemmas.Int.{to_z-of_z}
use Rattle.boxes.specs.declared.rows.Role.TheVariants.{Clerk}
use Rattle.sqltables.specs.Changes.{no_rows, with_key}
use Rattle.sqlite.specs.State.{HasCleanDisk}
use Rattle.sqlite.specs.Held.{state}
use Rattle.boxes.specs.State.{State}
use Rattle.boxes.specs.FirstState.{first_state}
use Rattle.sqltables.specs.Schema.{v2, s0}
use Rattle.sqltables.specs.Tables.{tables_of, NoneStaged}
use Rattle.sqltables.specs.Means.{Holds, Means, IsBare, SeesNothing, LeavesOnly, AddsOnly, LeavesLast}
use Rattle.sqlkeeper.specs.Emptying.{HasNoneStaged}
use Rattle.sqlkeeper.proofs.Taken.{made, durable, crash, open_still, unstaged}
use Rattle.sqlkeeper.proofs.FirstTables.{first_tables}
use Rattle.sqlkeeper.proofs.RolledBack.{left_before, bare_back, clean_before, bare_dropped, on_any_error}
use Rattle.sqlkeeper.proofs.creating.create.Given as given
use Rattle.sqlkeeper.proofs.creating.create.Goals as goal

module _ (g : given.Over) (c : goal.After-conn-2-1 g) where
  -- the connection is handed back
  same_end : c.commit.new.self.0 ≡ c.conn-2-1.given.0
  same_end = search rules

  begins : Begins (state g.S.Store c.args.conn.now) (state g.S.Store c.transaction-tx.result.conn.now)
  begins = rw c.transaction-tx.ensures.begun (record { now_is = refl; committed_is = refl; was_open = λ is_open. is_open; clean = λ clean. clean; leaves = λ trees left. left; inside = refl })

module _ (g : given.Over) (c : goal.After-conn-2-1 g) where
  abbrev first : State
  first = first_state c.args.east c.args.allowance c.args.id.now c.args.secret.now

  -- what the transaction has written means the first state
  holds : IsBare (state g.S.Store c.args.conn.now) → HasCleanDisk (state g.S.Store c.commit.new.self.0) → Holds v2 (state g.S.Store c.make_office.new.tx.conn.now).now (tables_of first)
  holds bare clean =
      let begun = state g.S.Store c.transaction-tx.result.conn.now in
      let mid = state g.S.Store c.make_office.new.tx.conn.now in
      let early : HasCleanDisk mid = omega (arith, c.commit.ensures.survives.clean) in
      let nothing : SeesNothing s0 begun = rw c.transaction-tx.ensures.begun (λ was_clean _ is_open. record { schema_is = ((bare was_clean).bare is_open).schema; empty = tt }) in
      let running = c.in_ok-make_office.ensures.rest.running early in
      let done = c.in_ok-make_office.ensures.done nothing early running.0 running.1 in
      let written = subst (λ n. Holds v2 mid.now (with_key (no_rows n c.args.allowance) c.args.id.now (record { role = Clerk; secret = c.args.secret.now; revoked = false }))) (to_z-of_z w16 c.args.east c.ranges.east) done in
      subst (Holds v2 mid.now) (sym (first_tables c.args.east c.args.allowance c.args.id.now c.args.secret.now)) written

pub returns-clause-made : goal.returns-clause-made
returns-clause-made g c bare =
    let mid = state g.S.Store c.make_office.new.tx.conn.now in
    let end = state g.S.Store c.commit.new.self.0 in
    let out = made v2 mid end (first g c) (holds g c bare) c.commit.result c.commit.ensures.ok in
    subst (λ h. OnOk c.commit.result (Means v2 (state g.S.Store h) (first g c))) (same_end g c) out

pub returns-clause-durable : goal.returns-clause-durable
returns-clause-durable g c bare =
    let mid = state g.S.Store c.make_office.new.tx.conn.now in
    let end = state g.S.Store c.commit.new.self.0 in
    let out = durable v2 mid end (first g c) (holds g c bare) c.commit.result c.commit.ensures.ok (λ db is_open. g.met.S.Store.settled c.commit.new.self.0.store db is_open) in
    subst (λ h. OnOk c.commit.result (LeavesOnly v2 (state g.S.Store h) (first g c))) (same_end g c) out

pub returns-clause-crash : goal.returns-clause-crash
returns-clause-crash g c bare =
    let old = state g.S.Store c.args.conn.now in
    let mid = state g.S.Store c.make_office.new.tx.conn.now in
    let end = state g.S.Store c.commit.new.self.0 in
    let begun = state g.S.Store c.transaction-tx.result.conn.now in
    let before = left_before old begun mid end (begins g c) c.make_office.ensures.rest.survives c.commit.ensures.survives in
    let out = crash v2 old mid end (first g c) (holds g c bare) c.commit.ensures.survives before in
    subst (λ h. AddsOnly v2 old (state g.S.Store h) (first g c)) (same_end g c) out

pub returns-clause-opened : goal.returns-clause-opened
returns-clause-opened g c clean =
    let end = state g.S.Store c.commit.new.self.0 in
    let out = open_still (state g.S.Store c.make_office.new.tx.conn.now) end c.commit.result c.commit.ensures.ok (subst (λ h. HasCleanDisk (state g.S.Store h)) (sym (same_end g c)) clean) (λ is_open. g.met.S.Store.stays c.commit.new.self.0.store is_open) in
    subst (λ h. OnOk c.commit.result (IsTrue (state g.S.Store h).is_open × LeavesLast (state g.S.Store h))) (same_end g c) out

pub returns-clause-unstaged : goal.returns-clause-unstaged
returns-clause-unstaged g c bare =
    let begun = state g.S.Store c.transaction-tx.result.conn.now in
    let mid = state g.S.Store c.make_office.new.tx.conn.now in
    let end = state g.S.Store c.commit.new.self.0 in
    let nothing : SeesNothing s0 begun = rw c.transaction-tx.ensures.begun (λ was_clean _ is_open. record { schema_is = ((bare was_clean).bare is_open).schema; empty = tt }) in
    let none : HasCleanDisk end → NoneStaged mid.now.trees = λ clean.
    let early : HasCleanDisk mid = omega (arith, clean, c.commit.ensures.survives.clean) in
    let running = c.in_ok-make_office.ensures.rest.running early in
    c.in_ok-make_office.ensures.unstaged nothing early running.0 running.1 in
    let out = unstaged mid end none c.commit.result c.commit.ensures.ok in
    subst (λ h. OnOk c.commit.result (HasCleanDisk (state g.S.Store h) → HasNoneStaged (state g.S.Store h))) (same_end g c) out

pub returns-clause-kept : goal.returns-clause-kept
returns-clause-kept g c bare =
    let old = state g.S.Store c.args.conn.now in
    let begun = state g.S.Store c.transaction-tx.result.conn.now in
    let mid = state g.S.Store c.make_office.new.tx.conn.now in
    let end = state g.S.Store c.commit.new.self.0 in
    let out = bare_back old begun mid end (begins g c) c.make_office.ensures.rest.survives c.in_ok-make_office.ensures.rest.running c.make_office.ensures.rest.uncommitted c.commit.ensures.survives c.commit.result c.commit.ensures.err bare in
    subst (λ h. OnErr c.commit.result (IsBare (state g.S.Store h))) (same_end g c) out

pub returns-clause-honest : goal.returns-clause-honest
returns-clause-honest g c =
    let old = state g.S.Store c.args.conn.now in
    let begun = state g.S.Store c.transaction-tx.result.conn.now in
    let mid = state g.S.Store c.make_office.new.tx.conn.now in
    let end = state g.S.Store c.commit.new.self.0 in
    subst (λ h. HasCleanDisk (state g.S.Store h) → HasCleanDisk (state g.S.Store c.args.conn.now)) (same_end g c) (clean_before old begun mid end (begins g c) c.make_office.ensures.rest.survives c.commit.ensures.survives)

pub returns-in_err-make_office-clause-kept : goal.returns-in_err-make_office-clause-kept
returns-in_err-make_office-clause-kept g c bare =
    let old = state g.S.Store c.args.conn.now in
    let begun = state g.S.Store c.transaction-tx.result.conn.now in
    let mid = state g.S.Store c.make_office.new.tx.conn.now in
    let end = state g.S.Store c.drop-tx.new.self.0 in
    let same : c.drop-tx.new.self.0 ≡ c.conn-1.given.0 = search rules in
    let begins : Begins old begun = rw c.transaction-tx.ensures.begun (record { now_is = refl; committed_is = refl; was_open = λ is_open. is_open; clean = λ clean. clean; leaves = λ trees left. left; inside = refl }) in
    let out = bare_dropped old begun mid end begins c.make_office.ensures.rest.survives c.make_office.ensures.rest.uncommitted c.drop-tx.ensures.undone c.drop-tx.ensures.survives bare in
    on_any_error c.from_residual.result (subst (λ h. IsBare (state g.S.Store h)) same out)

pub returns-in_err-make_office-clause-crash : goal.returns-in_err-make_office-clause-crash
returns-in_err-make_office-clause-crash g c = grind arith

pub returns-in_err-make_office-clause-honest : goal.returns-in_err-make_office-clause-honest
returns-in_err-make_office-clause-honest g c = grind arith

pub returns-then-not-is_autocommit-clause-crash : goal.returns-then-not-is_autocommit-clause-crash
returns-then-not-is_autocommit-clause-crash g c = grind arith

pub transaction-tx-requires : goal.transaction-tx-requires
transaction-tx-requires g c = grind arith
