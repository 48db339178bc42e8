use Rattle.std.proofs.Common.{◌≡◌, IsTrue, OnOk, rules, sym, subst, arith}
use Rattle.std.specs.Prelude.{OnErr}
use Rattle.sqlite.specs.State.{HasCleanDisk}
use Rattle.sqlite.specs.Held.{state}
use Rattle.boxes.specs.State.{State}
use Rattle.sqltables.specs.Apart.{IsApart}
use Rattle.sqltables.specs.Schema.{v2}
use Rattle.sqltables.specs.Tables.{tables_of}
use Rattle.sqltables.specs.Means.{Pends}
use Rattle.sqlkeeper.specs.Grouping.{GoesOnInGroup}
use Rattle.sqlkeeper.proofs.GroupTexts.{is_pending}
use Rattle.sqlkeeper.proofs.Grouped.{either, marked_apart, pends_broken, pends_kept, pends_marked}
use Rattle.sqlkeeper.proofs.applying.apply_in_group.Given as given
use Rattle.sqlkeeper.proofs.applying.apply_in_group.Goals.{After-write_change-written, After-conn-in-Ok-1}
use Rattle.sqlkeeper.proofs.applying.apply_in_group.Goals as goal

module _ (g : given.Over) (c : After-conn-in-Ok-1 g) where
  -- the connection is handed back
  same_end : c.commit.new.self.0 ≡ c.conn-in-Ok-1.given.0
  same_end = search rules

module _ (g : given.Over) (c : After-write_change-written g) where
  pending : IsTrue (state g.S.Store c.args.conn.now).in_transaction
  pending = is_pending _ c.is_autocommit.ensures.value c.if-is_autocommit.false

  -- the savepoint is within the transaction
  inside : HasCleanDisk (state g.S.Store c.write_change-written.new.tx.conn.now) → IsTrue (state g.S.Store c.in_ok-mark.mark.conn.now).in_transaction
  inside clean = (c.in_ok-mark.ensures.ok (omega (arith, clean, c.write_change-written.ensures.rest.survives.clean))).1.0.mode

  first : (s : State) → Pends v2 (state g.S.Store c.args.conn.now) (tables_of s) → Pends v2 (state g.S.Store c.in_ok-mark.mark.conn.now) (tables_of s)
  first s = pends_marked (state g.S.Store c.args.conn.now) (state g.S.Store c.in_ok-mark.mark.conn.now) (tables_of s) c.in_ok-mark.ensures.survives (λ clean. (c.in_ok-mark.ensures.ok clean).1) pending

  apart : IsApart (state g.S.Store c.write_change-written.new.tx.conn.now) c.write_change-written.new.tx.at
  apart = c.write_change-written.ensures.rest.same_reference.apart (marked_apart (state g.S.Store c.args.conn.now) (state g.S.Store c.in_ok-mark.mark.conn.now) c.in_ok-mark.mark.at pending c.in_ok-mark.ensures.ok)

pub returns-in-Ok-clause-rest : goal.returns-in-Ok-clause-rest
returns-in-Ok-clause-rest g c =
    let old = state g.S.Store c.args.conn.now in
    let begun = state g.S.Store c.in_ok-mark.mark.conn.now in
    let mid = state g.S.Store c.write_change-written.new.tx.conn.now in
    let put = (goal.at.returns-in-Ok-clause-rest g c).After-write_change-written in
    let new = state g.S.Store c.commit.new.self.0 in
    let same = same_end g (goal.at.returns-in-Ok-clause-rest g c).After-conn-in-Ok-1 in
    subst (λ h. GoesOnInGroup old (state g.S.Store h) c.commit.result) same (either old begun mid new c.write_change-written.new.tx.at (λ clean. (c.in_ok-mark.ensures.ok clean).1) c.in_ok-mark.ensures.survives
    (λ clean. c.write_change-written.ensures.rest.uncommitted clean (inside g put clean)) c.write_change-written.ensures.rest.survives (apart g put)
    (λ clean. c.in-Ok.ensures.rest.running clean (inside g put clean)) c.commit.ensures.survives
    c.commit.result c.commit.ensures.ok c.commit.ensures.err)

pub returns-in-Ok-clause-made : goal.returns-in-Ok-clause-made
returns-in-Ok-clause-made g c s after pends sound change =
    let old = state g.S.Store c.args.conn.now in
    let begun = state g.S.Store c.in_ok-mark.mark.conn.now in
    let mid = state g.S.Store c.write_change-written.new.tx.conn.now in
    let put = (goal.at.returns-in-Ok-clause-made g c).After-write_change-written in
    let new = state g.S.Store c.commit.new.self.0 in
    let same = same_end g (goal.at.returns-in-Ok-clause-made g c).After-conn-in-Ok-1 in
    subst (λ h. OnOk c.commit.result (Pends v2 (state g.S.Store h) (tables_of after))) same (pends_kept old begun mid new c.write_change-written.new.tx.at (λ clean. (c.in_ok-mark.ensures.ok clean).1) c.in_ok-mark.ensures.survives
    (λ clean. c.write_change-written.ensures.rest.uncommitted clean (inside g put clean)) c.write_change-written.ensures.rest.survives (apart g put)
    (λ clean. c.in-Ok.ensures.rest.running clean (inside g put clean)) c.commit.ensures.survives
    (tables_of after) (λ clean running. c.in-Ok.ensures.done s after (first g put s pends) sound change (inside g put clean) clean running) c.commit.result c.commit.ensures.ok)

pub returns-in-Ok-clause-undone : goal.returns-in-Ok-clause-undone
returns-in-Ok-clause-undone g c s pends =
    let old = state g.S.Store c.args.conn.now in
    let begun = state g.S.Store c.in_ok-mark.mark.conn.now in
    let mid = state g.S.Store c.write_change-written.new.tx.conn.now in
    let put = (goal.at.returns-in-Ok-clause-undone g c).After-write_change-written in
    let new = state g.S.Store c.commit.new.self.0 in
    let same = same_end g (goal.at.returns-in-Ok-clause-undone g c).After-conn-in-Ok-1 in
    subst (λ h. OnErr c.commit.result (Pends v2 (state g.S.Store h) (tables_of s))) same (pends_broken old begun mid new c.write_change-written.new.tx.at (λ clean. (c.in_ok-mark.ensures.ok clean).1) c.in_ok-mark.ensures.survives
    (λ clean. c.write_change-written.ensures.rest.uncommitted clean (inside g put clean)) c.write_change-written.ensures.rest.survives (apart g put)
    (λ clean. c.in-Ok.ensures.rest.running clean (inside g put clean)) c.commit.ensures.survives
    (tables_of s) c.commit.result c.commit.ensures.err)
