use Rattle.std.proofs.Common.{◌≡◌, IsTrue, Ok, Err, rules, refl, sym, subst, arith}
use Rattle.sqlite.specs.State.{HasCleanDisk, KeepsCommit, Survives}
use Rattle.sqlite.specs.Held.{state}
use Rattle.boxes.specs.State.{State}
use Rattle.sqltables.specs.Apart.{IsApart}
use Rattle.sqltables.specs.Schema.{v2}
use Rattle.sqltables.specs.Tables.{tables_of}
use Rattle.sqltables.specs.Means.{Pends}
use Rattle.sqlkeeper.specs.Grouping.{GoesOnInGroup}
use Rattle.sqlkeeper.proofs.GroupTexts.{is_pending}
use Rattle.sqlkeeper.proofs.Grouped.{breaks, ended_keeps, goes_on, marked_apart, over, pends_marked, pends_on, pends_over, stops}
use Rattle.sqlkeeper.proofs.asking.ask_in_group.Given as given
use Rattle.sqlkeeper.proofs.asking.ask_in_group.Goals.{After-put-answer, After-conn-in-Ok-1, After-conn-in-Err-1}
use Rattle.sqlkeeper.proofs.asking.ask_in_group.Goals as goal

module _ (g : given.Over) (c : After-conn-in-Ok-1 g) where
  -- the connection is handed back
  same_end : c.commit.new.self.0 ≡ c.conn-in-Ok-1.given.0
  same_end = search rules

module _ (g : given.Over) (c : After-conn-in-Err-1 g) where
  same_last : c.finish.new.self.0 ≡ c.conn-in-Err-1.given.0
  same_last = search rules

module _ (g : given.Over) (c : After-put-answer g) where
  pending : IsTrue (state g.S.Store c.args.conn.now).in_transaction
  pending = is_pending _ c.is_autocommit.ensures.value c.if-is_autocommit.false

  -- the savepoint is within the transaction
  inside : HasCleanDisk (state g.S.Store c.put-answer.new.tx.conn.now) → IsTrue (state g.S.Store c.in_ok-mark.mark.conn.now).in_transaction
  inside clean = (c.in_ok-mark.ensures.ok (omega (arith, clean, c.put-answer.ensures.rest.survives.clean))).1.0.mode

  first : (s : State) → Pends v2 (state g.S.Store c.args.conn.now) (tables_of s) → Pends v2 (state g.S.Store c.in_ok-mark.mark.conn.now) (tables_of s)
  first s = pends_marked (state g.S.Store c.args.conn.now) (state g.S.Store c.in_ok-mark.mark.conn.now) (tables_of s) c.in_ok-mark.ensures.survives (λ clean. (c.in_ok-mark.ensures.ok clean).1) pending

  apart : IsApart (state g.S.Store c.put-answer.new.tx.conn.now) c.put-answer.new.tx.at
  apart = c.put-answer.ensures.rest.same_reference.apart (marked_apart (state g.S.Store c.args.conn.now) (state g.S.Store c.in_ok-mark.mark.conn.now) c.in_ok-mark.mark.at pending c.in_ok-mark.ensures.ok)

pub returns-in_ok-commit-in-Ok-clause-rest : goal.returns-in_ok-commit-in-Ok-clause-rest
returns-in_ok-commit-in-Ok-clause-rest g c =
    let old = state g.S.Store c.args.conn.now in
    let begun = state g.S.Store c.in_ok-mark.mark.conn.now in
    let mid = state g.S.Store c.put-answer.new.tx.conn.now in
    let put = (goal.at.returns-in_ok-commit-in-Ok-clause-rest g c).After-put-answer in
    let new = state g.S.Store c.commit.new.self.0 in
    let same = same_end g (goal.at.returns-in_ok-commit-in-Ok-clause-rest g c).After-conn-in-Ok-1 in
    subst (λ h. GoesOnInGroup old (state g.S.Store h) (Ok c.in-Ok.answer)) same (goes_on old begun mid new c.put-answer.new.tx.at (λ clean. (c.in_ok-mark.ensures.ok clean).1) c.in_ok-mark.ensures.survives
    (λ clean. c.put-answer.ensures.rest.uncommitted clean (inside g put clean)) c.put-answer.ensures.rest.survives (apart g put)
    (λ clean. c.in-Ok.ensures.rest.running clean (inside g put clean)) c.commit.ensures.survives c.in-Ok.answer (λ clean. c.in_ok-commit-in-Ok.ensures.ok clean))

pub returns-in_ok-commit-in-Ok-clause-still : goal.returns-in_ok-commit-in-Ok-clause-still
returns-in_ok-commit-in-Ok-clause-still g c s pends =
    let old = state g.S.Store c.args.conn.now in
    let begun = state g.S.Store c.in_ok-mark.mark.conn.now in
    let mid = state g.S.Store c.put-answer.new.tx.conn.now in
    let put = (goal.at.returns-in_ok-commit-in-Ok-clause-still g c).After-put-answer in
    let new = state g.S.Store c.commit.new.self.0 in
    let same = same_end g (goal.at.returns-in_ok-commit-in-Ok-clause-still g c).After-conn-in-Ok-1 in
    subst (λ h. Pends v2 (state g.S.Store h) (tables_of s)) same (pends_on old begun mid new c.put-answer.new.tx.at (λ clean. (c.in_ok-mark.ensures.ok clean).1) c.in_ok-mark.ensures.survives
    (λ clean. c.put-answer.ensures.rest.uncommitted clean (inside g put clean)) c.put-answer.ensures.rest.survives (apart g put)
    (λ clean. c.in-Ok.ensures.rest.running clean (inside g put clean)) c.commit.ensures.survives (tables_of s) (c.in-Ok.ensures.still s (first g put s pends)) (λ clean. c.in_ok-commit-in-Ok.ensures.ok clean))

pub returns-in_ok-commit-in-Ok-clause-found : goal.returns-in_ok-commit-in-Ok-clause-found
returns-in_ok-commit-in-Ok-clause-found g c s pends sound clean =
    let put = (goal.at.returns-in_ok-commit-in-Ok-clause-found g c).After-put-answer in
    let same = same_end g (goal.at.returns-in_ok-commit-in-Ok-clause-found g c).After-conn-in-Ok-1 in
    let ended : HasCleanDisk (state g.S.Store c.commit.new.self.0) = subst (λ h. HasCleanDisk (state g.S.Store h)) (sym same) clean in
    let early : HasCleanDisk (state g.S.Store c.put-answer.new.tx.conn.now) = omega (arith, c.commit.ensures.survives.clean, ended) in
    c.in-Ok.ensures.found s (first g put s pends) sound (inside g put early) early

pub returns-in_err-commit-in-Ok-clause-rest : goal.returns-in_err-commit-in-Ok-clause-rest
returns-in_err-commit-in-Ok-clause-rest g c =
    let old = state g.S.Store c.args.conn.now in
    let begun = state g.S.Store c.in_ok-mark.mark.conn.now in
    let mid = state g.S.Store c.put-answer.new.tx.conn.now in
    let put = (goal.at.returns-in_err-commit-in-Ok-clause-rest g c).After-put-answer in
    let new = state g.S.Store c.commit.new.self.0 in
    let same = same_end g (goal.at.returns-in_err-commit-in-Ok-clause-rest g c).After-conn-in-Ok-1 in
    subst (λ h. GoesOnInGroup old (state g.S.Store h) c.from_residual-in_err-commit-in-Ok.result) same (breaks old begun mid new c.put-answer.new.tx.at (λ clean. (c.in_ok-mark.ensures.ok clean).1) c.in_ok-mark.ensures.survives
    (λ clean. c.put-answer.ensures.rest.uncommitted clean (inside g put clean)) c.put-answer.ensures.rest.survives (apart g put)
    (λ clean. c.in-Ok.ensures.rest.running clean (inside g put clean)) c.commit.ensures.survives c.from_residual-in_err-commit-in-Ok.result c.in_err-commit-in-Ok.field-0.0 c.from_residual-in_err-commit-in-Ok.ensures.0 (λ clean. c.in_err-commit-in-Ok.ensures.err clean))

pub returns-in_err-commit-in-Ok-clause-still : goal.returns-in_err-commit-in-Ok-clause-still
returns-in_err-commit-in-Ok-clause-still g c s pends =
    let old = state g.S.Store c.args.conn.now in
    let begun = state g.S.Store c.in_ok-mark.mark.conn.now in
    let mid = state g.S.Store c.put-answer.new.tx.conn.now in
    let put = (goal.at.returns-in_err-commit-in-Ok-clause-still g c).After-put-answer in
    let new = state g.S.Store c.commit.new.self.0 in
    let same = same_end g (goal.at.returns-in_err-commit-in-Ok-clause-still g c).After-conn-in-Ok-1 in
    subst (λ h. Pends v2 (state g.S.Store h) (tables_of s)) same (pends_over new (tables_of s) (over old begun mid new c.put-answer.new.tx.at (λ clean. (c.in_ok-mark.ensures.ok clean).1) c.in_ok-mark.ensures.survives
    (λ clean. c.put-answer.ensures.rest.uncommitted clean (inside g put clean)) c.put-answer.ensures.rest.survives (apart g put)
    (λ clean. c.in-Ok.ensures.rest.running clean (inside g put clean)) c.commit.ensures.survives c.in_err-commit-in-Ok.field-0.0 (λ clean. c.in_err-commit-in-Ok.ensures.err clean)))

pub returns-in-Err-clause-rest : goal.returns-in-Err-clause-rest
returns-in-Err-clause-rest g c =
    let old = state g.S.Store c.args.conn.now in
    let begun = state g.S.Store c.in_ok-mark.mark.conn.now in
    let mid = state g.S.Store c.put-answer.new.tx.conn.now in
    let put = (goal.at.returns-in-Err-clause-rest g c).After-put-answer in
    let last = state g.S.Store c.finish.new.self.0 in
    let new = state g.S.Store c.undo.new.conn in
    let same : c.finish.new.self.0 ≡ c.conn-in-Err-1.given.0 = same_last g (goal.at.returns-in-Err-clause-rest g c).After-conn-in-Err-1 in
    stops old begun mid new c.put-answer.new.tx.at (λ clean. (c.in_ok-mark.ensures.ok clean).1) c.in_ok-mark.ensures.survives
    (λ clean. c.put-answer.ensures.rest.uncommitted clean (inside g put clean)) c.put-answer.ensures.rest.survives (apart g put)
    last (λ clean. ended_keeps mid last c.put-answer.new.tx.at c.finish.result (c.finish.ensures.ok clean) (c.finish.ensures.err clean)) c.finish.ensures.survives
    (subst (λ h. HasCleanDisk new → KeepsCommit (state g.S.Store h) new) (sym same) c.undo.ensures.keeps) (subst (λ h. Survives (state g.S.Store h) new (λ _. ⊥)) (sym same) c.undo.ensures.survives) c.undo.ensures.undone c.in-Err.error
