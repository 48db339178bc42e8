use Rattle.std.proofs.Common.{◌≡◌, arith, Ok, rules, refl, sym, subst}
use Rattle.std.proofs.lemmas.Result.{IfOk-from_err}
use Rattle.sqlite.specs.State.{HasCleanDisk}
use Rattle.sqlite.specs.Held.{state}
use Rattle.boxes.specs.State.{State}
use Rattle.sqltables.specs.Schema.{v2}
use Rattle.sqltables.specs.Tables.{tables_of}
use Rattle.sqltables.specs.Means.{Means, Pends}
use Rattle.sqlaudit.proofs.Looking.{Begins}
use Rattle.sqlkeeper.specs.Asking.{LeavesOffice}
use Rattle.sqlkeeper.proofs.Asked.{committed, not_committed}
use Rattle.sqlkeeper.proofs.asking.ask.Given as given
use Rattle.sqlkeeper.proofs.asking.ask.Goals.{After-conn-2-1}
use Rattle.sqlkeeper.proofs.asking.ask.Goals as goal

module _ (g : given.Over) (c : After-conn-2-1 g) where
  -- the connection is handed back
  same_end : c.commit.new.self.0 ≡ c.conn-2-1.given.0
  same_end = search rules

  begins_now : Begins (state g.S.Store c.args.conn.now) (state g.S.Store c.transaction-tx.result.conn.now)
  begins_now = rw c.transaction-tx.ensures.begun (record { now_is = refl; committed_is = refl; was_open = λ is_open. is_open; clean = λ clean. clean; leaves = λ trees left. left; inside = refl })

  first_seen : (s : State) → Means v2 (state g.S.Store c.args.conn.now) s → Pends v2 (state g.S.Store c.transaction-tx.result.conn.now) (tables_of s)
  first_seen = rw c.transaction-tx.ensures.begun (λ s means was_clean _ is_open. ((means was_clean).tables is_open).holds)

pub returns-clause-found : goal.returns-clause-found
returns-clause-found g c s means sound clean =
    let at = (goal.at.returns-clause-found g c).After-conn-2-1 in
    let begun = state g.S.Store c.transaction-tx.result.conn.now in
    let same = same_end g at in
    let ended : HasCleanDisk (state g.S.Store c.commit.new.self.0) = subst (λ h. HasCleanDisk (state g.S.Store h)) (sym same) clean in
    let early : HasCleanDisk (state g.S.Store c.put.new.tx.conn.now) = omega (arith, c.commit.ensures.survives.clean, ended) in
    c.in_ok-answer.ensures.found s (first_seen g at s means) sound (begins_now g at).inside early

pub returns-in_err-commit-clause-rest : goal.returns-in_err-commit-clause-rest
returns-in_err-commit-clause-rest g c =
    let at = (goal.at.returns-in_err-commit-clause-rest g c).After-conn-2-1 in
    let old = state g.S.Store c.args.conn.now in
    let begun = state g.S.Store c.transaction-tx.result.conn.now in
    let mid = state g.S.Store c.put.new.tx.conn.now in
    let new = state g.S.Store c.commit.new.self.0 in
    let same = same_end g at in
    let begins = begins_now g at in
    let first = first_seen g at in
    subst (λ h. LeavesOffice old (state g.S.Store h) c.from_residual-in_err-commit.result) same (not_committed old begun mid new begins c.put.ensures.rest.survives (λ clean. c.in_ok-answer.ensures.rest.running clean begins.inside)
    (λ s means. c.in_ok-answer.ensures.still s (first s means)) c.commit.ensures.survives
    (λ clean. c.put.ensures.rest.uncommitted clean begins.inside) c.in_err-commit.field-0.0 (λ clean. c.in_err-commit.ensures.err clean) c.from_residual-in_err-commit.result (λ clean. IfOk-from_err c.from_residual-in_err-commit.result _ c.from_residual-in_err-commit.ensures.0))

pub returns-clause-rest : goal.returns-clause-rest
returns-clause-rest g c =
    let at = (goal.at.returns-clause-rest g c).After-conn-2-1 in
    let old = state g.S.Store c.args.conn.now in
    let begun = state g.S.Store c.transaction-tx.result.conn.now in
    let mid = state g.S.Store c.put.new.tx.conn.now in
    let new = state g.S.Store c.commit.new.self.0 in
    let same = same_end g at in
    let begins = begins_now g at in
    let first = first_seen g at in
    subst (λ h. LeavesOffice old (state g.S.Store h) (Ok c.in_ok-answer.answer)) same (committed old begun mid new begins c.put.ensures.rest.survives (λ clean. c.in_ok-answer.ensures.rest.running clean begins.inside)
    (λ s means. c.in_ok-answer.ensures.still s (first s means)) c.commit.ensures.survives
    (λ clean. c.in_ok-commit.ensures.ok clean) c.in_ok-answer.answer)

pub returns-in_err-answer-clause-rest : goal.returns-in_err-answer-clause-rest
returns-in_err-answer-clause-rest g c = grind arith

pub returns-then-not-is_autocommit-clause-rest : goal.returns-then-not-is_autocommit-clause-rest
returns-then-not-is_autocommit-clause-rest g c = grind arith

pub transaction-tx-requires : goal.transaction-tx-requires
transaction-tx-requires g c = grind arith
