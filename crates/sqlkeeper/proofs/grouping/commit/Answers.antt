use Rattle.std.proofs.Common.{inl, inr, IsTrue, sym}
use Rattle.std.specs.Prelude.{not}
use Rattle.std.proofs.lemmas.Bool.{false≢true}
use Rattle.sqlite.specs.Held.{state}
use Rattle.sqlkeeper.proofs.RolledBack.{on_any_error}
use Rattle.sqlkeeper.proofs.GroupTexts.{is_pending, commit_is, commit_ends, runs, commits_now}
use Rattle.sqlkeeper.proofs.grouping.commit.Goals as goal

pub returns-in_err-execute-clause-undone : goal.returns-in_err-execute-clause-undone
returns-in_err-execute-clause-undone g c clean =
    on_any_error c.from_residual.result (commit_ends (state g.S.Store c.args.conn.now) (state g.S.Store c.execute.new.self) (is_pending _ c.is_autocommit.ensures.value c.if-is_autocommit.false) c.in_err-execute.field-0.0 (c.in_err-execute.ensures.runs clean))

pub returns-in_err-execute-clause-survives : goal.returns-in_err-execute-clause-survives
returns-in_err-execute-clause-survives g c = commits_now (state g.S.Store c.args.conn.now) (state g.S.Store c.execute.new.self) (is_pending _ c.is_autocommit.ensures.value c.if-is_autocommit.false) c.execute.ensures.survives

pub returns-clause-committed : goal.returns-clause-committed
returns-clause-committed g c clean =
    let ran = runs _ _ (state g.S.Store c.args.conn.now) (state g.S.Store c.execute.new.self) (commit_is _) _ (c.in_ok-execute.ensures.runs clean) in
    (ran.0, ran.1)

pub returns-clause-survives : goal.returns-clause-survives
returns-clause-survives g c = commits_now (state g.S.Store c.args.conn.now) (state g.S.Store c.execute.new.self) (is_pending _ c.is_autocommit.ensures.value c.if-is_autocommit.false) c.execute.ensures.survives
