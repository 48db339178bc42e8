use Rattle.std.proofs.Common.{inl, inr, IsTrue, ap, refl, sym, subst}
use Rattle.sqlite.specs.Held.{state}
use Rattle.sqlkeeper.proofs.RolledBack.{on_any_error}
use Rattle.sqlkeeper.proofs.GroupTexts.{begin_is, not_run, runs, begins_nothing}
use Rattle.sqlkeeper.proofs.grouping.begin.Goals as goal

pub returns-in_err-execute-clause-kept : goal.returns-in_err-execute-clause-kept
returns-in_err-execute-clause-kept g c clean =
    on_any_error c.from_residual.result (not_run (state g.S.Store c.args.conn.now) (state g.S.Store c.execute.new.self) _ _ c.in_err-execute.field-0.0 (c.in_err-execute.ensures.runs clean))

pub returns-in_err-execute-clause-survives : goal.returns-in_err-execute-clause-survives
returns-in_err-execute-clause-survives g c = begins_nothing (state g.S.Store c.args.conn.now) (state g.S.Store c.execute.new.self) c.execute.ensures.survives

pub returns-clause-begun : goal.returns-clause-begun
returns-clause-begun g c clean = (runs _ _ (state g.S.Store c.args.conn.now) (state g.S.Store c.execute.new.self) (begin_is _) _ (c.in_ok-execute.ensures.runs clean)).1

pub returns-clause-free : goal.returns-clause-free
returns-clause-free g c clean = (runs _ _ (state g.S.Store c.args.conn.now) (state g.S.Store c.execute.new.self) (begin_is _) _ (c.in_ok-execute.ensures.runs clean)).0

pub returns-clause-survives : goal.returns-clause-survives
returns-clause-survives g c = begins_nothing (state g.S.Store c.args.conn.now) (state g.S.Store c.execute.new.self) c.execute.ensures.survives
