use Rattle.std.proofs.Common.{inl, inr, IsTrue, Result, Ok, Err, ◌≡◌, false}
use Rattle.sqlite.specs.Held.{state}
use Rattle.sqlkeeper.proofs.GroupTexts.{is_pending, rolls_back, rolls_nothing}
use Rattle.sqlkeeper.proofs.Grouped.{rolled_keeps}
use Rattle.sqlkeeper.proofs.grouping.undo.Goals as goal

pub returns-then-not-is_autocommit-clause-undone : goal.returns-then-not-is_autocommit-clause-undone
returns-then-not-is_autocommit-clause-undone g c clean = (rolls_back (state g.S.Store c.args.conn.now) (state g.S.Store c.execute.new.self) (is_pending _ c.is_autocommit.ensures.value c.if-not-is_autocommit.true) c.execute.result (c.execute.ensures.runs clean)).autocommit

pub returns-then-not-is_autocommit-clause-keeps : goal.returns-then-not-is_autocommit-clause-keeps
returns-then-not-is_autocommit-clause-keeps g c clean = rolled_keeps (state g.S.Store c.args.conn.now) (state g.S.Store c.execute.new.self) (rolls_back (state g.S.Store c.args.conn.now) (state g.S.Store c.execute.new.self) (is_pending _ c.is_autocommit.ensures.value c.if-not-is_autocommit.true) c.execute.result (c.execute.ensures.runs clean))

pub returns-then-not-is_autocommit-clause-survives : goal.returns-then-not-is_autocommit-clause-survives
returns-then-not-is_autocommit-clause-survives g c = rolls_nothing (state g.S.Store c.args.conn.now) (state g.S.Store c.execute.new.self) (is_pending _ c.is_autocommit.ensures.value c.if-not-is_autocommit.true) c.execute.ensures.survives
