use Rattle.std.proofs.Common.{◌≡◌, arith, sym, ap, subst, ◌∙◌}
use Rattle.std.proofs.lemmas.Bool.{false≢true}
use Rattle.sqlite.specs.Effect.{Database}
use Rattle.sqlite.specs.State.{HasCleanDisk}
use Rattle.sqltables.specs.Schema.{v2}
use Rattle.sqltables.specs.Tables.{IsEmptied, NoneStaged}
use Rattle.sqltables.specs.Inside.{seen, HasSchema}
use Rattle.sqltables.proofs.Onward.{begun_then, failed, followed, succeeded}
use Rattle.sqlchanges.proofs.StagedRows.{emptied_itself}
use Rattle.sqlchanges.proofs.Chained.{within}
use Rattle.sqlchanges.proofs.staged.empty_staged.Goals as goal

pub returns-then-not-branch-clause-emptied : goal.returns-then-not-branch-clause-emptied
returns-then-not-branch-clause-emptied g c has inside clean =
    let old = seen g.T.Ledger.view c.args.tx.now in
    let new = seen g.T.Ledger.view c.has_staged.new.tx in
    emptied_itself old.now new.now (c.in_ok-has_staged.ensures.same has inside clean) ((c.in_ok-has_staged.ensures.found has inside clean).0 c.if-not-branch.true)

pub returns-clause-emptied : goal.returns-clause-emptied
returns-clause-emptied g c has inside clean =
    let old = seen g.T.Ledger.view c.args.tx.now in
    let asked = seen g.T.Ledger.view c.has_staged.new.tx in
    let mid = seen g.T.Ledger.view c.delete_staged.new.tx in
    let new = seen g.T.Ledger.view c.has_staged-2.new.tx in
    let mid_clean : HasCleanDisk mid = omega (arith, clean, c.has_staged-2.ensures.rest.survives.clean) in
    let asked_clean : HasCleanDisk asked = omega (arith, mid_clean, c.delete_staged.ensures.rest.survives.clean) in
    let still : asked.now ≡ old.now = c.in_ok-has_staged.ensures.same has inside asked_clean in
    let asked_running = c.in_ok-has_staged.ensures.rest.running asked_clean inside in
    let was_open = (c.has_staged.ensures.rest.uncommitted asked_clean inside).was_open asked_running.1 in
    let asked_schema : HasSchema v2.schema asked = λ is_open. ap (λ (d : Database). d.schema) still ∙ has was_open in
    let running = c.in_ok-delete_staged.ensures.rest.running mid_clean in
    let kept = c.in_ok-delete_staged.ensures.schema asked_schema mid_clean in
    let mid_schema : HasSchema v2.schema mid = λ is_open. kept ∙ asked_schema asked_running.1 in
    let same : new.now ≡ mid.now = c.in_ok-has_staged-2.ensures.same mid_schema running.0 clean in
    let none : NoneStaged mid.now.trees = (c.in_ok-has_staged-2.ensures.found mid_schema running.0 clean).0 c.if-branch.false in
    let it : IsEmptied asked.now mid.now = record { schema = kept; others = c.in_ok-delete_staged.ensures.others asked_schema mid_clean; none = none } in
    subst (λ (d : Database). IsEmptied d new.now) still (subst (IsEmptied asked.now) (sym same) it)

pub returns-clause-same : goal.returns-clause-same
returns-clause-same g c has inside clean none =
    let asked = seen g.T.Ledger.view c.has_staged.new.tx in
    let mid = seen g.T.Ledger.view c.delete_staged.new.tx in
    let mid_clean : HasCleanDisk mid = omega (arith, clean, c.has_staged-2.ensures.rest.survives.clean) in
    let asked_clean : HasCleanDisk asked = omega (arith, mid_clean, c.delete_staged.ensures.rest.survives.clean) in
    absurd (false≢true (sym ((c.in_ok-has_staged.ensures.found has inside asked_clean).1 none) ∙ c.if-not-branch.false))

pub returns-clause-done : goal.returns-clause-done
returns-clause-done g c tables pends = c.in_ok-has_staged-2.ensures.still tables (c.in_ok-delete_staged.ensures.done tables (c.in_ok-has_staged.ensures.still tables pends))

pub returns-then-not-branch-clause-same : goal.returns-then-not-branch-clause-same
returns-then-not-branch-clause-same g c has inside clean none = c.in_ok-has_staged.ensures.same has inside clean

pub returns-in_err-has_staged-clause-rest : goal.returns-in_err-has_staged-clause-rest
returns-in_err-has_staged-clause-rest g c = failed c.from_residual.result c.has_staged.ensures.rest c.from_residual.ensures.0

pub returns-then-not-branch-clause-rest : goal.returns-then-not-branch-clause-rest
returns-then-not-branch-clause-rest g c = succeeded _ c.in_ok-has_staged.ensures.rest

pub returns-in_err-delete_staged-clause-rest : goal.returns-in_err-delete_staged-clause-rest
returns-in_err-delete_staged-clause-rest g c = failed c.from_residual-in_err-delete_staged.result (begun_then c.in_ok-has_staged.ensures.rest (within c.delete_staged.ensures.rest)) c.from_residual-in_err-delete_staged.ensures.0

pub returns-in_err-has_staged-2-clause-rest : goal.returns-in_err-has_staged-2-clause-rest
returns-in_err-has_staged-2-clause-rest g c = failed c.from_residual-in_err-has_staged-2.result (begun_then (begun_then c.in_ok-has_staged.ensures.rest (within c.in_ok-delete_staged.ensures.rest)) c.has_staged-2.ensures.rest) c.from_residual-in_err-has_staged-2.ensures.0

pub returns-then-branch-clause-rest : goal.returns-then-branch-clause-rest
returns-then-branch-clause-rest g c = followed _ (begun_then (begun_then c.in_ok-has_staged.ensures.rest (within c.in_ok-delete_staged.ensures.rest)) c.in_ok-has_staged-2.ensures.rest)

pub returns-clause-rest : goal.returns-clause-rest
returns-clause-rest g c = succeeded _ (begun_then (begun_then c.in_ok-has_staged.ensures.rest (within c.in_ok-delete_staged.ensures.rest)) c.in_ok-has_staged-2.ensures.rest)

pub returns-then-branch-clause-emptied : goal.returns-then-branch-clause-emptied
returns-then-branch-clause-emptied g c = grind arith

pub returns-then-branch-clause-same : goal.returns-then-branch-clause-same
returns-then-branch-clause-same g c = grind arith
