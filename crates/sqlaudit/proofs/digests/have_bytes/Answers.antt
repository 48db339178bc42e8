use Rattle.std.proofs.Common.{refl, sym, subst, ◌∙◌, arith}
use Rattle.std.specs.Prelude.{MatchBool, Contains}
use Rattle.std.proofs.lemmas.List.{take_all}
use Rattle.sqltables.specs.Inside.{seen}
use Rattle.sqlaudit.specs.Opened.{HasBytes, LacksBytes}
use Rattle.sqlaudit.proofs.Entries.{has_at}
use Rattle.sqltables.proofs.Gathering.{OpensOurs}
use Rattle.sqlaudit.proofs.Digested.{LooksOn, none_looked, looked_goes, looked_on, one_more}
use Rattle.sqltables.proofs.Onward.{and_then, failed, same_itself, same_then, succeeded}
use Rattle.sqlaudit.proofs.digests.have_bytes.Goals as goal

pub loop-file-init : goal.loop-file-init
loop-file-init g c = (same_itself, none_looked (seen g.T.Ledger.view c.args.tx.now) c.args.receipts.now)

pub loop-file-preserved : goal.loop-file-preserved
loop-file-preserved g c =
    let entry = seen g.T.Ledger.view c.args.tx.now in
    let mid = seen g.T.Ledger.view c.loop-file.tx in
    let now = seen g.T.Ledger.view c.has_bytes.new.tx in
    let next : LooksOn mid now c.args.receipts.now c.file-item.result c.in_ok-has_bytes.field-0 = record {
      read = λ v ours whole clean. c.in_ok-has_bytes.ensures.read v ours.version ours.schema whole ours.inside clean;
      same = λ v ours clean. c.in_ok-has_bytes.ensures.same v ours.version ours.schema ours.inside clean;
      running = c.in_ok-has_bytes.ensures.rest.running;
      uncommitted = c.has_bytes.ensures.rest.uncommitted;
      survives = c.has_bytes.ensures.rest.survives;
    } in (
      same_then c.loop-file.invariant.0 c.has_bytes.ensures.rest.same_reference,
      one_more entry mid now c.args.receipts.now c.args.files.now c.loop-file.file-index c.file-item.result c.in_ok-has_bytes.field-0 c.loop-file.invariant.1 next c.if-not-branch.false c.loop-file-test.true (sym c.file-item.is),
    )

pub returns-then-not-branch-clause-read : goal.returns-then-not-branch-clause-read
returns-then-not-branch-clause-read g c v ours has whole running clean =
    let entry = seen g.T.Ledger.view c.args.tx.now in
    let mid = seen g.T.Ledger.view c.loop-file.tx in
    let now = seen g.T.Ledger.view c.has_bytes.new.tx in
    let rows = entry.now.trees 9 in
    let next : LooksOn mid now c.args.receipts.now c.file-item.result c.in_ok-has_bytes.field-0 = record {
      read = λ v ours whole clean. c.in_ok-has_bytes.ensures.read v ours.version ours.schema whole ours.inside clean;
      same = λ v ours clean. c.in_ok-has_bytes.ensures.same v ours.version ours.schema ours.inside clean;
      running = c.in_ok-has_bytes.ensures.rest.running;
      uncommitted = c.has_bytes.ensures.rest.uncommitted;
      survives = c.has_bytes.ensures.rest.survives;
    } in
    let first : OpensOurs v entry = record { version = ours; schema = has; inside = running.0 } in
    let told = looked_on entry mid now c.args.receipts.now c.args.files.now c.loop-file.file-index c.file-item.result c.in_ok-has_bytes.field-0 c.loop-file.invariant.1 next v first running clean whole in (
      c.file-item.result,
      has_at c.args.files.now c.loop-file.file-index c.file-item.result c.loop-file-test.true (sym c.file-item.is),
      subst (λ b. MatchBool b (HasBytes rows c.args.receipts.now c.file-item.result) (LacksBytes rows c.args.receipts.now c.file-item.result)) c.if-not-branch.true told,
    )

pub returns-clause-read : goal.returns-clause-read
returns-clause-read g c v ours has whole running clean =
    let first : OpensOurs v (seen g.T.Ledger.view c.args.tx.now) = record { version = ours; schema = has; inside = running.0 } in
    λ file there. c.loop-file.invariant.1.each v first running whole clean file (subst (λ xs. Contains xs file) (sym (take_all c.loop-file.file-index c.args.files.now c.loop-file-test.false)) there)

pub returns-in_err-has_bytes-clause-rest : goal.returns-in_err-has_bytes-clause-rest
returns-in_err-has_bytes-clause-rest g c =
    and_then (λ running. running) (λ running. (running, running.0)) (looked_goes c.loop-file.invariant.0 c.loop-file.invariant.1 c.loop-file.file-index) (failed c.from_residual.result c.has_bytes.ensures.rest c.from_residual.ensures.0)

pub returns-then-not-branch-clause-rest : goal.returns-then-not-branch-clause-rest
returns-then-not-branch-clause-rest g c =
    and_then (λ running. running) (λ running. (running, running.0)) (looked_goes c.loop-file.invariant.0 c.loop-file.invariant.1 c.loop-file.file-index) (succeeded _ c.in_ok-has_bytes.ensures.rest)

pub returns-clause-rest : goal.returns-clause-rest
returns-clause-rest g c = looked_goes c.loop-file.invariant.0 c.loop-file.invariant.1 _

pub returns-clause-same : goal.returns-clause-same
returns-clause-same g c = grind arith

pub returns-then-not-branch-clause-same : goal.returns-then-not-branch-clause-same
returns-then-not-branch-clause-same g c = grind arith
