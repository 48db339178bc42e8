use Rattle.std.proofs.Common.{◌≡◌, ◌+◌, ◌-◌, ◌<◌, ◌≤◌, length, take, drop, arith, ap, ◌∙◌, rules}
use Rattle.std.proofs.lemmas.List.{length_push}
use Rattle.sqltables.specs.Inside.{seen}
use Rattle.sqlite.specs.State.{HasCleanDisk}
use Rattle.boxes.specs.Rows.{numbered}
use Rattle.sqlquestions.proofs.ManyQuestions.{unmoved_and, unmoved_goes, unmoved_then, lists_more, lists_all, no_more, digests_at, receipt_at}
use Rattle.sqltables.proofs.Onward.{failed, followed, same_then, succeeded}
use Rattle.sqlquestions.proofs.questions.receipts.Goals as goal

pub returns-in_default-clause-found : goal.returns-in_default-clause-found
returns-in_default-clause-found g c v tables receipts ours pends listed good inside clean =
    let mid = seen g.T.Ledger.view c.loop-tx.tx in
    let i = c.loop-tx.invariant in
    let at = c.args.from - 1 + length c.loop-tx.rows.items in
    let early : HasCleanDisk mid = omega (arith, c.in_ok-row.ensures.rest.survives.clean) in
    let is = receipt_at tables receipts at c.loop-tx.number c.in_ok-row.field-0 listed
    (c.in_ok-row.ensures.found v tables at ours (i.3.still v tables ours pends) i.0 (digests_at tables receipts at listed good) (i.3.inside early inside) clean) in
    lists_all (c.args.from - 1) receipts c.loop-tx.rows.items c.args.most (i.4 v tables receipts ours pends listed good inside early) i.1 (no_more c.in_ok-row.field-0 _ c.loop-tx.number c.in_default.is is)

pub returns-in_default-clause-still : goal.returns-in_default-clause-still
returns-in_default-clause-still g c v tables ours pends = c.in_ok-row.ensures.still v tables ours (c.loop-tx.invariant.3.still v tables ours pends)

pub loop-tx-preserved : goal.loop-tx-preserved
loop-tx-preserved g c =
    let entry = seen g.T.Ledger.view c.args.tx.now in
    let mid = seen g.T.Ledger.view c.loop-tx.tx in
    let new = seen g.T.Ledger.view c.receipt.new.tx in
    let i = c.loop-tx.invariant in
    let e = c.in_ok-row.ensures in
    let rows = c.loop-tx.rows.items in
    let at = c.args.from - 1 + length rows in
    let low : length rows < c.args.most = search rules in
    let next : c.in-Some-checked_add.next ≡ c.loop-tx.number + 1 = search rules in
    let more = c.in_ok-push.ensures.items in
    let long : length c.push.new.self.items ≡ length rows + 1 = ap length more ∙ length_push rows c.in-Some.row in
    let first = i.0 in (
      omega (arith, next, first, long),
      omega (arith, low, long),
      same_then i.2 e.rest.same_reference,
      unmoved_then entry mid new i.3 e.rest.running e.rest.uncommitted e.rest.survives e.still,
      λ v tables receipts ours pends listed good inside clean.
          let early : HasCleanDisk mid = omega (arith, e.rest.survives.clean) in
          let is = receipt_at tables receipts at c.loop-tx.number c.in_ok-row.field-0 listed
          (e.found v tables at ours (i.3.still v tables ours pends) i.0 (digests_at tables receipts at listed good) (i.3.inside early inside) clean) in
          lists_more (c.args.from - 1) receipts rows c.push.new.self.items c.in-Some.row c.loop-tx.number (i.4 v tables receipts ours pends listed good inside early) i.0 more (omega (arith, long)) c.in_ok-row.field-0 c.in-Some.is is,
    )

pub returns-clause-found : goal.returns-clause-found
returns-clause-found g c v tables receipts ours pends listed good inside clean =
    let i = c.loop-tx.invariant in
    let rows = c.loop-tx.rows.items in
    let high : c.args.most ≤ length rows = search rules in
    let few = i.1 in
    let same : length rows ≡ c.args.most = omega (arith, high, few) in
    i.4 v tables receipts ours pends listed good inside clean ∙ ap (λ k. take k (drop (c.args.from - 1) (numbered 1 receipts))) same

pub returns-in_err-row-clause-rest : goal.returns-in_err-row-clause-rest
returns-in_err-row-clause-rest g c = failed c.from_residual.result (unmoved_and c.loop-tx.invariant.2 c.loop-tx.invariant.3 c.receipt.ensures.rest) c.from_residual.ensures.0

pub returns-in_default-clause-rest : goal.returns-in_default-clause-rest
returns-in_default-clause-rest g c = succeeded _ (unmoved_and c.loop-tx.invariant.2 c.loop-tx.invariant.3 c.in_ok-row.ensures.rest)

pub returns-in_err-push-clause-rest : goal.returns-in_err-push-clause-rest
returns-in_err-push-clause-rest g c = failed c.from_residual-in_err-push.result (unmoved_and c.loop-tx.invariant.2 c.loop-tx.invariant.3 c.in_ok-row.ensures.rest) c.from_residual-in_err-push.ensures.0

pub returns-in-None-clause-rest : goal.returns-in-None-clause-rest
returns-in-None-clause-rest g c = followed _ (unmoved_and c.loop-tx.invariant.2 c.loop-tx.invariant.3 c.in_ok-row.ensures.rest)

pub returns-clause-still : goal.returns-clause-still
returns-clause-still g c = λ v tables ours pends. c.loop-tx.invariant.3.still v tables ours pends

pub returns-clause-rest : goal.returns-clause-rest
returns-clause-rest g c = unmoved_goes c.loop-tx.invariant.2 c.loop-tx.invariant.3 _

pub loop-tx-init : goal.loop-tx-init
loop-tx-init g c = grind arith

pub returns-in-None-clause-found : goal.returns-in-None-clause-found
returns-in-None-clause-found g c = grind arith

pub returns-in-None-clause-still : goal.returns-in-None-clause-still
returns-in-None-clause-still g c = grind arith
