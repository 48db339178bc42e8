use Rattle.std.proofs.Common.{sym, subst, OnOk, arith}
use Rattle.boxes.specs.Steps.{CloseBox}
use Rattle.boxes.specs.Changes.{IsObeyed}
use Rattle.sqltables.specs.Inside.{seen}
use Rattle.sqltables.specs.Tables.{tables_of}
use Rattle.sqltables.specs.Means.{Pends}
use Rattle.sqlchanges.proofs.Commands.{closes_box}
use Rattle.sqlchanges.proofs.Numbers.{handed}
use Rattle.sqlchanges.proofs.Chained.{refused}
use Rattle.sqlchanges.proofs.changes.close_box.Goals as goal

pub returns-clause-done : goal.returns-clause-done
returns-clause-done g c v s after ours pends obeyed =
    let named = subst (λ name. IsObeyed s (CloseBox name c.args.moment) after) (sym c.in_ok-text_of.ensures) obeyed in
    let it = closes_box s c.in_ok-text_of.field-0.now c.args.moment after named in
    subst (λ t. OnOk c.update_closes.result (Pends v (seen g.T.Ledger.view c.update_closes.new.tx) t)) (sym it.2)
    (c.update_closes.ensures.done v (tables_of s) it.0 c.args.moment ours pends it.1 (handed c.in-Ok.moment c.args.moment c.in-Ok.ensures.0 c.in-Ok.ensures.1))

pub returns-in_default-clause-rest : goal.returns-in_default-clause-rest
returns-in_default-clause-rest g c = refused c.args.tx.now

pub returns-clause-rest : goal.returns-clause-rest
returns-clause-rest g c = grind arith

pub returns-in_default-clause-done : goal.returns-in_default-clause-done
returns-in_default-clause-done g c = grind arith

pub update_closes-requires-text-name : goal.update_closes-requires-text-name
update_closes-requires-text-name g c = grind arith
