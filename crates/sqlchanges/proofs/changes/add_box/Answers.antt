use Rattle.std.proofs.Common.{sym, subst, OnOk, arith}
use Rattle.boxes.specs.Rows.{settings_of}
use Rattle.boxes.specs.Steps.{AddBox}
use Rattle.boxes.specs.Changes.{IsObeyed}
use Rattle.sqltables.specs.Inside.{seen}
use Rattle.sqltables.specs.Tables.{tables_of}
use Rattle.sqltables.specs.Means.{Pends}
use Rattle.sqlchanges.proofs.Commands.{adds_box}
use Rattle.sqlchanges.proofs.changes.add_box.Goals as goal

pub returns-clause-done : goal.returns-clause-done
returns-clause-done g c v s after ours pends sound obeyed =
    let named = subst (λ name. IsObeyed s (AddBox name (settings_of c.args.row.now)) after) (sym c.in_ok-text_of.ensures) obeyed in
    let it = adds_box s c.in_ok-text_of.field-0.now (settings_of c.args.row.now) after sound named in
    subst (λ t. OnOk c.insert_box.result (Pends v (seen g.T.Ledger.view c.insert_box.new.tx) t)) (sym it.1) (c.insert_box.ensures.done v (tables_of s) ours pends it.0)

pub returns-clause-rest : goal.returns-clause-rest
returns-clause-rest g c = grind arith
