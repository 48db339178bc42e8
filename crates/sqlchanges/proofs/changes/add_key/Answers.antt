use Rattle.std.proofs.Common.{sym, subst, OnOk, arith}
use Rattle.boxes.specs.Steps.{AddKey}
use Rattle.boxes.specs.Changes.{IsObeyed}
use Rattle.sqltables.specs.Inside.{seen}
use Rattle.sqltables.specs.Tables.{tables_of}
use Rattle.sqltables.specs.Means.{Pends}
use Rattle.sqlchanges.proofs.Commands.{adds_key}
use Rattle.sqlchanges.proofs.changes.add_key.Goals as goal

pub returns-clause-done : goal.returns-clause-done
returns-clause-done g c v s after ours pends obeyed =
    let named = subst (λ id. IsObeyed s (AddKey id c.args.role c.args.secret.now) after) (sym c.in_ok-text_of.ensures) obeyed in
    let it = adds_key s c.in_ok-text_of.field-0.now c.args.role c.args.secret.now after named in
    subst (λ t. OnOk c.insert_key.result (Pends v (seen g.T.Ledger.view c.insert_key.new.tx) t)) (sym it.1) (c.insert_key.ensures.done v (tables_of s) ours pends it.0)

pub insert_key-requires-text-id : goal.insert_key-requires-text-id
insert_key-requires-text-id g c = grind arith

pub returns-clause-rest : goal.returns-clause-rest
returns-clause-rest g c = grind arith
