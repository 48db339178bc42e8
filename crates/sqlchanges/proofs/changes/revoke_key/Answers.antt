use Rattle.std.proofs.Common.{sym, subst, OnOk, arith}
use Rattle.boxes.specs.Steps.{RevokeKey}
use Rattle.boxes.specs.Changes.{IsObeyed}
use Rattle.sqltables.specs.Inside.{seen}
use Rattle.sqltables.specs.Tables.{tables_of}
use Rattle.sqltables.specs.Means.{Pends}
use Rattle.sqlchanges.proofs.Commands.{revokes_key}
use Rattle.sqlchanges.proofs.changes.revoke_key.Goals as goal

pub returns-clause-done : goal.returns-clause-done
returns-clause-done g c v s after ours pends obeyed =
    let named = subst (λ id. IsObeyed s (RevokeKey id) after) (sym c.in_ok-text_of.ensures) obeyed in
    let it = revokes_key s c.in_ok-text_of.field-0.now after named in
    subst (λ t. OnOk c.update_revoked.result (Pends v (seen g.T.Ledger.view c.update_revoked.new.tx) t)) (sym it.2) (c.update_revoked.ensures.done v (tables_of s) it.0 ours pends it.1)

pub returns-clause-rest : goal.returns-clause-rest
returns-clause-rest g c = grind arith
