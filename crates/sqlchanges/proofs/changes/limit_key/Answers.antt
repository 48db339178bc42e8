use Rattle.std.proofs.Common.{sym, subst, OnOk, arith}
use Rattle.boxes.specs.Steps.{LimitKey}
use Rattle.boxes.specs.Changes.{IsObeyed}
use Rattle.sqltables.specs.Inside.{seen}
use Rattle.sqltables.specs.Schema.{v2}
use Rattle.sqltables.specs.Tables.{tables_of}
use Rattle.sqltables.specs.Means.{Pends}
use Rattle.sqlchanges.proofs.Commands.{limits_key}
use Rattle.sqlchanges.proofs.changes.limit_key.Goals as goal

pub returns-clause-done : goal.returns-clause-done
returns-clause-done g c s after pends obeyed =
    let id = c.in_ok-text_of.field-0.now in
    let in_box = c.in_ok-text_of-2.field-0.now in
    let by_id = subst (λ k. IsObeyed s (LimitKey k c.args.in_box.now) after) (sym c.in_ok-text_of.ensures) obeyed in
    let named = subst (λ b. IsObeyed s (LimitKey id b) after) (sym c.in_ok-text_of-2.ensures) by_id in
    let it = limits_key s id in_box after named in
    subst (λ t. OnOk c.insert_limit.result (Pends v2 (seen g.T.Ledger.view c.insert_limit.new.tx) t)) (sym it.1) (c.insert_limit.ensures.done (tables_of s) pends it.0)

pub insert_limit-requires-text-id : goal.insert_limit-requires-text-id
insert_limit-requires-text-id g c = grind arith

pub insert_limit-requires-text-in_box : goal.insert_limit-requires-text-in_box
insert_limit-requires-text-in_box g c = grind arith

pub returns-clause-rest : goal.returns-clause-rest
returns-clause-rest g c = grind arith
