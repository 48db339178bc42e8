use Rattle.std.proofs.Common.{map, sym, ap, ◌∙◌, arith}
use Rattle.boxes.specs.Rows.{name_rule_of}
use Rattle.sqltables.specs.Tables.{joined, rule_text}
use Rattle.sqlchanges.proofs.box_rows.insert_box.Goals as goal

pub returns-in-Any-clause-done : goal.returns-in-Any-clause-done
returns-in-Any-clause-done g c v tables ours pends free =
    c.insert_with_text.ensures.done v tables ours pends free (ap (λ r. rule_text (name_rule_of r)) (sym c.in-Any.is))

pub returns-in_ok-text-in-Ends-clause-done : goal.returns-in_ok-text-in-Ends-clause-done
returns-in_ok-text-in-Ends-clause-done g c v tables ours pends free =
    let text = c.deref-in-Ends.ensures.value ∙ c.in_ok-text-in-Ends.ensures.value ∙ ap (λ ts. joined (map (λ t. t.items) ts)) c.deref.ensures.value in
    c.insert_with_text-in-Ends.ensures.done v tables ours pends free (text ∙ ap (λ r. rule_text (name_rule_of r)) (sym c.in-Ends.is))

pub returns-in-Begins-clause-done : goal.returns-in-Begins-clause-done
returns-in-Begins-clause-done g c v tables ours pends free =
    c.insert_with_text-in-Begins.ensures.done v tables ours pends free (c.deref-in-Begins.ensures.value ∙ ap (λ r. rule_text (name_rule_of r)) (sym c.in-Begins.is))

pub returns-in-Any-clause-rest : goal.returns-in-Any-clause-rest
returns-in-Any-clause-rest g c = grind arith

pub returns-in-Begins-clause-rest : goal.returns-in-Begins-clause-rest
returns-in-Begins-clause-rest g c = grind arith

pub returns-in_ok-text-in-Ends-clause-rest : goal.returns-in_ok-text-in-Ends-clause-rest
returns-in_ok-text-in-Ends-clause-rest g c = grind arith
