use Rattle.std.proofs.Common.{◌≡◌, IsUtf8, sym, subst, rules, ◌∙◌, arith}
use Rattle.boxes.specs.Rows.{settings_of}
use Rattle.sqltables.specs.Tables.{days_text}
use Rattle.sqltables.proofs.RuleTexts.{days_are_text}
use Rattle.sqlchanges.proofs.box_rows.insert_with_text.Goals as goal

pub unwrap-days-requires : goal.unwrap-days-requires
unwrap-days-requires g c =
    let is_text : IsUtf8 c.digits_of_days-digits.result = subst IsUtf8 (sym c.digits_of_days-digits.ensures.value) (days_are_text c.args.row.now.days) in search rules

pub returns-clause-done : goal.returns-clause-done
returns-clause-done g c v tables ours pends free text =
    let days : c.unwrap-days.result.now ≡ days_text c.args.row.now.days = search rules in
    let rule : c.in_ok-text.text.now ≡ c.args.text.now = search rules in
    let values = c.in_ok-values_of.ensures.values days (rule ∙ text) in
    c.insert_values.ensures.done v tables (settings_of c.args.row.now) ours pends free values

pub returns-clause-rest : goal.returns-clause-rest
returns-clause-rest g c = grind arith

pub values_of-requires-text-text : goal.values_of-requires-text-text
values_of-requires-text-text g c = grind arith
