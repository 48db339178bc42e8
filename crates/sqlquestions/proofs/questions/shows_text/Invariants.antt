use Rattle.std.proofs.Common.{◌≡◌, take}
use Rattle.sqlite_value.specs.Order.{Row}
use Rattle.sqlite_rules.specs.Lists.{Has}
use Rattle.sqltables.specs.Questions.{first_text}
use Rattle.sqlquestions.proofs.questions.shows_text.Given as goal

abbrev pub invariant-loop-row : goal.invariant-loop-row
invariant-loop-row l = (row : Row) → Has (take l.row-index l.rows) row → first_text row ≡ l.text → ⊥
