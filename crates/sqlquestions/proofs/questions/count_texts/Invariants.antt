use Rattle.std.proofs.Common.{map, take}
use Rattle.sqltables.specs.Questions.{first_text}
use Rattle.sqlquestions.proofs.Different.{Gathers}
use Rattle.sqlquestions.proofs.questions.count_texts.Given as goal

abbrev pub invariant-loop-row : goal.invariant-loop-row
invariant-loop-row l = Gathers (λ t. t.items) l.texts.keys (map first_text (take l.row-index l.rows))
