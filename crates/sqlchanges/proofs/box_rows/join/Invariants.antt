use Rattle.std.proofs.Common.{◌≡◌, ◌++◌, map, drop}
use Rattle.sqltables.specs.Tables.{joined}
use Rattle.sqltables.proofs.RuleTexts.{behind}
use Rattle.sqlchanges.proofs.box_rows.join.Given as goal

abbrev pub invariant-others : goal.invariant-others
invariant-others l = l.text.items ++ behind (map (λ t. t.items) (drop l.other-index l.others)) ≡ joined (map (λ t. t.items) l.texts)
