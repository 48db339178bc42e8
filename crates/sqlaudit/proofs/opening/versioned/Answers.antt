use Rattle.std.proofs.Common.{◌≡◌, Some, slice_get, rules, arith, sym, ◌∙◌}
use Rattle.std.proofs.lemmas.Bool.{false≢true}
use Rattle.std.specs.Prelude.{Contains}
use Rattle.sqlaudit.specs.declared.lines.OfficeLine.{OfficeLine}
use Rattle.sqlaudit.proofs.OfficeEntries.{first_there}
use Rattle.sqlaudit.proofs.opening.versioned.Goals as goal

pub returns-then-are_of_version : goal.returns-then-are_of_version
returns-then-are_of_version c =
    let first : slice_get c.args.lines.now 0 ≡ Some c.in_ok-first.first.now = search rules in
    record { some = (let there = (first_there c.args.lines.now c.in_ok-first.first.now first).1 in omega (arith, there)); each = c.are_of_version.ensures.0 c.if-are_of_version.true }

pub returns-else-are_of_version : goal.returns-else-are_of_version
returns-else-are_of_version c version all =
    let first : slice_get c.args.lines.now 0 ≡ Some c.in_ok-first.first.now = search rules in
    let head = all.each c.in_ok-first.first.now (first_there c.args.lines.now c.in_ok-first.first.now first) in
    let each : (line : OfficeLine) → Contains c.args.lines.now line → line.version ≡ c.in_ok-first.first.now.version = λ line there. all.each line there ∙ sym head in
    false≢true (sym c.if-are_of_version.false ∙ c.are_of_version.ensures.1 each)
