use Rattle.std.proofs.Common.{◌≡◌, ◌<◌, ◌+◌, ◌++◌, ◌∙◌, ℕ, ℤ, get_or, List, [], ◌∷◌, length, map, take, rules, ap, sym}
use Rattle.std.proofs.lemmas.List.{map-append, take_all}
use Rattle.std.proofs.Math.Numerals.{add-one}
use Rattle.std.proofs.Math.Seq.{take-suc}
use Rattle.sqlite_value.specs.declared.value.Value.{Value}
use Rattle.sqlite_value.specs.declared.value.Value.TheVariants.{Int}
use Rattle.sqlite_value.specs.Order.{Row, column}
use Rattle.sqlaudit.proofs.lines.first_numbers.Goals as goal

abbrev first : Row → Value
first row = column row 0

-- one more row has one more number
one_more : (rows : List Row) (at : ℕ) (row : Row) (numbers : List ℤ) (number : ℤ) (more : List ℤ) → at < length rows → row ≡ get_or rows at row → map first (take at rows) ≡ map Int numbers → first row ≡ Int number → more ≡ numbers ++ number ∷ []
    → map first (take (at + 1) rows) ≡ map Int more
one_more rows at row numbers number more within is so_far value pushed =
    let rest : take (at + 1) rows ≡ take at rows ++ row ∷ [] = ap (λ n. take n rows) (add-one at) ∙ take-suc rows at row within ∙ ap (λ r. take at rows ++ r ∷ []) (sym is) in
    ap (map first) rest ∙ map-append first (take at rows) (row ∷ []) ∙ ap (λ vs. vs ++ first row ∷ []) so_far ∙ ap (λ v. map Int numbers ++ v ∷ []) value ∙ sym (map-append Int numbers (number ∷ [])) ∙ ap (map Int) (sym pushed)

pub loop-row-preserved : goal.loop-row-preserved
loop-row-preserved c =
    let rows = c.args.rows.now in
    let at = c.loop-row.row-index in
    let within : at < length rows = c.loop-row-test.true in
    let value : column c.row-item.result 0 ≡ Int c.in_ok-number.number = search rules in
    let pushed : c.push.new.self.items ≡ c.loop-row.numbers.items ++ c.in_ok-number.number ∷ [] = search rules in
    one_more rows at c.row-item.result c.loop-row.numbers.items c.in_ok-number.number c.push.new.self.items within c.row-item.is c.loop-row.invariant value pushed

pub returns : goal.returns
returns c = ap (map first) (sym (take_all c.loop-row.row-index c.args.rows.now c.loop-row-test.false)) ∙ c.loop-row.invariant
