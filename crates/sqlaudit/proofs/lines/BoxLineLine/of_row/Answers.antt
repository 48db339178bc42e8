use Rattle.std.proofs.Common.{◌≡◌, ◌<◌, ◌∙◌, ◌∷◌, [], ℕ, SFits, ap, get_or, lit<, of_z, pos, rules, sym, to_z, w64}
use Rattle.std.proofs.lemmas.Int.{to_z-of_z}
use Rattle.sqlite_value.specs.declared.value.Value.TheVariants.{Int}
use Rattle.sqlite_value.specs.Order.{column}
use Rattle.sqlaudit.proofs.lines.BoxLineLine.of_row.Goals as goal

pub returns : goal.returns
returns c =
    let row = c.args.row.now in
    let numbers = c.in_ok-opens.field-0 in
    let fits : (k : ℕ) → k < 10 → SFits w64 (get_or numbers k (pos 0)) = λ k within. search rules in
    let read : (k : ℕ) → k < 10 → column row (get_or (2 ∷ 3 ∷ 5 ∷ 6 ∷ 7 ∷ 8 ∷ 9 ∷ 10 ∷ 12 ∷ 13 ∷ []) k 0) ≡ Int (to_z w64 (of_z w64 (get_or numbers k (pos 0)))) =
    λ k within. c.in_ok-opens.ensures k within ∙ ap Int (sym (to_z-of_z w64 (get_or numbers k (pos 0)) (fits k within))) in
    record {
      name_is = c.in_ok-text.ensures;
      opens_is = read 0 (lit< tt);
      closes_is = read 1 (lit< tt);
      days_is = c.in_ok-text-2.ensures;
      from_is = read 2 (lit< tt);
      to_is = read 3 (lit< tt);
      quota_is = read 4 (lit< tt);
      max_is = read 5 (lit< tt);
      mode_is = read 6 (lit< tt);
      kind_is = read 7 (lit< tt);
      text_is = c.in_ok-text-3.ensures;
      used_is = read 8 (lit< tt);
      count_is = read 9 (lit< tt);
    }
