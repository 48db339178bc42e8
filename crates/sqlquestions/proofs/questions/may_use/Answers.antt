use Rattle.std.proofs.Common.{◌≡◌, true, false, List, [], ◌∷◌, length, inl, IfOk, IsTrue, rules, refl, sym, ap, subst, ◌∙◌, arith}
use Rattle.std.specs.Bool.{◌==◌}
use Rattle.std.specs.Prelude.{◌↔◌, vec_len}
use Rattle.std.proofs.lemmas.Grind.{common_steps}
use Rattle.sqlite_value.specs.Order.{Row}
use Rattle.sqlite_rules.specs.Lists.{Has}
use Rattle.sqltables.specs.Questions.{ShowsText}
use Rattle.sqltables.proofs.Results.{at_answer}
use Rattle.sqlquestions.proofs.LimitQueries.{reaches_box}
use Rattle.sqltables.proofs.Onward.{failed, followed, succeeded}
use Rattle.sqlquestions.proofs.questions.may_use.Goals as goal

has_first : (rows : List Row) → (rows ≡ [] → ⊥) → (row : Row) × Has rows row
has_first [] some = absurd (some refl)
has_first (row ∷ rows) some = (row, inl refl)

pub returns-clause-still : goal.returns-clause-still
returns-clause-still g c tables pends = at_answer c.shows_text.result (c.in_ok-rows.ensures.still tables pends)

pub returns-clause-found : goal.returns-clause-found
returns-clause-found g c tables pends inside clean =
    let rows = c.in_ok-rows.rows.items in
    let there = has_first rows (λ none. let counted : vec_len c.in_ok-rows.rows ≡ length rows = search rules in let yes : ◌==◌ (vec_len c.in_ok-rows.rows) 0 ≡ true = ap (λ n. ◌==◌ n 0) (counted ∙ ap length none) in let e : ◌≡◌ true false = sym yes ∙ sym c.is_empty.ensures ∙ c.if-is_empty.false in cc) in
    reaches_box tables c.args.id.now c.args.in_box.now rows c.shows_text.result (c.in_ok-rows.ensures.found tables pends inside clean) there.0 there.1
    (subst (λ l. IfOk c.shows_text.result (λ b. IsTrue b ↔ ShowsText l c.args.in_box.now)) c.deref.ensures.value c.shows_text.ensures)

pub returns-in_err-rows-clause-rest : goal.returns-in_err-rows-clause-rest
returns-in_err-rows-clause-rest g c = failed c.from_residual.result c.select_limits.ensures.rest c.from_residual.ensures.0

pub returns-then-is_empty-clause-rest : goal.returns-then-is_empty-clause-rest
returns-then-is_empty-clause-rest g c = succeeded _ c.in_ok-rows.ensures.rest

pub returns-clause-rest : goal.returns-clause-rest
returns-clause-rest g c = followed c.shows_text.result c.in_ok-rows.ensures.rest

pub returns-then-is_empty-clause-found : goal.returns-then-is_empty-clause-found
returns-then-is_empty-clause-found g c = grind (arith, common_steps)
