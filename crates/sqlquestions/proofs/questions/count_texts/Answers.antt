use Rattle.std.proofs.Common.{◌≡◌, ◌+◌, ◌++◌, [], ◌∷◌, map, take, sym, ap, subst, ◌∙◌}
use Rattle.std.proofs.lemmas.List.{take_more, take_all, map-append}
use Rattle.sqltables.specs.Questions.{first_text, text_in, different_texts}
use Rattle.sqlquestions.proofs.Different.{Gathers, gathers_none, gathers_more}
use Rattle.sqlquestions.proofs.questions.count_texts.Goals as goal

pub loop-row-init : goal.loop-row-init
loop-row-init c = gathers_none (λ t. t.items) c.new-texts.result.keys c.new-texts.ensures.empty

pub loop-row-preserved : goal.loop-row-preserved
loop-row-preserved c =
    let rows = c.args.rows.now in
    let at = c.loop-row.row-index in
    let row = c.row-item.result in
    let text = c.in_ok-read_text.field-0 in
    let reads : first_text row ≡ text.items = ap text_in c.in_ok-read_text.ensures in
    let texts : map first_text (take (at + 1) rows) ≡ map first_text (take at rows) ++ text.items ∷ [] =
    ap (map first_text) (take_more rows at row c.loop-row-test.true) ∙ map-append first_text (take at rows) _ ∙ ap (λ t. map first_text (take at rows) ++ t ∷ []) (ap first_text (sym c.row-item.is) ∙ reads) in
    let it = c.in_ok-insert.ensures in
    subst (Gathers (λ t. t.items) c.insert.new.self.keys) (sym texts)
    (gathers_more (λ t. t.items) c.loop-row.texts.keys c.insert.new.self.keys (map first_text (take at rows)) text c.in_ok-insert.field-0 c.loop-row.invariant it.keys it.added it.len)

pub returns : goal.returns
returns c =
    let rows = c.args.rows.now in
    let i = c.loop-row.invariant in
    c.len.ensures.len ∙ i.many ∙ ap different_texts (take_all c.loop-row.row-index rows c.loop-row-test.false)
