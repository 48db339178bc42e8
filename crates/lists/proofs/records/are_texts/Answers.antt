use Rattle.std.proofs.Common.{List, ℕ, Bor, rules, tests}
use Rattle.std.specs.Prelude.{IsUtf8}
use Rattle.std.proofs.lemmas.Iterator.{YieldsList-from_slice, cases_from_all}
use Rattle.sigtext.proofs.NamePieces.{each_piece}
use Rattle.lists.proofs.RecordFields.{each_text}
use Rattle.lists.proofs.records.are_texts.Goals as goal

pub returns : goal.returns
returns c =
    let Text : Bor (List ℕ) → Type 0 = λ f. IsUtf8 f.now in
    let cases = cases_from_all _ _ c.all.result Text (λ f. Text f → ⊥) c.all.ensures.ran (YieldsList-from_slice c.args.fields.now c.iter.ensures.rest) (λ x q k. search (rules, tests)) (λ x q k. search (rules, tests)) in
    let each = each_piece Text _ _ cases in
    let texts = each_text (λ f. f.now) c.args.fields.now in
    (λ t. texts.0 (each.0 t), λ all. each.1 (texts.1 all))
