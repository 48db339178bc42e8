use Rattle.std.proofs.Common.{◌∙◌, map, inr, ap, ◌++◌, ◌∷◌, [], sym, arith}
use Rattle.std.proofs.lemmas.Grind.{common_steps}
use Rattle.lists.proofs.ReceiptLines.{map_push}
use Rattle.lists.proofs.ListTexts.{last_cut}
use Rattle.lists.proofs.key_list.last_of.Goals as goal

pub returns-in-Some : goal.returns-in-Some
returns-in-Some c =
    let (front, are) = last_cut c.args.texts.now c.in-Some.last.now c.in-Some.ensures.value in
    let items = ap (map (λ t. t.items)) are ∙ map_push (λ t. t.items) front c.in-Some.last.now in
    inr (map (λ t. t.items) front, items ∙ ap (λ t. map (λ t. t.items) front ++ t ∷ []) (sym c.deref.ensures.value))

pub returns-in-None : goal.returns-in-None
returns-in-None c = grind (arith, common_steps)
