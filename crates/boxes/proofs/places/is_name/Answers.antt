-- The code tests each of the three conditions on a name.
use Rattle.std.proofs.Common.{◌∙◌, ◌<◌, length, rules, tests, sym, arith}
use Rattle.std.specs.Prelude.{◌&&◌, ◌==◌, nat_le, not, IsUtf8}
use Rattle.std.proofs.lemmas.Bool.Decides.{nat_tests}
use Rattle.std.proofs.lemmas.Iterator.{YieldsList-from_slice}
use Rattle.std.proofs.lemmas.Iterator.Search.{all_from_yields_List}
use Rattle.boxes.proofs.NameTexts.{of_ok}
use Rattle.boxes.proofs.places.is_name.Goals as goal

pub returns : goal.returns
returns c =
    let name = c.args.name.now in
    let each = all_from_yields_List (λ b. nat_le 0x20 b && not (b == 0x7F)) _ _ c.all.result c.all.ensures.ran (YieldsList-from_slice name cc) (λ x b q k. search (rules, tests)) in
    let some : 0 < length name = grind (arith, nat_tests) in
    let text : IsUtf8 name = of_ok (IsUtf8 name) _ _ c.from_utf8.result c.from_utf8.ensures.cases (sym c.is_err.ensures.value ∙ c.if-is_err.false) in
    (λ t. record { some = some; text = text; plain = sym each ∙ t }, λ is. each ∙ is.plain)

pub returns-then-is_empty : goal.returns-then-is_empty
returns-then-is_empty c = grind arith
