-- The code tests each byte, and the whole text for UTF-8.
use Rattle.std.proofs.Common.{◌∙◌, sym, rules, arith}
use Rattle.std.specs.Prelude.{IsUtf8}
use Rattle.boxes.specs.Sound.{is_rule_byte}
use Rattle.boxes.proofs.NameTexts.{tells_ok}
use Rattle.boxes.proofs.forms.is_rule_text.Goals as goal

pub returns-then-is_word : goal.returns-then-is_word
returns-then-is_word c =
    let text = c.args.text.now in
    let utf8 = tells_ok (IsUtf8 text) _ _ c.from_utf8.result c.from_utf8.ensures.cases (λ x refused is. refused.0 is) in
    let word = c.is_word.ensures is_rule_byte (search rules) in (
      λ t. record { word = word.0 c.if-is_word.true; utf8 = utf8.0 (sym c.is_ok.ensures.value ∙ t) },
      λ is. c.is_ok.ensures.value ∙ utf8.1 is.utf8,
    )

pub returns-else-is_word : goal.returns-else-is_word
returns-else-is_word c = grind arith
