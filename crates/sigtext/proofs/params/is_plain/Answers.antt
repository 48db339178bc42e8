use Rattle.std.proofs.Common.{◌<◌, refl, sym, ◌∙◌, arith}
use Rattle.std.proofs.lemmas.Bool.{false≢true}
use Rattle.std.proofs.lemmas.List.Elements.{All-from_get_or}
use Rattle.percent_encoding.specs.AsciiSet.{should_percent_encode}
use Rattle.sigtext.proofs.Tested.{any_later, any_none}
use Rattle.sigtext.proofs.Unescaped.{recoded_plain}
use Rattle.sigtext.proofs.params.is_plain.Goals as goal

pub loop-byte-init : goal.loop-byte-init
loop-byte-init c = refl

pub loop-byte-preserved : goal.loop-byte-preserved
loop-byte-preserved c =
    any_later (should_percent_encode c.escaped-set.result) c.args.text.now c.loop-byte.byte-index 0 c.loop-byte-test.true (sym c.should_percent_encode.ensures ∙ c.if-should_percent_encode.false) c.loop-byte.invariant

pub returns-then-should_percent_encode : goal.returns-then-should_percent_encode
returns-then-should_percent_encode c = λ t. absurd (false≢true t)

pub returns : goal.returns
returns c =
    let none = any_none (should_percent_encode c.escaped-set.result) c.args.text.now c.loop-byte.byte-index c.loop-byte-test.false c.loop-byte.invariant in
    λ t. recoded_plain c.escaped-set.result c.escaped-set.ensures c.args.text.now (All-from_get_or (λ b. b < 256) c.args.text.now 0 (λ i within. omega (arith, c.type_inv.text i))) (sym none)
