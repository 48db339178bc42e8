use Rattle.std.proofs.Common.{◌&&◌, refl, sym, ◌∙◌}
use Rattle.std.specs.Prelude.{nat_le}
use Rattle.sigtext.proofs.Tested.{all_later, all_broken, all_passed}
use Rattle.sigtext.proofs.fields.is_plain.Goals as goal

pub loop-byte-init : goal.loop-byte-init
loop-byte-init c = refl

pub loop-byte-preserved : goal.loop-byte-preserved
loop-byte-preserved c =
    all_later (λ b. nat_le 0x20 b && nat_le b 0x7E) c.args.value.now c.loop-byte.byte-index 0 c.loop-byte-test.true (sym c.is_printable.ensures ∙ c.if-not-is_printable.false) c.loop-byte.invariant

pub returns-then-not-is_printable : goal.returns-then-not-is_printable
returns-then-not-is_printable c =
    all_broken (λ b. nat_le 0x20 b && nat_le b 0x7E) c.args.value.now c.loop-byte.byte-index 0 c.loop-byte-test.true (sym c.is_printable.ensures ∙ c.if-not-is_printable.true) c.loop-byte.invariant

pub returns : goal.returns
returns c = all_passed (λ b. nat_le 0x20 b && nat_le b 0x7E) c.args.value.now c.loop-byte.byte-index c.loop-byte-test.false c.loop-byte.invariant
