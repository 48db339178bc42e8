use Rattle.std.proofs.Common.{◌≡◌, ◌&&◌, drop}
use Rattle.std.specs.Prelude.{nat_le}
use Rattle.std.specs.List.{list_all}
use Rattle.sigtext.proofs.fields.is_plain.Given as goal

abbrev pub invariant-loop-byte : goal.invariant-loop-byte
invariant-loop-byte l =
    list_all (λ b. nat_le 0x20 b && nat_le b 0x7E) (drop l.byte-index l.value) ≡ list_all (λ b. nat_le 0x20 b && nat_le b 0x7E) l.value
