use Rattle.std.proofs.Common.{◌≡◌, drop}
use Rattle.std.specs.List.{list_any}
use Rattle.percent_encoding.specs.AsciiSet.{should_percent_encode}
use Rattle.sigtext.proofs.params.is_plain.Given as goal

abbrev pub invariant-loop-byte : goal.invariant-loop-byte
invariant-loop-byte l = list_any (should_percent_encode l.set) (drop l.byte-index l.text) ≡ list_any (should_percent_encode l.set) l.text
