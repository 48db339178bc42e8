use Rattle.std.proofs.Common.{◌≡◌, ◌≤◌, take, length}
use Rattle.std.specs.Prelude.{reverse}
use Rattle.sigtext.specs.SignedHeaders.{without_leading_blanks}
use Rattle.sigtext.proofs.fields.without_blanks_behind.Given as goal

abbrev pub invariant-loop-end : goal.invariant-loop-end
invariant-loop-end l = record {
  within : l.end ≤ length l.value;
  same : reverse (without_leading_blanks (reverse l.value)) ≡ reverse (without_leading_blanks (reverse (take l.end l.value)));
}

abbrev pub decreases-loop-end : goal.decreases-loop-end
decreases-loop-end l = l.end
