use Rattle.std.proofs.Common.{◌≡◌, drop}
use Rattle.sigtext.specs.SignedHeaders.{without_leading_blanks}
use Rattle.sigtext.proofs.fields.without_blanks_in_front.Given as goal

abbrev pub invariant-loop-i : goal.invariant-loop-i
invariant-loop-i l = without_leading_blanks l.value ≡ without_leading_blanks (drop l.i l.value)
