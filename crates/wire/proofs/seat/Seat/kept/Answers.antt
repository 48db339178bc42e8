use Rattle.std.proofs.Common.{◌∙◌}
use Rattle.wire.specs.Feeds.{given_before}
use Rattle.wire.specs.Underways.{IsKept, IsUnderway, head_of}
use Rattle.wire.proofs.Underways.{some_of}
use Rattle.wire.proofs.seat.Seat.kept.Goals as goal

pub returns-in-Some-kept-clause-bytes : goal.returns-in-Some-kept-clause-bytes
returns-in-Some-kept-clause-bytes g c =
    let seat = c.args.self.now in
    let underway = c.in-Some.underway in
    let begun = some_of (λ u. IsUnderway u seat.standing) seat.underway underway c.in-Some.is seat.goes_on in
    let kept = some_of (IsKept (head_of underway) (given_before seat.standing)) underway.kept c.in-Some-kept.kept c.in-Some-kept.is begun.holds in
    c.deref.ensures.value ∙ kept.bytes
