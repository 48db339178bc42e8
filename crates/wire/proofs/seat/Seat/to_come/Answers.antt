use Rattle.std.proofs.Common.{◌∙◌}
use Rattle.wire.specs.Underways.{IsUnderway}
use Rattle.wire.proofs.Underways.{some_of}
use Rattle.wire.proofs.seat.Seat.to_come.Goals as goal

pub unreachable-requires : goal.unreachable-requires
unreachable-requires g c =
    let seat = c.args.self.now in
    let begun = some_of (λ u. IsUnderway u seat.standing) seat.underway c.in-Some.field-0 c.in-Some.is seat.goes_on in
    c.in_default-place.not-Body _ (c.place.ensures ∙ begun.stands)
