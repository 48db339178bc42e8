use Rattle.std.proofs.Common.{refl}
use Rattle.wire.specs.Extents.{announced, barred}
use Rattle.wire.proofs.extent.len_with_body.Goals as goal

pub returns-in-Ok : goal.returns-in-Ok
returns-in-Ok c =
    let (small, head, announces) = c.in-Ok.ensures.ok in
    announced head c.in-Ok.opening.has_length c.in-Ok.opening.length announces small refl

pub returns-in-Err : goal.returns-in-Err
returns-in-Err c = barred c.in-Err.field-0 c.in-Err.ensures.err refl
