use Rattle.wire.proofs.WholeHeads.{whole_ends, whole_opens, whole_size, whole_stands}
use Rattle.wire.proofs.rereading.reread.Goals as goal

pub unreachable-requires : goal.unreachable-requires
unreachable-requires c = whole_ends c.requires c.in_default.ensures.none

pub unreachable-requires-in_default-read_announcement : goal.unreachable-requires-in_default-read_announcement
unreachable-requires-in_default-read_announcement c =
    let broken = c.in_default-read_announcement.ensures.err in
    whole_stands c.in_default-read_announcement.field-0 c.requires broken

pub returns-clause-opens : goal.returns-clause-opens
returns-clause-opens c =
    let (small, head, tells) = c.in-Ok.ensures.ok in
    whole_opens c.in-Some.field-0 c.in-Ok.opening.length c.in-Ok.opening.has_length head c.requires c.in-Some.ensures.found tells

pub returns-clause-length : goal.returns-clause-length
returns-clause-length c =
    let (small, head, tells) = c.in-Ok.ensures.ok in
    whole_size head c.in-Ok.opening.has_length c.in-Ok.opening.length c.requires tells
