use Rattle.std.proofs.Common.{map}
use Rattle.sigtext.specs.Fields.{header_of}
use Rattle.sigtext.specs.SignedHeaders.{lower_case}
use Rattle.links.proofs.OwnTerms.{found_alone}
use Rattle.links.proofs.orders.is_alone.Goals as goal

pub returns : goal.returns
returns c =
    let alone = found_alone (lower_case c.args.name.now) (map header_of c.args.headers.now) c.only_field.result c.only_field.ensures.some c.only_field.ensures.none in
    rw c.is_some.ensures alone
