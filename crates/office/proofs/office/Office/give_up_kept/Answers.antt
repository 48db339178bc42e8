use Rattle.std.proofs.Common.{[], refl}
use denote.Struct.Props.{props}
use Rattle.std.proofs.Math.Logic.{∥∥₁_elim}
use Rattle.sigtext.specs.Readable.{IsReadable}
use Rattle.wire.specs.Framing.{request_of}
use Rattle.office.proofs.KeeperCalls.{quiet_less}
use Rattle.office.proofs.Resumptions.{same_parts}
use Rattle.office.proofs.office.Office.give_up_kept.Goals as goal

pub unreachable-requires : goal.unreachable-requires
unreachable-requires g c =
    let o = c.reread-opening.ensures.opens in
    let has_length = c.reread-opening.result.has_length in
    let same = same_parts c.args.head.now c.reread-opening.result.head c.reread-opening.new.fields has_length c.args.size o c.reread-opening.ensures.parts in
    ∥∥₁_elim (c.requires.readable has_length c.args.size o) (hlevel props)
    (λ (readable : IsReadable (request_of o.head has_length [])). c.is_readable.ensures.denied c.if-not-is_readable.true (request_of o.head has_length []) same.0 same.1 readable)

pub returns-clause-begun : goal.returns-clause-begun
returns-clause-begun g c given =
    let o = c.reread-opening.ensures.opens in
    let has_length = c.reread-opening.result.has_length in
    let same = same_parts c.args.head.now c.reread-opening.result.head c.reread-opening.new.fields has_length c.args.size o c.reread-opening.ensures.parts in
    record {
      text = c.args.head.now;
      given = given;
      has_length = has_length;
      size = c.args.size;
      whole = refl;
      opens = o;
      readable = c.is_readable.ensures.told c.if-not-is_readable.false (request_of o.head has_length []) same.0 same.1;
    }

pub returns-clause-unstaged : goal.returns-clause-unstaged
returns-clause-unstaged g c = c.drop_staged.ensures.ends refl

pub returns-clause-quiet : goal.returns-clause-quiet
returns-clause-quiet g c = quiet_less (λ _. tt) c.drop_staged.ensures.quiet
