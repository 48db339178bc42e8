use Rattle.std.proofs.Common.{subst}
use Rattle.sigtext.specs.Bytes.{AreBytes}
use Rattle.wire.specs.declared.underway.Kept.{Kept}
use Rattle.office.proofs.Resumptions.{same_kept}
use Rattle.office.proofs.office.Office.put_back.Goals as goal

pub returns-in-Some-clause-octets : goal.returns-in-Some-clause-octets
returns-in-Some-clause-octets g c x at = subst (λ (k : Kept). AreBytes k.bytes.items) (same_kept c.args.kept c.in-Some.kept x c.in-Some.is at) (subst AreBytes c.deref.ensures.value c.are_bytes.ensures)
