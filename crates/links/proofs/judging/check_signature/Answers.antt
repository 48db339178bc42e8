use Rattle.std.proofs.Common.{refl}
use Rattle.sigv4.specs.Scopes.{scope_of}
use Rattle.links.proofs.LinkSigning.{is_signed, not_signed}
use Rattle.links.proofs.judging.check_signature.Goals as goal

pub returns-then-not-is_signed_by : goal.returns-then-not-is_signed_by
returns-then-not-is_signed_by c r p is =
    (refl, not_signed c.args.link.now r p c.args.secret.now (scope_of c.scope.result) c.is_signed_by.result is (c.scope.ensures r p is).1 c.if-not-is_signed_by.true c.is_signed_by.ensures)

pub returns : goal.returns
returns c r p is = is_signed c.args.link.now r p c.args.secret.now (scope_of c.scope.result) c.is_signed_by.result is (c.scope.ensures r p is).1 c.if-not-is_signed_by.false c.is_signed_by.ensures
