use Rattle.links.specs.Moments.{moment_with}
use Rattle.links.proofs.LinkSigning.{judged_signed, judged_unsigned}
use Rattle.links.proofs.judging.judge.Goals as goal

pub returns-in-Ok : goal.returns-in-Ok
returns-in-Ok c r p is = judged_signed c.args.secret.now r (moment_with c.args.allowance c.args.now) p c.check_window.result (c.in-Ok.ensures r p is) (c.check_window.ensures r p is)

pub returns-in-Err : goal.returns-in-Err
returns-in-Err c r p is = let fails = c.in-Err.ensures r p is in judged_unsigned c.args.secret.now r (moment_with c.args.allowance c.args.now) p c.in-Err.refusal fails.0 fails.1
