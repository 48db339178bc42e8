use Rattle.std.proofs.Common.{refl, arith}
use Rattle.sigtext.proofs.Pieces.{goes_on}
use Rattle.sigtext.proofs.target.is_query.Goals as goal

pub loop-raw-preserved : goal.loop-raw-preserved
loop-raw-preserved c =
    let one = goes_on _ _ c.in-Some.raw c.in-Some.ensures.steps (c.if-not-is_param.ensures.0 refl) in
    let sofar = c.loop-raw.invariant.same in
    record { can = tt; finite = tt; same = (λ s. sofar.0 (one.0 s), λ s. one.1 (sofar.1 s)) }

pub loop-raw-init : goal.loop-raw-init
loop-raw-init c = grind arith

pub returns : goal.returns
returns c = grind arith

pub returns-then-not-is_param : goal.returns-then-not-is_param
returns-then-not-is_param c = grind arith
