use Rattle.std.proofs.Common.{refl, arith}
use Rattle.std.proofs.lemmas.Grind.{common_steps}
use Rattle.sigtext.proofs.Pieces.{step}
use Rattle.sigtext.proofs.target.PairsIterator.next.Goals as goal

pub returns-in-Some-clause-steps : goal.returns-in-Some-clause-steps
returns-in-Some-clause-steps c =
    step _ _ c.raw_param.result c.in_ok-text.text c.in-Some.piece.now c.in_ok-text.was (record { parts = c.in-Some.ensures.0; first = c.in-Some.ensures.1 }) c.raw_param.ensures

pub returns-in-None-clause-steps : goal.returns-in-None-clause-steps
returns-in-None-clause-steps c =
    step _ _ c.raw_param-in-None.result c.in_ok-text.text c.in_ok-text.text.now c.in_ok-text.was (record { parts = refl; first = c.in-None.ensures }) c.raw_param-in-None.ensures

pub returns-in-None-clause-goes : goal.returns-in-None-clause-goes
returns-in-None-clause-goes c = grind arith

pub returns-in-Some-clause-goes : goal.returns-in-Some-clause-goes
returns-in-Some-clause-goes c = grind (arith, common_steps)

pub returns-in_err-text-clause-goes : goal.returns-in_err-text-clause-goes
returns-in_err-text-clause-goes c = grind arith

pub returns-in_err-text-clause-steps : goal.returns-in_err-text-clause-steps
returns-in_err-text-clause-steps c = grind arith
