use Rattle.office.proofs.Handlings.{handled_at, read_of}
use Rattle.office.proofs.office.Office.answer_now.Goals as goal

pub returns-clause-handled : goal.returns-clause-handled
returns-clause-handled g c s r kept foresees other head staged = λ output output' h sent.
    let after = c.answer_whole.ensures in
    handled_at g.C.Clock.now_gives c.args.clock.now c.now-now.new.self output output'
    g.K.Keeper c.args.self.now.keeper c.answer_whole.new.self.keeper s r c.now-now.result c.answer_whole.result h
    c.now-now.ensures (λ again. record { means = after.again again s kept.means; sound = kept.sound }) (after.crash s r kept foresees staged) after.rest kept.is_honest (λ again. after.readable again r (read_of s r c.args.foreseen foresees other))
    (after.answers s r kept foresees head staged) sent

pub returns-clause-rest : goal.returns-clause-rest
returns-clause-rest g c = c.answer_whole.ensures.rest

pub returns-clause-unstaged : goal.returns-clause-unstaged
returns-clause-unstaged g c = c.answer_whole.ensures.unstaged
