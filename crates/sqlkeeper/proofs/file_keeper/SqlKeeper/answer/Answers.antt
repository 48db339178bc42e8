use Rattle.std.proofs.Common.{refl, Ok, IfOk, subst}
use Rattle.sqlite.specs.Held.{state}
use Rattle.sqlkeeper.proofs.Stays.{carried, stays}
use Rattle.sqlkeeper.proofs.file_keeper.SqlKeeper.answer.Goals as goal

pub returns-clause-value : goal.returns-clause-value
returns-clause-value g c s means sound clean = carried (g.Q.Question.says c.args.question.now s) c.ask_in-answer.result c.counted.result c.counted.ensures.value (c.ask_in-answer.ensures.found s means sound clean)

pub returns-clause-rest : goal.returns-clause-rest
returns-clause-rest g c =
    stays (λ k. state g.S.Store k.conn) (λ k. k.group) (λ k. k.faults) _ _ c.args.self.now.group c.args.self.now
    (record { conn = c.ask_in-answer.new.conn; staged = c.args.self.now.staged; faults = c.counted.new.faults; group = c.args.self.now.group; alloc = c.args.self.now.alloc }) refl refl c.ask_in-answer.result c.counted.result c.counted.ensures.value
    c.ask_in-answer.ensures.rest c.counted.ensures.count c.counted.ensures.room (record { alone = λ is. is; same = λ first it. (it.0, it.1, c.ask_in-answer.ensures.grouped first.conn it.2) })
