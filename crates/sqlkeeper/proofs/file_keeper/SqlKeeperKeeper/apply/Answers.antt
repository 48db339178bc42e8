use Rattle.std.proofs.Common.{sym, ◌∙◌, arith}
use Rattle.std.proofs.lemmas.Bool.{false≢true}
use Rattle.boxes.proofs.Staging.{may_change}
use Rattle.sqltables.proofs.Results.{at_answer}
use Rattle.sqlkeeper.proofs.Stays.{err_carried, ok_carried}
use Rattle.sqlkeeper.proofs.file_keeper.SqlKeeperKeeper.apply.Goals as goal

pub returns-clause-made : goal.returns-clause-made
returns-clause-made g c s after means sound change =
    ok_carried c.make-made.result c.counted-answer.result c.counted-answer.ensures.value (c.make-made.ensures.made s after means sound change (c.law_of_changes.ensures s after c.args.change.now sound (may_change _ s after c.args.change.now change))) (λ m. m)

pub returns-clause-same : goal.returns-clause-same
returns-clause-same g c s means = err_carried c.make-made.result c.counted-answer.result c.counted-answer.ensures.fault (c.make-made.ensures.same s means) (λ m. m)

pub returns-clause-durable : goal.returns-clause-durable
returns-clause-durable g c s after means sound change clean =
    ok_carried c.make-made.result c.counted-answer.result c.counted-answer.ensures.value (c.make-made.ensures.durable s after means sound change (c.law_of_changes.ensures s after c.args.change.now sound (may_change _ s after c.args.change.now change)) clean)
    (λ only. record { there = only.there; alone = only.alone; whole = only.whole })

pub returns-clause-crash : goal.returns-clause-crash
returns-clause-crash g c s after means sound change clean =
    err_carried c.make-made.result c.counted-answer.result c.counted-answer.ensures.fault (c.make-made.ensures.crash s after means sound change (c.law_of_changes.ensures s after c.args.change.now sound (may_change _ s after c.args.change.now change)) clean)
    (λ one. record { either = one.either; whole = one.whole })

-- ---- room for one more receipt

pub returns-then-is_past_full-clause-full : goal.returns-then-is_past_full-clause-full
returns-then-is_past_full-clause-full g c s after keeps sound change told = (c.is_past_full.ensures s after (may_change _ s after c.args.change.now change)).0 c.if-is_past_full.true

pub returns-clause-room : goal.returns-clause-room
returns-clause-room g c s after keeps sound change =
    at_answer c.counted-answer.result (λ past. false≢true (sym c.if-is_past_full.false ∙ (c.is_past_full.ensures s after (may_change _ s after c.args.change.now change)).1 past))

pub returns-clause-count : goal.returns-clause-count
returns-clause-count g c = grind arith

pub returns-clause-emptied : goal.returns-clause-emptied
returns-clause-emptied g c = grind arith

pub returns-clause-first : goal.returns-clause-first
returns-clause-first g c = grind arith

pub returns-clause-full : goal.returns-clause-full
returns-clause-full g c = grind arith

pub returns-clause-honest : goal.returns-clause-honest
returns-clause-honest g c = grind arith

pub returns-clause-opened : goal.returns-clause-opened
returns-clause-opened g c = grind arith

pub returns-clause-staged : goal.returns-clause-staged
returns-clause-staged g c = grind arith

pub returns-then-is_past_full-clause-count : goal.returns-then-is_past_full-clause-count
returns-then-is_past_full-clause-count g c = grind arith

pub returns-then-is_past_full-clause-crash : goal.returns-then-is_past_full-clause-crash
returns-then-is_past_full-clause-crash g c = grind arith

pub returns-then-is_past_full-clause-durable : goal.returns-then-is_past_full-clause-durable
returns-then-is_past_full-clause-durable g c = grind arith

pub returns-then-is_past_full-clause-first : goal.returns-then-is_past_full-clause-first
returns-then-is_past_full-clause-first g c = grind arith

pub returns-then-is_past_full-clause-made : goal.returns-then-is_past_full-clause-made
returns-then-is_past_full-clause-made g c = grind arith

pub returns-then-is_past_full-clause-room : goal.returns-then-is_past_full-clause-room
returns-then-is_past_full-clause-room g c = grind arith
