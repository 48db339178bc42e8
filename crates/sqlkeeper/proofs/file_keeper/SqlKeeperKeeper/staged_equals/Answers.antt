use Rattle.std.proofs.Common.{ℕ, List, refl, subst, subst₂, arith}
use Rattle.std.proofs.lemmas.Bool.{false≢true}
use Rattle.std.specs.Prelude.{◌↔◌, IsTrue, IfOk}
use Rattle.sqlite.specs.Held.{state}
use Rattle.boxes.specs.State.{Place}
use Rattle.boxes.specs.Rules.{HasBytes}
use Rattle.sqltables.specs.Staging.{held}
use Rattle.sqlkeeper.proofs.Stays.{stays, carried}
use Rattle.sqlkeeper.proofs.NotText.{no_file_in, no_file_named, no_bytes_at}
use Rattle.sqlkeeper.proofs.file_keeper.SqlKeeperKeeper.staged_equals.Goals as goal

pub returns-in_default-clause-value : goal.returns-in_default-clause-value
returns-in_default-clause-value g c staged is s keeps sound clean =
    let place : Place = record { box = c.args.in_box.now; name = c.args.name.now } in
    (λ t. absurd (false≢true t), λ has. absurd (no_bytes_at s place staged (no_file_in s sound place c.in_default.ensures.cases.0) has))

pub returns-in_default-from_utf8-clause-value : goal.returns-in_default-from_utf8-clause-value
returns-in_default-from_utf8-clause-value g c staged is s keeps sound clean =
    let place : Place = record { box = c.args.in_box.now; name = c.args.name.now } in
    (λ t. absurd (false≢true t), λ has. absurd (no_bytes_at s place staged (no_file_named s sound place c.in_default-from_utf8.ensures.cases.0) has))

pub returns-clause-value : goal.returns-clause-value
returns-clause-value g c staged is s keeps sound clean =
    let place : Place = record { box = c.args.in_box.now; name = c.args.name.now } in
    let there = subst₂ (λ (b n : List ℕ). IfOk c.ask_in-answer.result (λ has. IsTrue has ↔ HasBytes s (record { box = b; name = n }) (held c.args.self.now.staged))) c.in-Ok.ensures.cases.0 c.in-Ok-from_utf8.ensures.cases.0
    (c.ask_in-answer.ensures.found s keeps sound clean) in
    let found = subst (λ (l : List ℕ). IfOk c.ask_in-answer.result (λ has. IsTrue has ↔ HasBytes s place l)) is there in
    carried (λ has. IsTrue has ↔ HasBytes s place staged) c.ask_in-answer.result c.counted.result c.counted.ensures.value found

pub returns-clause-rest : goal.returns-clause-rest
returns-clause-rest g c =
    stays (λ k. state g.S.Store k.conn) (λ k. k.group) (λ k. k.faults) _ _ c.args.self.now.group c.args.self.now
    (record { conn = c.ask_in-answer.new.conn; staged = c.args.self.now.staged; faults = c.counted.new.faults; group = c.args.self.now.group; alloc = c.args.self.now.alloc }) refl refl c.ask_in-answer.result c.counted.result c.counted.ensures.value
    c.ask_in-answer.ensures.rest c.counted.ensures.count c.counted.ensures.room (record { alone = λ is. is; same = λ first it. (it.0, it.1, c.ask_in-answer.ensures.grouped first.conn it.2) })

pub returns-clause-staged : goal.returns-clause-staged
returns-clause-staged g c = grind arith

pub returns-in_default-clause-rest : goal.returns-in_default-clause-rest
returns-in_default-clause-rest g c = grind arith

pub returns-in_default-from_utf8-clause-rest : goal.returns-in_default-from_utf8-clause-rest
returns-in_default-from_utf8-clause-rest g c = grind arith
