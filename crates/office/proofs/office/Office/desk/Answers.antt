use Rattle.std.proofs.Common.{◌≡◌, Some, sym, subst, ◌∙◌, inl, arith}
use Rattle.boxes.specs.Changes.{command_of}
use Rattle.boxes.specs.Steps.{Command}
use Rattle.links.specs.CommandLines.{said}
use Rattle.office.specs.Crashes.{Endures}
use Rattle.office.specs.DeskLines.{IsDeskLine}
use Rattle.office.proofs.Endurance.{undone_more}
use Rattle.office.proofs.Possible.{obeyed_by}
use Rattle.office.proofs.Holding.{holds_still}
use Rattle.office.proofs.office.Office.desk.Goals as goal

some_is : (a b : Command) → Some a ≡ Some b → b ≡ a
some_is a b e = cc

pub returns-in-Ok-Some-clause-obeys : goal.returns-in-Ok-Some-clause-obeys
returns-in-Ok-Some-clause-obeys g c s kept =
    let line = c.args.line.now in
    let command = command_of c.command.result in
    let is : command ≡ said c.in-Ok-Some.read = c.command.ensures in
    let told = rw c.in-Ok-Some.field-0-is at c.in-Ok-Some.ensures.some in
    let tells = subst (IsDeskLine line) (sym is) (record { is_command = told.0; form = told.1 }) in
    obeyed_by (Endures g.K.Keeper c.args.self.now.keeper c.obey.new.self.keeper s) s line c.obey.result command tells
    (λ other tells.
    let all = rw c.in-Ok-Some.field-0-is at (c.in-Ok-Some.ensures.all other tells.is_command tells.form) in
    some_is (said c.in-Ok-Some.read) other all ∙ sym is)
    (c.obey.ensures.does s kept tells.form) (c.obey.ensures.refused s kept) c.obey.ensures.formed (c.obey.ensures.room s kept tells.form)

pub returns-in-Ok-Some-clause-crash : goal.returns-in-Ok-Some-clause-crash
returns-in-Ok-Some-clause-crash g c s kept =
    let line = c.args.line.now in
    let command = command_of c.command.result in
    let told = rw c.in-Ok-Some.field-0-is at c.in-Ok-Some.ensures.some in
    let tells = subst (IsDeskLine line) (sym c.command.ensures) (record { is_command = told.0; form = told.1 }) in
    undone_more g.K.Keeper c.args.self.now.keeper c.obey.new.self.keeper s _ _ c.obey.result (λ t obeyed. record { command = command; tells = tells; obeyed = obeyed }) (c.obey.ensures.crash s kept tells.form)

pub returns-in-Ok-Some-clause-store : goal.returns-in-Ok-Some-clause-store
returns-in-Ok-Some-clause-store g c = c.obey.ensures.store

pub returns-in-Ok-Some-clause-same : goal.returns-in-Ok-Some-clause-same
returns-in-Ok-Some-clause-same g c = c.obey.ensures.same

pub returns-in-Ok-Some-clause-unstaged : goal.returns-in-Ok-Some-clause-unstaged
returns-in-Ok-Some-clause-unstaged g c = c.obey.ensures.unstaged

pub returns-in-Ok-Some-clause-rest : goal.returns-in-Ok-Some-clause-rest
returns-in-Ok-Some-clause-rest g c = c.obey.ensures.rest

pub returns-in-Ok-None-clause-unstaged : goal.returns-in-Ok-None-clause-unstaged
returns-in-Ok-None-clause-unstaged g c = λ none. inl none

pub returns-in-Ok-None-clause-rest : goal.returns-in-Ok-None-clause-rest
returns-in-Ok-None-clause-rest g c = holds_still

pub returns-in-Err-clause-unstaged : goal.returns-in-Err-clause-unstaged
returns-in-Err-clause-unstaged g c = λ none. inl none

pub returns-in-Err-clause-rest : goal.returns-in-Err-clause-rest
returns-in-Err-clause-rest g c = holds_still

pub returns-in-Err-clause-crash : goal.returns-in-Err-clause-crash
returns-in-Err-clause-crash g c = grind arith

pub returns-in-Err-clause-kept : goal.returns-in-Err-clause-kept
returns-in-Err-clause-kept g c = grind arith

pub returns-in-Err-clause-obeys : goal.returns-in-Err-clause-obeys
returns-in-Err-clause-obeys g c = grind arith

pub returns-in-Err-clause-store : goal.returns-in-Err-clause-store
returns-in-Err-clause-store g c = grind arith

pub returns-in-Ok-None-clause-crash : goal.returns-in-Ok-None-clause-crash
returns-in-Ok-None-clause-crash g c = grind arith

pub returns-in-Ok-None-clause-kept : goal.returns-in-Ok-None-clause-kept
returns-in-Ok-None-clause-kept g c = grind arith

pub returns-in-Ok-None-clause-obeys : goal.returns-in-Ok-None-clause-obeys
returns-in-Ok-None-clause-obeys g c = grind arith

pub returns-in-Ok-None-clause-store : goal.returns-in-Ok-None-clause-store
returns-in-Ok-None-clause-store g c = grind arith

pub returns-in-Ok-Some-clause-kept : goal.returns-in-Ok-Some-clause-kept
returns-in-Ok-Some-clause-kept g c = grind arith
