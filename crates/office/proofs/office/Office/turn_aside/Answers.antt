use Rattle.std.proofs.Common.{Option, subst, sym}
use Rattle.wire.specs.declared.underway.Underway.{Underway}
use Rattle.office.specs.Turning.{TurnsAside}
use Rattle.office.proofs.office.Office.turn_aside.Goals as goal

pub begin-requires-clause-begins : goal.begin-requires-clause-begins
begin-requires-clause-begins g c = c.requires.begins c.in-None.is

pub begin-requires-clause-none : goal.begin-requires-clause-none
begin-requires-clause-none g c = c.requires.none c.in-None.is

pub go_on-requires : goal.go_on-requires
go_on-requires g c = c.requires.goes_on c.in-Some.underway c.in-Some.is

pub returns-in-None : goal.returns-in-None
returns-in-None g c =
    subst (λ (u : Option Underway). TurnsAside g.C.Clock.now_gives g.R.Read.remaining u c.args.standing c.args.due.most c.args.reader.now c.begin.new.reader c.args.clock.now c.begin.new.clock g.K.Keeper c.args.self.now.keeper c.begin.new.self.keeper c.begin.result)
    (sym c.in-None.is) c.begin.ensures

pub returns-in-Some : goal.returns-in-Some
returns-in-Some g c =
    subst (λ (u : Option Underway). TurnsAside g.C.Clock.now_gives g.R.Read.remaining u c.args.standing c.args.due.most c.args.reader.now c.go_on.new.reader c.args.clock.now c.go_on.new.clock g.K.Keeper c.args.self.now.keeper c.go_on.new.self.keeper c.go_on.result)
    (sym c.in-Some.is) c.go_on.ensures
