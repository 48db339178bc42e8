use Rattle.std.proofs.Common.{◌≡◌, ◌≤◌, drop}
use Rattle.boxes.specs.Keeping.{KeepsGroup}
use Rattle.boxes.specs.State.{State}
use Rattle.office.specs.Premise.{StaysUnstaged, WasKept}
use Rattle.office.proofs.RunSoFar.{SoFar}
use Rattle.office.proofs.office.Office.run.Given as goal

abbrev pub invariant-connections : goal.invariant-connections
invariant-connections g l =
    ((s : State) → WasKept g.K.Keeper l.fn.self.keeper l.self.keeper s
    → SoFar g.C.Clock.now_gives g.R.Read.remaining g.W.Write.contents l.fn.clock l.clock l.fn.connections l.connections l.connection-index
    g.K.Keeper l.fn.self.keeper l.self.keeper s l.faulty)
    × (g.K.Keeper.is_honest l.self.keeper → g.K.Keeper.is_honest l.fn.self.keeper)
    × (drop l.connection-index l.connections ≡ drop l.connection-index l.fn.connections)
    × (l.faulty ≤ l.connection-index)
    × (g.K.Keeper.faults l.fn.self.keeper ≤ g.K.Keeper.faults l.self.keeper)
    × StaysUnstaged g.K.Keeper l.fn.self.keeper l.self.keeper
    × KeepsGroup g.K.Keeper.is_alone g.K.Keeper.gathers l.fn.self.keeper l.self.keeper
