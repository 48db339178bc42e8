use Rattle.std.proofs.Common.{◌≡◌, ◌≤◌, ◌+◌, ◌++◌, ℕ, List, None, length}
use Rattle.boxes.specs.Keeping.{KeepsGroup}
use Rattle.boxes.specs.State.{State}
use Rattle.office.specs.Premise.{IsLeft, StaysUnstaged, WasKept}
use Rattle.wire.specs.declared.seat.Seat.{Seat}
use Rattle.wire.specs.Crowds.{AreAmong, GivenTurn, slot_at}
use Rattle.office.proofs.CrowdTurns.{CrowdSoFar}
use Rattle.office.proofs.office.Office.serve_crowd.Given as goal

abbrev pub invariant-turns : goal.invariant-turns
invariant-turns g l =
    (((p : ℕ) → slot_at l.fn.slots p ≡ None) → (before gone : List (Seat g.row.R.Denot g.row.W.Denot)) → g.G.Crowd.met l.fn.crowd before gone
    → (numbers : ℕ → ℕ) (given : List GivenTurn) → g.G.Crowd.gave l.fn.crowd numbers given
    → (came went : List (Seat g.row.R.Denot g.row.W.Denot)) × g.G.Crowd.met l.crowd (before ++ came) (gone ++ went)
    × (numbered : ℕ → ℕ) × (more : List GivenTurn) × g.G.Crowd.gave l.crowd numbered (given ++ more)
    × (g.G.Crowd.turns l.fn.crowd ≡ g.G.Crowd.turns l.crowd + length more)
    × AreAmong numbered (length (before ++ came)) l.slots
    × ((s : State) → WasKept g.K.Keeper l.fn.self.keeper l.self.keeper s
    → (mid : State) × IsLeft (g.K.Keeper.means l.self.keeper) mid
    × CrowdSoFar g.R.Read.remaining g.W.Write.contents g.C.Clock.now_gives g.K.Keeper l.slots came went (length before) numbered more l.fn.clock l.clock l.fn.self.keeper l.self.keeper l.faulty s mid))
    × (g.K.Keeper.is_honest l.self.keeper → g.K.Keeper.is_honest l.fn.self.keeper)
    × (g.K.Keeper.faults l.fn.self.keeper ≤ g.K.Keeper.faults l.self.keeper)
    × StaysUnstaged g.K.Keeper l.fn.self.keeper l.self.keeper
    × (l.faulty + g.G.Crowd.turns l.crowd ≤ g.G.Crowd.turns l.fn.crowd)
    × KeepsGroup g.K.Keeper.is_alone g.K.Keeper.gathers l.fn.self.keeper l.self.keeper

abbrev pub decreases-turns : goal.decreases-turns
decreases-turns g l = g.G.Crowd.turns l.crowd
