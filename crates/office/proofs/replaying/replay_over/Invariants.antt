use Rattle.std.proofs.Common.{◌≤◌}
use Rattle.boxes.specs.Keeping.{KeepsGroup}
use Rattle.boxes.specs.State.{State}
use Rattle.office.specs.Premise.{IsLeft, WasKept}
use Rattle.office.specs.Replays.{InTurnOver}
use Rattle.office.proofs.replaying.replay_over.Given as goal

abbrev pub invariant-streams : goal.invariant-streams
invariant-streams g l =
    ((s : State) → WasKept g.K.Keeper l.fn.office.keeper l.office.keeper s
    → (after : State) × IsLeft (g.K.Keeper.means l.office.keeper) after
    × InTurnOver g.K.Keeper l.fn.office.keeper l.office.keeper (g.W.Write.contents l.fn.writer.inner) (g.W.Write.contents l.writer.inner) s after l.moment l.name-index l.faulty)
    × (g.K.Keeper.is_honest l.office.keeper → g.K.Keeper.is_honest l.fn.office.keeper)
    × (l.faulty ≤ l.name-index)
    × KeepsGroup g.K.Keeper.is_alone g.K.Keeper.gathers l.fn.office.keeper l.office.keeper
