use Rattle.std.proofs.Common.{◌≡◌}
use Rattle.boxes.specs.State.{State}
use Rattle.wire.specs.Feeds.{SameReader, left, place_of, reader_of}
use Rattle.wire.specs.Waiting.{IsFree}
use Rattle.wire.specs.Whole.{MayBegin}
use Rattle.wire.specs.declared.feed.Place.TheVariants as place
use Rattle.office.specs.Premise.{HoldsUnless, IsLeft, StaysUnstaged, WasKept}
use Rattle.office.proofs.SessionSteps.{Follows}
use Rattle.office.proofs.office.Office.serve_feed.Given as goal

abbrev pub invariant-messages : goal.invariant-messages
invariant-messages g l =
    (MayBegin (place_of l.feed) × (place_of l.feed ≡ place.Fresh → l.counter ≡ 0)) × SameReader l.fn.feed l.feed
    × ((reader_of l.feed).faults ≡ (reader_of l.fn.feed).faults)
    × (l.writer.faults ≡ l.fn.writer.faults)
    × HoldsUnless g.K.Keeper l.fn.self.keeper l.self.keeper ⊥
    × StaysUnstaged g.K.Keeper l.fn.self.keeper l.self.keeper
    × ((s : State) → WasKept g.K.Keeper l.fn.self.keeper l.self.keeper s
    → (mid : State) × IsLeft (g.K.Keeper.means l.self.keeper) mid
    × Follows g.C.Clock.now_gives l.counter (left g.R.Read.remaining l.fn.feed) (left g.R.Read.remaining l.feed)
    (g.W.Write.contents l.fn.writer.inner) (g.W.Write.contents l.writer.inner) l.fn.clock l.clock
    g.K.Keeper l.fn.self.keeper l.self.keeper s mid)
    × IsFree l.feed.backlog
