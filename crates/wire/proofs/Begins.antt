-- Where a message may begin.
use Rattle.std.proofs.Common.{◌≡◌, true, inl, inr, refl}
use Rattle.wire.specs.Feeds.{resumed_at}
use Rattle.wire.specs.Whole.{MayBegin}
use Rattle.wire.specs.declared.feed.Place.{Place}
use Rattle.wire.specs.declared.feed.Place.TheVariants as place
use Rattle.wire.specs.Begins.{may_begin}

pub may_begin_there : (p : Place) → may_begin p ≡ true → MayBegin p
may_begin_there place.Fresh h = inl refl
may_begin_there place.Between h = inr refl
may_begin_there (place.Body n) h = absurd cc
may_begin_there place.Over h = absurd cc

-- a feed that was resumed there stands between messages
pub resumed_between : (p : Place) → MayBegin p → resumed_at p ≡ place.Between
resumed_between place.Fresh h = refl
resumed_between place.Between h = refl
resumed_between (place.Body n) (inl h) = absurd cc
resumed_between (place.Body n) (inr h) = absurd cc
resumed_between place.Over (inl h) = absurd cc
resumed_between place.Over (inr h) = absurd cc
