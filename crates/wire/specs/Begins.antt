-- Where a feed stands when another message may begin.
use Rattle.std.specs.Prelude.{Bool, true, false}
use Rattle.wire.specs.declared.feed.Place.{Place}
use Rattle.wire.specs.declared.feed.Place.TheVariants as place

-- a message may begin here
abbrev pub may_begin : Place → Bool
may_begin place.Fresh = true
may_begin place.Between = true
may_begin (place.Body n) = false
may_begin place.Over = false
