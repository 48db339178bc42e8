-- How far a skipped body was read.
use Rattle.std.specs.Prelude.{ℕ, List, Option}
use Rattle.std.specs.Io.KnownBytes.{Keeps}
use Rattle.wire.specs.Feeds.{reader_of, whole_left}
use Rattle.wire.specs.Waiting.{Spends}
use Rattle.wire.specs.Whole.{StandsIn}
use Rattle.wire.specs.declared.feed.Feed.{Feed}
use Rattle.wire.specs.declared.feed.Place.{Place}
use Rattle.wire.specs.declared.feed.Place.TheVariants as place

-- the open body of size bytes is open still, and what is left from its first byte on is the same
pub record HasSkipped {R : Type 0} (remaining : R → Option (List ℕ)) (size : ℕ) (old new : Feed R) : Type 0 where
  pub stands : StandsIn size new
  pub kept : Keeps (whole_left remaining old) (whole_left remaining new)

-- how many bytes of the open body are to come
abbrev pub to_come : Place → ℕ
to_come (place.Body n) = n
to_come _ = 0

-- what a feed has spent so far of the bytes that it may read
abbrev pub HasSpent : {R : Type 0} → (R → Option (List ℕ)) → Feed R → Feed R → Type 0
HasSpent remaining first here = Spends first.backlog.most here.backlog.most (remaining (reader_of first).inner) (remaining (reader_of here).inner)
