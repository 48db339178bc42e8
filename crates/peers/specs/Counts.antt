-- A listener that counts the connections it opens and closes.
use Rattle.std.specs.Prelude.{◌≡◌, ◌-◌, ◌^◌, ℕ, Bool, List, false, min, true}
use Rattle.std.specs.List.{count_by}
use Rattle.sockets.specs.Listening.{Event, accepted, closed, missed, opened, unready}

-- a connection was opened
abbrev pub is_opening : {S E : Type 0} → Event S E → Bool
is_opening (accepted stream) = false
is_opening (missed e) = false
is_opening (opened reader writer) = true
is_opening (unready back e) = false
is_opening (closed seat) = false

-- a connection was closed
abbrev pub is_closing : {S E : Type 0} → Event S E → Bool
is_closing (accepted stream) = false
is_closing (missed e) = false
is_closing (opened reader writer) = false
is_closing (unready back e) = false
is_closing (closed seat) = true

-- the number of such events, at most 2^64 - 1
abbrev pub counted : {S E : Type 0} → (Event S E → Bool) → List (Event S E) → ℕ
counted is log = min (count_by is log) (2 ^ 64 - 1)

-- The inner listener's log is this one, and the counts are right. `told` relates the inner listener to its log.
pub record Counts {L S E : Type 0} (told : L → List (Event S E) → Type 0) (listener : L) (openings closings : ℕ) (log : List (Event S E)) : Type 0 where
  pub tells : told listener log
  pub openings_are : openings ≡ counted is_opening log
  pub closings_are : closings ≡ counted is_closing log
