-- Edge cases of opening hours. The days are those of the Gregorian calendar.
use Rattle.std.proofs.Common.{◌≡◌, ◌<◌, ◌≤◌, ℕ, Bool, true, false, List, [], ◌∷◌, lit<, lit≤, arith, refl}
use Rattle.std.specs.Prelude.{pos, neg_ℤ, Some}
use Rattle.boxes.specs.declared.rows.Mode.TheVariants.{Keep}
use Rattle.boxes.specs.State.{AnyName, Settings}
use Rattle.boxes.specs.Opening.{IsOpen, local_weekday, local_minute}

abbrev hours : ℕ → ℕ → List Bool → ℕ → ℕ → Settings
hours opens closes days from to = record {
  opens = opens;
  closes = closes;
  days = days;
  from_minute = from;
  to_minute = to;
  quota = 0;
  max_files = 0;
  mode = Keep;
  rule = AnyName;
}

-- Monday first
abbrev week : Bool → Bool → Bool → Bool → Bool → Bool → Bool → List Bool
week mo tu we th fr sa su = mo ∷ tu ∷ we ∷ th ∷ fr ∷ sa ∷ su ∷ []

abbrev every_day : List Bool
every_day = week true true true true true true true

-- ---- days and minutes: 2013-05-27 was a Monday, 1970-01-01 a Thursday

pub monday : local_weekday (pos 0) 1369612800 ≡ 0
monday = refl

-- a second earlier it is Sunday
pub sunday : local_weekday (pos 0) 1369612799 ≡ 6
sunday = refl

pub thursday : local_weekday (pos 0) 0 ≡ 3
thursday = refl

pub first_minute : local_minute (pos 0) 59 ≡ 0
first_minute = refl

pub second_minute : local_minute (pos 0) 60 ≡ 1
second_minute = refl

pub last_minute : local_minute (pos 0) 86399 ≡ 1439
last_minute = refl

pub next_day : local_minute (pos 0) 86400 ≡ 0
next_day = refl

-- one minute west of UTC, the first moment is in the last minute of a Wednesday
pub wednesday_west : local_weekday (neg_ℤ (pos 1)) 0 ≡ 2
wednesday_west = refl

pub minute_west : local_minute (neg_ℤ (pos 1)) 0 ≡ 1439
minute_west = refl

pub wednesday_ends_west : local_weekday (neg_ℤ (pos 1)) 59 ≡ 2
wednesday_ends_west = refl

pub thursday_begins_west : local_weekday (neg_ℤ (pos 1)) 60 ≡ 3
thursday_begins_west = refl

pub midnight_west : local_minute (neg_ℤ (pos 1)) 60 ≡ 0
midnight_west = refl

-- fourteen hours west, it is 10:00 on the Wednesday
pub wednesday_far_west : local_weekday (neg_ℤ (pos 840)) 0 ≡ 2
wednesday_far_west = refl

pub ten_in_the_morning : local_minute (neg_ℤ (pos 840)) 0 ≡ 600
ten_in_the_morning = refl

pub wednesday_ends_far_west : local_weekday (neg_ℤ (pos 840)) 50399 ≡ 2
wednesday_ends_far_west = refl

pub thursday_begins_far_west : local_weekday (neg_ℤ (pos 840)) 50400 ≡ 3
thursday_begins_far_west = refl

-- fourteen hours east, it is 14:00 on the Thursday
pub thursday_far_east : local_weekday (pos 840) 0 ≡ 3
thursday_far_east = refl

pub two_in_the_afternoon : local_minute (pos 840) 0 ≡ 840
two_in_the_afternoon = refl

pub thursday_ends_far_east : local_weekday (pos 840) 35999 ≡ 3
thursday_ends_far_east = refl

pub friday_begins_far_east : local_weekday (pos 840) 36000 ≡ 4
friday_begins_far_east = refl

-- ---- opens and closes

abbrev ten_seconds : Settings
ten_seconds = hours 1369353600 1369353610 every_day 0 1440

pub open_at_opens : IsOpen ten_seconds (pos 0) 1369353600
open_at_opens = record { opened = lit≤ tt; not_closed = lit< tt; day = refl; from = lit≤ tt; to = lit< tt }

pub not_open_before : IsOpen ten_seconds (pos 0) 1369353599 → ⊥
not_open_before is = let late : 1369353600 ≤ 1369353599 = is.opened in omega arith

pub open_before_closes : IsOpen ten_seconds (pos 0) 1369353609
open_before_closes = record { opened = lit≤ tt; not_closed = lit< tt; day = refl; from = lit≤ tt; to = lit< tt }

pub closed_at_closes : IsOpen ten_seconds (pos 0) 1369353610 → ⊥
closed_at_closes is = let early : 1369353610 < 1369353610 = is.not_closed in omega arith

-- the offset moves the daily hours, but not the moments `opens` and `closes`
pub open_at_opens_east : IsOpen ten_seconds (pos 840) 1369353600
open_at_opens_east = record { opened = lit≤ tt; not_closed = lit< tt; day = refl; from = lit≤ tt; to = lit< tt }

pub closed_at_closes_west : IsOpen ten_seconds (neg_ℤ (pos 840)) 1369353610 → ⊥
closed_at_closes_west is = let early : 1369353610 < 1369353610 = is.not_closed in omega arith

-- a box that closes before it opens is never open
pub never_open : (now : ℕ) → IsOpen (hours 20 10 every_day 0 1440) (pos 0) now → ⊥
never_open now is = let late : 20 ≤ now = is.opened in let early : now < 10 = is.not_closed in omega arith

-- ---- Fridays from 01:00 to 02:00, one hour east of UTC

abbrev friday_night : Settings
friday_night = hours 0 253402300799 (week false false false false true false false) 60 120

pub open_at_from : IsOpen friday_night (pos 60) 1369353600
open_at_from = record { opened = lit≤ tt; not_closed = lit< tt; day = refl; from = lit≤ tt; to = lit< tt }

pub open_before_to : IsOpen friday_night (pos 60) 1369357199
open_before_to = record { opened = lit≤ tt; not_closed = lit< tt; day = refl; from = lit≤ tt; to = lit< tt }

pub closed_before_from : IsOpen friday_night (pos 60) 1369353599 → ⊥
closed_before_from is = let early : 60 ≤ 59 = is.from in omega arith

pub closed_at_to : IsOpen friday_night (pos 60) 1369357200 → ⊥
closed_at_to is = let late : 120 < 120 = is.to in omega arith

-- the same hour on the days before and after
pub closed_on_thursday : IsOpen friday_night (pos 60) 1369267200 → ⊥
closed_on_thursday is = let other : Some false ≡ Some true = is.day in absurd cc

pub closed_on_saturday : IsOpen friday_night (pos 60) 1369440000 → ⊥
closed_on_saturday is = let other : Some false ≡ Some true = is.day in absurd cc

-- ---- the last Saturday, which begins in the year 9999 in UTC

pub last_saturday : IsOpen (hours 0 253402300799 (week false false false false false true false) 0 1440) (pos 840) 253402300798
last_saturday = record { opened = lit≤ tt; not_closed = lit< tt; day = refl; from = lit≤ tt; to = lit< tt }

-- in UTC it is a Friday
pub last_friday : IsOpen (hours 0 253402300799 (week false false false false true false false) 0 1440) (pos 0) 253402300798
last_friday = record { opened = lit≤ tt; not_closed = lit< tt; day = refl; from = lit≤ tt; to = lit< tt }
