-- Moments: as X-Amz-Date writes them, yyyyMMddTHHmmssZ (ISO 8601, basic format), and as seconds since
-- 1970-01-01T00:00:00Z.
use Rattle.std.specs.Prelude.{◌≡◌, ℕ, ◌+◌, ◌*◌, ◌/◌, ◌%◌, ◌≤◌, ◌<◌, List, [], ◌∷◌, ◌++◌, pos, ◌+ℤ◌, ◌*ℤ◌}
use Rattle.jiff_core.specs.Calendar.{days_from_civil, IsDate}

-- a date and a time of day
pub record CivilTime : Type 0 where
  pub year : ℕ
  pub month : ℕ
  pub day : ℕ
  pub hour : ℕ
  pub minute : ℕ
  pub second : ℕ

-- a date of the Gregorian calendar from 1970 to 9999, and a time from 00:00:00 to 23:59:59
pub record IsCivilTime (s : CivilTime) : Type 0 where
  pub from : 1970 ≤ s.year
  pub civil : IsDate (pos s.year) (pos s.month) (pos s.day)
  pub hour : s.hour < 24
  pub minute : s.minute < 60
  pub second : s.second < 60

abbrev pub two_digits : ℕ → List ℕ
two_digits n = (48 + n / 10 % 10) ∷ (48 + n % 10) ∷ []

abbrev pub four_digits : ℕ → List ℕ
four_digits n = two_digits (n / 100) ++ two_digits (n % 100)

-- yyyyMMdd
abbrev pub date_text : CivilTime → List ℕ
date_text s = four_digits s.year ++ two_digits s.month ++ two_digits s.day

-- yyyyMMddTHHmmssZ
abbrev pub civil_time_text : CivilTime → List ℕ
civil_time_text s = date_text s ++ 84 ∷ two_digits s.hour ++ two_digits s.minute ++ two_digits s.second ++ 90 ∷ []

-- 86400 seconds for each day from 1970-01-01 to the date, and the second of the day
abbrev pub IsSeconds : CivilTime → ℕ → Type 0
IsSeconds s moment =
    pos moment ≡ (pos 86400 *ℤ days_from_civil (pos s.year) s.month s.day) +ℤ pos (3600 * s.hour + 60 * s.minute + s.second)

-- the text writes the moment
pub record WritesMoment (text : List ℕ) (moment : ℕ) : Type 0 where
  pub time : CivilTime
  pub is_civil_time : IsCivilTime time
  pub written : text ≡ civil_time_text time
  pub seconds : IsSeconds time moment
