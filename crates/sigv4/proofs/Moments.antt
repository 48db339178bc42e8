-- A text writes at most one moment, and a moment has at most one text.
use Rattle.std.proofs.Common.{◌≡◌, ℕ, ◌+◌, ◌*◌, ◌/◌, ◌%◌, ◌<◌, ◌≤◌, List, get_or, sym, ap, ◌∙◌, subst, inl, inr, arith, rules, ℤ, pos, negsuc, unsigned_abs, to_z, of_z, w16, w32, to_z-of_z, FitsSigned, ◌≤ℤ◌}
use Rattle.std.proofs.lemmas.Int.{by_lt_z}
use Rattle.std.specs.Int.{Width}
use Rattle.jiff_core.specs.declared.civil.date.Date.{Date}
use Rattle.jiff_core.specs.Calendar.{days_from_civil, IsCivilDate, IsDate}
use Rattle.jiff_core.specs.Date.{epoch_day}
use Rattle.jiff_core.proofs.SignedLemmas.{signed_arith}
use Rattle.jiff_core.proofs.CalendarLemmas.{days_in_month_bounds}
use Rattle.jiff_core.proofs.DateLemmas.{cases_date, epoch_day-lt, epoch_day_injective, epoch_day_range, epoch_day_same}
use Rattle.jiff_core.proofs.StandardFacts.{known_days}
use Rattle.sigv4.specs.Dates.{CivilTime, IsCivilTime, civil_time_text, IsSeconds, WritesMoment}

-- each number fits into the digits that write it
pub record IsSmall (s : CivilTime) : Type 0 where
  pub year : s.year < 10000
  pub month : s.month < 100
  pub day : s.day < 100
  pub hour : s.hour < 100
  pub minute : s.minute < 100
  pub second : s.second < 100

pub civil_of : (s : CivilTime) → IsCivilTime s → IsCivilDate (pos s.year) s.month s.day
civil_of s h = (h.civil.0, (omega (arith, signed_arith), omega (arith, signed_arith)), (omega (arith, signed_arith), omega (arith, signed_arith)))

date_of : (s : CivilTime) → IsCivilTime s → Date
date_of s h =
    let c = civil_of s h in
    record { year = pos s.year; month = s.month; day = s.day; year_in = c.0; month_in = c.1; day_in = c.2 }

pub IsSmall-of : (s : CivilTime) → IsCivilTime s → IsSmall s
IsSmall-of s h =
    let c = civil_of s h in
    let long = days_in_month_bounds (pos s.year) s.month in
    record {
      year = omega (arith, signed_arith);
      month = omega arith;
      day = omega arith;
      hour = omega arith;
      minute = omega arith;
      second = omega arith;
    }

epoch : Date
epoch = record { year = pos 1970; month = 1; day = 1; year_in = search rules; month_in = search rules; day_in = search rules }

epoch_day-epoch : epoch_day epoch ≡ pos 0
unfolding epoch
epoch_day-epoch = known_days.0

-- a date is in 1970 or later exactly if its day number is not negative
pub day_from_year : (d : Date) → pos 1970 ≤ℤ d.year → pos 0 ≤ℤ epoch_day d
unfolding epoch
day_from_year d h =
    elim (cases_date epoch d) [
      | inl lt ↦ omega (arith, signed_arith, epoch_day-lt epoch d lt, epoch_day-epoch)
      | inr (inl (inl year)) ↦ absurd (omega (arith, signed_arith, year))
      | inr (inl (inr (year, inl month))) ↦ absurd (omega (arith, month, d.month_in))
      | inr (inl (inr (year, inr (month, day)))) ↦ absurd (omega (arith, day, d.day_in))
      | inr (inr (year, month, day)) ↦ omega (arith, signed_arith, epoch_day_same epoch d year month day, epoch_day-epoch)
    ]

pub year_from_day : (d : Date) → pos 0 ≤ℤ epoch_day d → pos 1970 ≤ℤ d.year
unfolding epoch
year_from_day d h =
    by_lt_z d.year (pos 1970) (λ lt. absurd (omega (arith, signed_arith, epoch_day-lt d epoch (inl lt), epoch_day-epoch))) (λ le. le)

-- a civil time's moment is within the range
pub moment_bound : (s : CivilTime) (m : ℕ) → IsCivilTime s → IsSeconds s m → m ≤ 253402300799
unfolding date_of
moment_bound s m h e = omega (arith, signed_arith, epoch_day_range (date_of s h))

-- ---- the digits

two_once : (n k : ℕ) → n < 100 → k < 100 → 48 + n / 10 % 10 ≡ 48 + k / 10 % 10 → 48 + n % 10 ≡ 48 + k % 10 → k ≡ n
two_once n k h g high low = omega arith

four_once : (n k : ℕ) → n < 10000 → k < 10000 → 48 + n / 100 / 10 % 10 ≡ 48 + k / 100 / 10 % 10 → 48 + n / 100 % 10 ≡ 48 + k / 100 % 10
    → 48 + n % 100 / 10 % 10 ≡ 48 + k % 100 / 10 % 10 → 48 + n % 100 % 10 ≡ 48 + k % 100 % 10 → k ≡ n
four_once n k h g a b c d = omega arith

same_time : (s t : CivilTime) → t.year ≡ s.year → t.month ≡ s.month → t.day ≡ s.day → t.hour ≡ s.hour → t.minute ≡ s.minute → t.second ≡ s.second → t ≡ s
same_time s t year month day hour minute second = λ i. record { year = year i; month = month i; day = day i; hour = hour i; minute = minute i; second = second i }

-- a civil time is determined by its text
pub civil_time_once : (s t : CivilTime) → IsSmall s → IsSmall t → civil_time_text s ≡ civil_time_text t → t ≡ s
civil_time_once s t small small₂ e =
    let at : (i : ℕ) → get_or (civil_time_text s) i 0 ≡ get_or (civil_time_text t) i 0 = λ i. ap (λ (text : List ℕ). get_or text i 0) e in
    let year = four_once s.year t.year small.year small₂.year (at 0) (at 1) (at 2) (at 3) in
    let month = two_once s.month t.month small.month small₂.month (at 4) (at 5) in
    let day = two_once s.day t.day small.day small₂.day (at 6) (at 7) in
    let hour = two_once s.hour t.hour small.hour small₂.hour (at 9) (at 10) in
    let minute = two_once s.minute t.minute small.minute small₂.minute (at 11) (at 12) in
    let second = two_once s.second t.second small.second small₂.second (at 13) (at 14) in
    same_time s t year month day hour minute second

-- a civil time has at most one moment
pub seconds_once : (s : CivilTime) (m n : ℕ) → IsSeconds s m → IsSeconds s n → n ≡ m
seconds_once s m n h k = omega (arith, signed_arith)

-- a text writes at most one moment
pub moment_once : (text : List ℕ) (m n : ℕ) → WritesMoment text m → WritesMoment text n → n ≡ m
moment_once text m n w v =
    let same = civil_time_once w.time v.time (IsSmall-of w.time w.is_civil_time) (IsSmall-of v.time v.is_civil_time) (sym w.written ∙ v.written) in
    seconds_once w.time m n w.seconds (subst (λ (s : CivilTime). IsSeconds s n) same v.seconds)

time_once : (h m s h₂ m₂ s₂ : ℕ) → m < 60 → s < 60 → m₂ < 60 → s₂ < 60 → 3600 * h + 60 * m + s ≡ 3600 * h₂ + 60 * m₂ + s₂
    → (h₂ ≡ h) × (m₂ ≡ m) × (s₂ ≡ s)
time_once h m s h₂ m₂ s₂ a b c d e = (omega arith, omega arith, omega arith)

-- a moment belongs to at most one civil time
pub time_of_moment : (s t : CivilTime) (m : ℕ) → IsCivilTime s → IsCivilTime t → IsSeconds s m → IsSeconds t m → t ≡ s
unfolding date_of
time_of_moment s t m h k e f =
    let day : epoch_day (date_of t k) ≡ epoch_day (date_of s h) = omega (arith, signed_arith) in
    let date = epoch_day_injective (date_of t k) (date_of s h) day in
    let clock : 3600 * s.hour + 60 * s.minute + s.second ≡ 3600 * t.hour + 60 * t.minute + t.second = omega (arith, signed_arith) in
    let time = time_once s.hour s.minute s.second t.hour t.minute t.second h.minute h.second k.minute k.second clock in
    same_time s t (cc) date.1 date.2 time.0 time.1 time.2

-- a moment has at most one text
pub text_once : (t u : List ℕ) (m : ℕ) → WritesMoment t m → WritesMoment u m → t ≡ u
text_once t u m w v =
    w.written ∙ ap civil_time_text (sym (time_of_moment w.time v.time m w.is_civil_time v.is_civil_time w.seconds v.seconds)) ∙ sym v.written

IsDate-of : (d : Date) → IsDate d.year (pos d.month) (pos d.day)
IsDate-of d = (d.year_in, (omega (arith, signed_arith, d.month_in), omega (arith, signed_arith, d.month_in)), (omega (arith, signed_arith, d.day_in), omega (arith, signed_arith, d.day_in)))

IsDate-same : (y m d y₂ m₂ d₂ : ℤ) → y ≡ y₂ → m ≡ m₂ → d ≡ d₂ → IsDate y m d → IsDate y₂ m₂ d₂
IsDate-same y m d y₂ m₂ d₂ year month day h =
    subst (λ (z : ℤ). IsDate z m₂ d₂) year (subst (λ (z : ℤ). IsDate y z d₂) month (subst (λ (z : ℤ). IsDate y m z) day h))

-- a date in 1970 or later and a time of day make a civil time
pub IsCivilTime-of_date : (d : Date) (s : CivilTime) → pos 0 ≤ℤ epoch_day d → d.year ≡ pos s.year → pos d.month ≡ pos s.month → pos d.day ≡ pos s.day
    → s.hour < 24 → s.minute < 60 → s.second < 60 → IsCivilTime s
IsCivilTime-of_date d s from year month day hour minute second =
    let late = year_from_day d from in
    record {
      from = omega (arith, signed_arith);
      civil = IsDate-same d.year (pos d.month) (pos d.day) (pos s.year) (pos s.month) (pos s.day) year month day (IsDate-of d);
      hour = hour;
      minute = minute;
      second = second;
    }

-- the moment of this civil time
pub IsSeconds-of_date : (d : Date) (s : CivilTime) (day m : ℕ) → epoch_day d ≡ pos day → d.year ≡ pos s.year → pos d.month ≡ pos s.month → pos d.day ≡ pos s.day
    → m ≡ 86400 * day + (3600 * s.hour + 60 * s.minute + s.second) → IsSeconds s m
IsSeconds-of_date d s day m e year month k time =
    let is_month : d.month ≡ s.month = cc in
    let is_day : d.day ≡ s.day = cc in
    let same : days_from_civil (pos s.year) s.month s.day ≡ pos day = rw (← year, ← is_month, ← is_day) e in
    rw same (omega (arith, signed_arith))

positive : (z : ℤ) (n : ℕ) → pos 0 ≤ℤ z → n ≡ unsigned_abs z → z ≡ pos n
positive (pos m) n h e = ap pos (sym e)
positive (negsuc m) n h e = absurd (omega (arith, signed_arith))

-- the absolute value of a number that is not negative, as the code computes it, is the number
pub absolute_is : (w : Width) (z : ℤ) (n : ℕ) → pos 0 ≤ℤ z → FitsSigned w z → n ≡ unsigned_abs (to_z w (of_z w z)) → z ≡ pos n
absolute_is w z n h fits e = positive z n h (rw to_z-of_z at e)

-- the year of a date in 1970 or later, as the code computes it
pub year_is : (d : Date) (n : ℕ) → pos 0 ≤ℤ epoch_day d → n ≡ unsigned_abs (to_z w16 (of_z w16 d.year)) → d.year ≡ pos n
year_is d n from e =
    let late = year_from_day d from in
    absolute_is w16 d.year n (omega (arith, signed_arith)) (omega (arith, signed_arith, d.year_in)) e

-- the day number of such a date, as the code computes it
pub day_is : (d : Date) (n : ℕ) → pos 1970 ≤ℤ d.year → n ≡ unsigned_abs (to_z w32 (of_z w32 (epoch_day d))) → epoch_day d ≡ pos n
day_is d n from e =
    absolute_is w32 (epoch_day d) n (day_from_year d from) (omega (arith, signed_arith, epoch_day_range d)) e
