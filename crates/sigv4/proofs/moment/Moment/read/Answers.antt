use Rattle.std.proofs.Common.{sym, subst, ◌∙◌, arith}
use Rattle.sigv4.specs.Dates.{IsCivilTime}
use Rattle.sigv4.specs.Stamps.{stamp_of}
use Rattle.sigv4.specs.declared.moment.Stamp.{Stamp}
use Rattle.sigv4.proofs.Moments.{IsSmall, IsSmall-of, civil_time_once, moment_bound}
use Rattle.sigv4.proofs.moment.Moment.read.Goals as goal

-- the numbers of a stamp fit into their digits
small_stamp : (s : Stamp) → IsSmall (stamp_of s)
small_stamp s = record { year = s.year_fits; month = s.month_fits; day = s.day_fits; hour = s.hour_fits; minute = s.minute_fits; second = s.second_fits }

pub invariant_of-result : goal.invariant_of-result
invariant_of-result c = let found = c.in_ok-seconds.ensures.found in moment_bound _ c.in_ok-seconds.seconds found.0 found.1

pub returns-in_err-read-clause-absent : goal.returns-in_err-read-clause-absent
returns-in_err-read-clause-absent c = rw c.from_residual.ensures (λ m w. c.in_err-read.ensures.absent w.time w.written)

pub returns-in_err-seconds-clause-absent : goal.returns-in_err-seconds-clause-absent
returns-in_err-seconds-clause-absent c =
    let stamp = c.in_ok-read.field-0 in
    rw c.from_residual-in_err-seconds.ensures
    (λ m w.
    let same = civil_time_once w.time (stamp_of stamp) (IsSmall-of w.time w.is_civil_time) (small_stamp stamp) (sym w.written ∙ c.in_ok-read.ensures.found) in
    c.in_err-seconds.ensures.absent (subst IsCivilTime (sym same) w.is_civil_time))

pub returns-clause-found : goal.returns-clause-found
returns-clause-found c =
    let found = c.in_ok-seconds.ensures.found in
    record { time = stamp_of c.in_ok-read.field-0; is_civil_time = found.0; written = c.in_ok-read.ensures.found; seconds = found.1 }

pub returns-in_err-seconds-clause-found : goal.returns-in_err-seconds-clause-found
returns-in_err-seconds-clause-found c = grind arith
