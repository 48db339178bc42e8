use Rattle.std.proofs.Common.{◌≡◌, ◌/◌, ◌≤ℤ◌, pos, refl, arith}
use Rattle.jiff_core.specs.Date.{epoch_day}
use Rattle.jiff_core.proofs.SignedLemmas.{signed_arith}
use Rattle.sigv4.proofs.Moments.{year_is, IsCivilTime-of_date, IsSeconds-of_date}
use Rattle.sigv4.proofs.moment.Stamp.at.Goals as goal

pub returns-clause-on_the_calendar : goal.returns-clause-on_the_calendar
returns-clause-on_the_calendar c =
    let date = c.date_of-date.result in
    let from : pos 0 ≤ℤ epoch_day date = omega (arith, signed_arith) in
    let year : date.year ≡ pos c.unsigned_abs.result = year_is date c.unsigned_abs.result from c.unsigned_abs.ensures.value in
    IsCivilTime-of_date date _ from year refl refl (omega arith) (omega arith) (omega arith)

pub returns-clause-same : goal.returns-clause-same
returns-clause-same c =
    let date = c.date_of-date.result in
    let from : pos 0 ≤ℤ epoch_day date = omega (arith, signed_arith) in
    let year : date.year ≡ pos c.unsigned_abs.result = year_is date c.unsigned_abs.result from c.unsigned_abs.ensures.value in
    IsSeconds-of_date date _ (c.args.seconds / 86400) c.args.seconds c.date_of-date.ensures year refl refl (omega arith)

pub invariant_of-result : goal.invariant_of-result
invariant_of-result c = grind arith
