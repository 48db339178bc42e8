use Rattle.std.proofs.Common.{◌≡◌, ◌≤ℤ◌, Ok, ℤ, pos, ◌∙◌, arith, ap, to_z, of_z, unsigned_abs, w8, w16, w32}
use Rattle.std.proofs.lemmas.Int.{to_z_pos}
use Rattle.std.proofs.lemmas.Result.{IfOk-at_ok}
use Rattle.std.proofs.lemmas.Grind.{common_steps}
use Rattle.jiff_core.specs.Date.{epoch_day}
use Rattle.jiff_core.proofs.SignedLemmas.{signed_arith}
use Rattle.sigv4.proofs.Moments.{day_is, IsCivilTime-of_date, IsSeconds-of_date}
use Rattle.sigv4.proofs.moment.Stamp.seconds.Goals as goal

pub returns-clause-found : goal.returns-clause-found
returns-clause-found c =
    let s = c.args.self.now in
    let date = c.in_ok-date.date in
    let made : c.new.result ≡ Ok date = grind arith in
    let parts = IfOk-at_ok _ made c.new.ensures.value in
    let year : date.year ≡ pos s.year = parts.0 ∙ to_z_pos w16 s.year (omega arith) in
    let month : pos date.month ≡ pos s.month = parts.1 ∙ to_z_pos w8 s.month (omega arith) in
    let day : pos date.day ≡ pos s.day = parts.2 ∙ to_z_pos w8 s.day (omega arith) in
    let from : pos 1970 ≤ℤ date.year = omega (arith, signed_arith) in
    let taken : c.unsigned_abs-day.result ≡ unsigned_abs (to_z w32 (of_z w32 (epoch_day date))) =
    c.unsigned_abs-day.ensures.value ∙ ap (λ (z : ℤ). unsigned_abs (to_z w32 (of_z w32 z))) (c.to_unix_epoch_day.ensures.value ∙ ap epoch_day c.to_plain.ensures) in
    let number : epoch_day date ≡ pos c.unsigned_abs-day.result = day_is date c.unsigned_abs-day.result from taken in (
      IsCivilTime-of_date date _ (omega (arith, signed_arith, number)) year month day (omega arith) (omega arith) (omega arith),
      IsSeconds-of_date date _ c.unsigned_abs-day.result _ number year month day (omega arith),
    )

pub overflow_add-time : goal.overflow_add-time
overflow_add-time c = grind arith

pub overflow_add-time-2 : goal.overflow_add-time-2
overflow_add-time-2 c = grind arith

pub overflow_cast-self : goal.overflow_cast-self
overflow_cast-self c = grind arith

pub overflow_cast-self-2 : goal.overflow_cast-self-2
overflow_cast-self-2 c = grind arith

pub overflow_cast-self-3 : goal.overflow_cast-self-3
overflow_cast-self-3 c = grind arith

pub overflow_mul-result : goal.overflow_mul-result
overflow_mul-result c = grind arith

pub overflow_mul-time : goal.overflow_mul-time
overflow_mul-time c = grind arith

pub overflow_mul-time-2 : goal.overflow_mul-time-2
overflow_mul-time-2 c = grind arith

pub returns-in_err-date-clause-absent : goal.returns-in_err-date-clause-absent
returns-in_err-date-clause-absent c = grind (arith, common_steps)

pub returns-in_err-date-clause-found : goal.returns-in_err-date-clause-found
returns-in_err-date-clause-found c = grind arith

pub returns-then-self-lt1970-clause-absent : goal.returns-then-self-lt1970-clause-absent
returns-then-self-lt1970-clause-absent c = grind arith
