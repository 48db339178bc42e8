use Rattle.std.proofs.Common.{◌<◌, Some, sym, ◌∙◌, arith}
use Rattle.sigv4.proofs.Moments.{moment_once}
use Rattle.boxes.specs.State.{AnyName}
use Rattle.links.proofs.DeskWords.{days_once, minute_once, mode_once}
use Rattle.links.proofs.desk.settings.read_row.Goals as goal

pub returns-in_err-read_moment-clause-all : goal.returns-in_err-read_moment-clause-all
returns-in_err-read_moment-clause-all c b says are = absurd (c.in_err-read_moment.ensures.none b.opens says.opens)

pub returns-in_err-read_moment-2-clause-all : goal.returns-in_err-read_moment-2-clause-all
returns-in_err-read_moment-2-clause-all c b says are = absurd (c.in_err-read_moment-2.ensures.none b.closes says.closes)

pub returns-clause-all : goal.returns-clause-all
returns-clause-all c b says are =
    let w = c.args.words.now in
    let opens = moment_once w.opens.now b.opens c.seconds-opens.result says.opens (rw c.seconds-opens.ensures.value c.in_ok-read_moment.ensures.some) in
    let closes = moment_once w.closes.now b.closes c.seconds-closes.result says.closes (rw c.seconds-closes.ensures.value c.in_ok-read_moment-2.ensures.some) in
    let days = days_once c.in_ok-days.days b.days (sym c.in_ok-days.ensures.some ∙ says.days) in
    let from_small : b.from_minute < 6000 = omega (arith, are.hours, are.day) in
    let to_small : b.to_minute < 6000 = omega (arith, are.day) in
    let from = minute_once c.in_ok-from_minute.from_minute b.from_minute c.in_ok-from_minute.ensures.bound from_small (sym c.in_ok-from_minute.ensures.some ∙ says.from_minute) in
    let to = minute_once c.in_ok-to_minute.to_minute b.to_minute c.in_ok-to_minute.ensures.bound to_small (sym c.in_ok-to_minute.ensures.some ∙ says.to_minute) in
    let quota = c.in_ok-quota.ensures.some.value ∙ sym says.quota.value in
    let max_files = c.in_ok-max_files.ensures.some.value ∙ sym says.max_files.value in
    let mode = mode_once c.in_ok-mode.mode b.mode (sym c.in_ok-mode.ensures.some ∙ says.mode) in
    λ i. Some (record {
      opens = opens i;
      closes = closes i;
      days = days i;
      from_minute = from i;
      to_minute = to i;
      quota = quota i;
      max_files = max_files i;
      mode = mode i;
      rule = AnyName;
    })

pub read_moment-requires : goal.read_moment-requires
read_moment-requires c = tt

pub returns-in_err-read_moment-clause-some : goal.returns-in_err-read_moment-clause-some
returns-in_err-read_moment-clause-some c = rw c.from_residual.ensures tt

pub seconds-opens-requires : goal.seconds-opens-requires
seconds-opens-requires c = tt

pub read_moment-requires-2 : goal.read_moment-requires-2
read_moment-requires-2 c = tt

pub returns-in_err-read_moment-2-clause-some : goal.returns-in_err-read_moment-2-clause-some
returns-in_err-read_moment-2-clause-some c = rw c.from_residual-in_err-read_moment-2.ensures tt

pub seconds-closes-requires : goal.seconds-closes-requires
seconds-closes-requires c = tt

pub read_days-requires : goal.read_days-requires
read_days-requires c = tt

pub returns-in_err-days-clause-some : goal.returns-in_err-days-clause-some
returns-in_err-days-clause-some c = rw c.from_residual-in_err-days.ensures tt

pub returns-in_err-days-clause-all : goal.returns-in_err-days-clause-all
returns-in_err-days-clause-all c = λ b says are. absurd (c.in_err-days.ensures.none b.days are.week says.days)

pub read_minute-requires : goal.read_minute-requires
read_minute-requires c = tt

pub returns-in_err-from_minute-clause-some : goal.returns-in_err-from_minute-clause-some
returns-in_err-from_minute-clause-some c = rw c.from_residual-in_err-from_minute.ensures tt

pub returns-in_err-from_minute-clause-all : goal.returns-in_err-from_minute-clause-all
returns-in_err-from_minute-clause-all c = λ b says are. absurd (c.in_err-from_minute.ensures.none b.from_minute (omega (arith, are.hours, are.day)) says.from_minute)

pub read_minute-requires-2 : goal.read_minute-requires-2
read_minute-requires-2 c = tt

pub returns-in_err-to_minute-clause-some : goal.returns-in_err-to_minute-clause-some
returns-in_err-to_minute-clause-some c = rw c.from_residual-in_err-to_minute.ensures tt

pub returns-in_err-to_minute-clause-all : goal.returns-in_err-to_minute-clause-all
returns-in_err-to_minute-clause-all c = λ b says are. absurd (c.in_err-to_minute.ensures.none b.to_minute (omega (arith, are.day)) says.to_minute)

pub read_number-requires : goal.read_number-requires
read_number-requires c = tt

pub returns-in_err-quota-clause-some : goal.returns-in_err-quota-clause-some
returns-in_err-quota-clause-some c = rw c.from_residual-in_err-quota.ensures tt

pub returns-in_err-quota-clause-all : goal.returns-in_err-quota-clause-all
returns-in_err-quota-clause-all c = λ b says are. absurd (c.in_err-quota.ensures.none b.quota says.quota)

pub read_number-requires-2 : goal.read_number-requires-2
read_number-requires-2 c = tt

pub returns-in_err-max_files-clause-some : goal.returns-in_err-max_files-clause-some
returns-in_err-max_files-clause-some c = rw c.from_residual-in_err-max_files.ensures tt

pub returns-in_err-max_files-clause-all : goal.returns-in_err-max_files-clause-all
returns-in_err-max_files-clause-all c = λ b says are. absurd (c.in_err-max_files.ensures.none b.max_files says.max_files)

pub read_mode-requires : goal.read_mode-requires
read_mode-requires c = tt

pub returns-in_err-mode-clause-some : goal.returns-in_err-mode-clause-some
returns-in_err-mode-clause-some c = rw c.from_residual-in_err-mode.ensures tt

pub returns-in_err-mode-clause-all : goal.returns-in_err-mode-clause-all
returns-in_err-mode-clause-all c = λ b says are. absurd (c.in_err-mode.ensures.none b.mode says.mode)

pub returns-clause-some : goal.returns-clause-some
returns-clause-some c = grind arith
