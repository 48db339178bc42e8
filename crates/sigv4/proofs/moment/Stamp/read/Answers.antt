use Rattle.std.proofs.Common.{◌≡◌, ℕ, ◌+◌, ◌*◌, ◌/◌, ◌%◌, ◌<◌, List, get_or, ap, ◌∙◌, arith}
use Rattle.std.proofs.lemmas.Slice.Eq.{text_from_reads}
use Rattle.sigv4.proofs.moment.Stamp.read.Goals as goal
use Rattle.sigv4.proofs.moment.Stamp.read.Goals.{then-text-ne84-via-then-text-ne84, then-text-ne84-via-else-text-ne84+then-text-ne90}

-- the two halves of a year
front_of : (wide_century wide_year century year : ℕ) → wide_century ≡ century → wide_year ≡ year → year < 100 → century ≡ (100 * wide_century + wide_year) / 100
front_of wide_century wide_year century year a b small = omega arith

back_of : (wide_century wide_year century year : ℕ) → wide_century ≡ century → wide_year ≡ year → year < 100 → year ≡ (100 * wide_century + wide_year) % 100
back_of wide_century wide_year century year a b small = omega arith

-- the byte at a place of two equal texts
at : (i : ℕ) {text other : List ℕ} → text ≡ other → get_or text i 0 ≡ get_or other i 0
at i e = ap (λ (t : List ℕ). get_or t i 0) e

pub returns-clause-found : goal.returns-clause-found
returns-clause-found c =
    let text = c.args.text.now in
    let century = c.in_ok-century.ensures.found in
    let year = c.in_ok-year.ensures.found in
    let month = c.in_ok-month.ensures.found in
    let day = c.in_ok-day.ensures.found in
    let hour = c.in_ok-hour.ensures.found in
    let minute = c.in_ok-minute.ensures.found in
    let second = c.in_ok-second.ensures.found in
    let y = 100 * c.from.result + c.from-2.result in
    let front : c.in_ok-century.century ≡ y / 100 = front_of _ _ _ _ c.from.ensures c.from-2.ensures year.0 in
    let back : c.in_ok-year.year ≡ y % 100 = back_of _ _ _ _ c.from.ensures c.from-2.ensures year.0 in
    let thousands : get_or text 0 0 ≡ 48 + y / 100 / 10 % 10 = century.1 ∙ ap (λ (n : ℕ). 48 + n / 10 % 10) front in
    let hundreds : get_or text 1 0 ≡ 48 + y / 100 % 10 = century.2 ∙ ap (λ (n : ℕ). 48 + n % 10) front in
    let tens : get_or text 2 0 ≡ 48 + y % 100 / 10 % 10 = year.1 ∙ ap (λ (n : ℕ). 48 + n / 10 % 10) back in
    let ones : get_or text 3 0 ≡ 48 + y % 100 % 10 = year.2 ∙ ap (λ (n : ℕ). 48 + n % 10) back in
    text_from_reads text _ (omega arith)
    (thousands, (hundreds, (tens, (ones, (month.1, (month.2, (day.1, (day.2, (c.if-text-ne84.false, (hour.1, (hour.2, (minute.1, (minute.2, (second.1, (second.2, (c.if-text-ne90.false, tt))))))))))))))))

pub returns-then-text-ne84-clause-absent : goal.returns-then-text-ne84-clause-absent
returns-then-text-ne84-clause-absent c = λ s e.
    elim c.then-text-ne84.branch [
      | then-text-ne84-via-then-text-ne84 w ↦ w.if-text-ne84.true (at 8 e)
      | then-text-ne84-via-else-text-ne84+then-text-ne90 w ↦ w.if-text-ne90.true (at 15 e)
    ]

pub returns-in_err-century-clause-absent : goal.returns-in_err-century-clause-absent
returns-in_err-century-clause-absent c = rw c.from_residual.ensures (λ s e. c.in_err-century.ensures.absent (s.year / 100) (at 0 e) (at 1 e))

pub returns-in_err-year-clause-absent : goal.returns-in_err-year-clause-absent
returns-in_err-year-clause-absent c = rw c.from_residual-in_err-year.ensures (λ s e. c.in_err-year.ensures.absent (s.year % 100) (at 2 e) (at 3 e))

pub returns-in_err-month-clause-absent : goal.returns-in_err-month-clause-absent
returns-in_err-month-clause-absent c = rw c.from_residual-in_err-month.ensures (λ s e. c.in_err-month.ensures.absent s.month (at 4 e) (at 5 e))

pub returns-in_err-day-clause-absent : goal.returns-in_err-day-clause-absent
returns-in_err-day-clause-absent c = rw c.from_residual-in_err-day.ensures (λ s e. c.in_err-day.ensures.absent s.day (at 6 e) (at 7 e))

pub returns-in_err-hour-clause-absent : goal.returns-in_err-hour-clause-absent
returns-in_err-hour-clause-absent c = rw c.from_residual-in_err-hour.ensures (λ s e. c.in_err-hour.ensures.absent s.hour (at 9 e) (at 10 e))

pub returns-in_err-minute-clause-absent : goal.returns-in_err-minute-clause-absent
returns-in_err-minute-clause-absent c = rw c.from_residual-in_err-minute.ensures (λ s e. c.in_err-minute.ensures.absent s.minute (at 11 e) (at 12 e))

pub returns-in_err-second-clause-absent : goal.returns-in_err-second-clause-absent
returns-in_err-second-clause-absent c = rw c.from_residual-in_err-second.ensures (λ s e. c.in_err-second.ensures.absent s.second (at 13 e) (at 14 e))

pub invariant_of-result : goal.invariant_of-result
invariant_of-result c = grind arith

pub overflow_add-result : goal.overflow_add-result
overflow_add-result c = grind arith

pub overflow_mul-result : goal.overflow_mul-result
overflow_mul-result c = grind arith

pub returns-in_err-century-clause-found : goal.returns-in_err-century-clause-found
returns-in_err-century-clause-found c = grind arith

pub returns-in_err-day-clause-found : goal.returns-in_err-day-clause-found
returns-in_err-day-clause-found c = grind arith

pub returns-in_err-hour-clause-found : goal.returns-in_err-hour-clause-found
returns-in_err-hour-clause-found c = grind arith

pub returns-in_err-minute-clause-found : goal.returns-in_err-minute-clause-found
returns-in_err-minute-clause-found c = grind arith

pub returns-in_err-month-clause-found : goal.returns-in_err-month-clause-found
returns-in_err-month-clause-found c = grind arith

pub returns-in_err-second-clause-found : goal.returns-in_err-second-clause-found
returns-in_err-second-clause-found c = grind arith

pub returns-in_err-year-clause-found : goal.returns-in_err-year-clause-found
returns-in_err-year-clause-found c = grind arith
