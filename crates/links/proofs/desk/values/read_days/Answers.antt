use Rattle.std.proofs.Common.{◌≡◌, ◌<◌, ℕ, Bool, List, length, get_or, Option, None, Some, arith}
use Rattle.std.specs.Prelude.{IfNone}
use Rattle.links.specs.CommandTexts.{day_digit, days_word}
use Rattle.std.proofs.lemmas.Slice.Eq.{text_from_reads}
use Rattle.std.proofs.lemmas.Grind.{common_steps}
use Rattle.links.proofs.DeskWords.{no_day}
use Rattle.links.proofs.desk.values.read_days.Goals as goal

no_days : (word : List ℕ) (r : Option (List Bool)) (i : ℕ) → i < 7 → ((day : Bool) → get_or word i 0 ≡ day_digit day → ⊥)
    → IfNone r ((days : List Bool) → length days ≡ 7 → word ≡ days_word days → ⊥)
no_days word None i within none = λ days week is. no_day word days i is (omega arith) none
no_days word (Some days) i within none = tt

pub returns-in_err-read_day-clause-none : goal.returns-in_err-read_day-clause-none
returns-in_err-read_day-clause-none c = no_days c.args.word.now _ 0 (omega arith) c.in_err-read_day.ensures.none

pub returns-in_err-read_day-2-clause-none : goal.returns-in_err-read_day-2-clause-none
returns-in_err-read_day-2-clause-none c = no_days c.args.word.now _ 1 (omega arith) c.in_err-read_day-2.ensures.none

pub returns-in_err-read_day-3-clause-none : goal.returns-in_err-read_day-3-clause-none
returns-in_err-read_day-3-clause-none c = no_days c.args.word.now _ 2 (omega arith) c.in_err-read_day-3.ensures.none

pub returns-in_err-read_day-4-clause-none : goal.returns-in_err-read_day-4-clause-none
returns-in_err-read_day-4-clause-none c = no_days c.args.word.now _ 3 (omega arith) c.in_err-read_day-4.ensures.none

pub returns-in_err-read_day-5-clause-none : goal.returns-in_err-read_day-5-clause-none
returns-in_err-read_day-5-clause-none c = no_days c.args.word.now _ 4 (omega arith) c.in_err-read_day-5.ensures.none

pub returns-in_err-read_day-6-clause-none : goal.returns-in_err-read_day-6-clause-none
returns-in_err-read_day-6-clause-none c = no_days c.args.word.now _ 5 (omega arith) c.in_err-read_day-6.ensures.none

pub returns-in_err-read_day-7-clause-none : goal.returns-in_err-read_day-7-clause-none
returns-in_err-read_day-7-clause-none c = no_days c.args.word.now _ 6 (omega arith) c.in_err-read_day-7.ensures.none

pub returns-clause-some : goal.returns-clause-some
returns-clause-some c = text_from_reads c.args.word.now _ (omega arith) (c.in_ok-read_day.ensures.some, (c.in_ok-read_day-2.ensures.some, (c.in_ok-read_day-3.ensures.some, (c.in_ok-read_day-4.ensures.some, (c.in_ok-read_day-5.ensures.some, (c.in_ok-read_day-6.ensures.some, (c.in_ok-read_day-7.ensures.some, tt)))))))

pub bounds-word-0 : goal.bounds-word-0
bounds-word-0 c = grind arith

pub bounds-word-1 : goal.bounds-word-1
bounds-word-1 c = grind arith

pub bounds-word-2 : goal.bounds-word-2
bounds-word-2 c = grind arith

pub bounds-word-3 : goal.bounds-word-3
bounds-word-3 c = grind arith

pub bounds-word-4 : goal.bounds-word-4
bounds-word-4 c = grind arith

pub bounds-word-5 : goal.bounds-word-5
bounds-word-5 c = grind arith

pub bounds-word-6 : goal.bounds-word-6
bounds-word-6 c = grind arith

pub returns-in_default-2-clause-none : goal.returns-in_default-2-clause-none
returns-in_default-2-clause-none c = grind (arith, common_steps)

pub returns-in_default-clause-none : goal.returns-in_default-clause-none
returns-in_default-clause-none c = grind (arith, common_steps)

pub returns-in_err-read_day-2-clause-some : goal.returns-in_err-read_day-2-clause-some
returns-in_err-read_day-2-clause-some c = grind arith

pub returns-in_err-read_day-3-clause-some : goal.returns-in_err-read_day-3-clause-some
returns-in_err-read_day-3-clause-some c = grind arith

pub returns-in_err-read_day-4-clause-some : goal.returns-in_err-read_day-4-clause-some
returns-in_err-read_day-4-clause-some c = grind arith

pub returns-in_err-read_day-5-clause-some : goal.returns-in_err-read_day-5-clause-some
returns-in_err-read_day-5-clause-some c = grind arith

pub returns-in_err-read_day-6-clause-some : goal.returns-in_err-read_day-6-clause-some
returns-in_err-read_day-6-clause-some c = grind arith

pub returns-in_err-read_day-7-clause-some : goal.returns-in_err-read_day-7-clause-some
returns-in_err-read_day-7-clause-some c = grind arith

pub returns-in_err-read_day-clause-some : goal.returns-in_err-read_day-clause-some
returns-in_err-read_day-clause-some c = grind arith
