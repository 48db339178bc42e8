use Rattle.std.proofs.Common.{arith, ap, length}
use Rattle.std.proofs.lemmas.Grind.{common_steps}
use borrow.Author.Rules.{rules}
use borrow.Author.Tests.{tests}
use Rattle.links.proofs.DeskWords.{no_mode}
use Rattle.links.proofs.desk.values.read_mode.Goals as goal

pub returns-in_default-2-clause-none : goal.returns-in_default-2-clause-none
returns-in_default-2-clause-none c = no_mode _ (λ is. search (tests, rules)) (λ is. omega (arith, ap length is, c.in_default.len_below))

pub returns-in_default-2-clause-some : goal.returns-in_default-2-clause-some
returns-in_default-2-clause-some c = tt

pub returns-in_default-3-clause-none : goal.returns-in_default-3-clause-none
returns-in_default-3-clause-none c = no_mode _ (λ is. search (tests, rules)) (λ is. omega (arith, ap length is, c.in_default.len_below))

pub returns-in_default-3-clause-some : goal.returns-in_default-3-clause-some
returns-in_default-3-clause-some c = tt

pub returns-in_default-4-clause-none : goal.returns-in_default-4-clause-none
returns-in_default-4-clause-none c = no_mode _ (λ is. search (tests, rules)) (λ is. omega (arith, ap length is, c.in_default.len_below))

pub returns-in_default-4-clause-some : goal.returns-in_default-4-clause-some
returns-in_default-4-clause-some c = tt

pub returns-in_default-5-clause-none : goal.returns-in_default-5-clause-none
returns-in_default-5-clause-none c = no_mode _ (λ is. search (tests, rules)) (λ is. omega (arith, ap length is, c.in_default.len_below))

pub returns-in_default-5-clause-some : goal.returns-in_default-5-clause-some
returns-in_default-5-clause-some c = tt

pub returns-in_default-6-clause-none : goal.returns-in_default-6-clause-none
returns-in_default-6-clause-none c = no_mode _ (λ is. omega (arith, ap length is, c.in_default.len_at_least)) (λ is. omega (arith, ap length is, c.in_default.len_below))

pub returns-in_default-6-clause-some : goal.returns-in_default-6-clause-some
returns-in_default-6-clause-some c = tt

pub returns-in_default-7-clause-none : goal.returns-in_default-7-clause-none
returns-in_default-7-clause-none c = no_mode _ (λ is. omega (arith, ap length is, c.in_default.len_at_least)) (λ is. search (tests, rules))

pub returns-in_default-7-clause-some : goal.returns-in_default-7-clause-some
returns-in_default-7-clause-some c = tt

pub returns-in_default-8-clause-none : goal.returns-in_default-8-clause-none
returns-in_default-8-clause-none c = no_mode _ (λ is. omega (arith, ap length is, c.in_default.len_at_least)) (λ is. search (tests, rules))

pub returns-in_default-8-clause-some : goal.returns-in_default-8-clause-some
returns-in_default-8-clause-some c = tt

pub returns-in_default-9-clause-none : goal.returns-in_default-9-clause-none
returns-in_default-9-clause-none c = no_mode _ (λ is. omega (arith, ap length is, c.in_default.len_at_least)) (λ is. search (tests, rules))

pub returns-in_default-9-clause-some : goal.returns-in_default-9-clause-some
returns-in_default-9-clause-some c = tt

pub returns-in_default-10-clause-none : goal.returns-in_default-10-clause-none
returns-in_default-10-clause-none c = no_mode _ (λ is. omega (arith, ap length is, c.in_default.len_at_least)) (λ is. search (tests, rules))

pub returns-in_default-10-clause-some : goal.returns-in_default-10-clause-some
returns-in_default-10-clause-some c = tt

pub returns-in_default-11-clause-none : goal.returns-in_default-11-clause-none
returns-in_default-11-clause-none c = no_mode _ (λ is. omega (arith, ap length is, c.in_default.len_at_least)) (λ is. search (tests, rules))

pub returns-in_default-11-clause-some : goal.returns-in_default-11-clause-some
returns-in_default-11-clause-some c = tt

pub returns-in_default-12-clause-none : goal.returns-in_default-12-clause-none
returns-in_default-12-clause-none c = no_mode _ (λ is. omega (arith, ap length is, c.in_default.len_at_least)) (λ is. search (tests, rules))

pub returns-in_default-12-clause-some : goal.returns-in_default-12-clause-some
returns-in_default-12-clause-some c = tt

pub returns-in_default-13-clause-none : goal.returns-in_default-13-clause-none
returns-in_default-13-clause-none c = no_mode _ (λ is. omega (arith, ap length is, c.in_default.len_at_least)) (λ is. search (tests, rules))

pub returns-in_default-13-clause-some : goal.returns-in_default-13-clause-some
returns-in_default-13-clause-some c = tt

pub returns-in_default-14-clause-none : goal.returns-in_default-14-clause-none
returns-in_default-14-clause-none c = no_mode _ (λ is. omega (arith, ap length is, c.in_default.len_at_least)) (λ is. omega (arith, ap length is, c.in_default.len_at_least))

pub returns-in_default-14-clause-some : goal.returns-in_default-14-clause-some
returns-in_default-14-clause-some c = tt

pub returns-in_default-clause-none : goal.returns-in_default-clause-none
returns-in_default-clause-none c = no_mode _ (λ is. omega (arith, ap length is, c.in_default.len_below)) (λ is. omega (arith, ap length is, c.in_default.len_below))

pub returns-in_default-clause-some : goal.returns-in_default-clause-some
returns-in_default-clause-some c = tt

pub bounds-word-0 : goal.bounds-word-0
bounds-word-0 c = grind arith

pub bounds-word-0-then-word-lt8 : goal.bounds-word-0-then-word-lt8
bounds-word-0-then-word-lt8 c = grind arith

pub bounds-word-1 : goal.bounds-word-1
bounds-word-1 c = grind arith

pub bounds-word-1-in-114-1 : goal.bounds-word-1-in-114-1
bounds-word-1-in-114-1 c = grind arith

pub bounds-word-2 : goal.bounds-word-2
bounds-word-2 c = grind arith

pub bounds-word-2-in-101-word-6 : goal.bounds-word-2-in-101-word-6
bounds-word-2-in-101-word-6 c = grind arith

pub bounds-word-3 : goal.bounds-word-3
bounds-word-3 c = grind arith

pub bounds-word-3-in-112-word-7 : goal.bounds-word-3-in-112-word-7
bounds-word-3-in-112-word-7 c = grind arith

pub bounds-word-4 : goal.bounds-word-4
bounds-word-4 c = grind arith

pub bounds-word-5 : goal.bounds-word-5
bounds-word-5 c = grind arith

pub bounds-word-6 : goal.bounds-word-6
bounds-word-6 c = grind arith

pub returns-in-keep-clause-some : goal.returns-in-keep-clause-some
returns-in-keep-clause-some c = grind (arith, common_steps)
