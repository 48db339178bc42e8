use Rattle.std.proofs.Common.{◌≡◌, List, ℕ, subst, rules, arith}
use Rattle.std.specs.Prelude.{IfNone}
use Rattle.sigv4.specs.Dates.{WritesMoment}
use Rattle.links.proofs.inspecting.read_moment.Goals as goal

pub returns-clause-none : goal.returns-clause-none
returns-clause-none c =
    let same : c.in-Ok.text.now ≡ c.args.date.now = search (rules, c.in-Ok.ensures.1) in
    subst (λ (t : List ℕ). IfNone c.read.result ((m : ℕ) → WritesMoment t m → ⊥)) same c.read.ensures.absent

pub returns-clause-some : goal.returns-clause-some
returns-clause-some c = grind arith

pub returns-in_default-clause-none : goal.returns-in_default-clause-none
returns-in_default-clause-none c = grind arith
