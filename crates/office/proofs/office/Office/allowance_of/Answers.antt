use Rattle.std.proofs.Common.{◌+◌, ◌≤◌, ◌↔◌, ℕ, arith}
use Rattle.office.proofs.Questions.{stays_ok, stays_still}
use Rattle.office.proofs.office.Office.allowance_of.Goals as goal

-- a start that has passed is not before it with any allowance
begun_anyhow : (start now a b : ℕ) → start ≤ now + 0 → start ≤ now + a ↔ (start ≤ now + b)
begun_anyhow start now a b passed = (λ _. omega (arith, passed), λ _. omega (arith, passed))

pub returns-then-has_begun-clause-rest : goal.returns-then-has_begun-clause-rest
returns-then-has_begun-clause-rest g c = stays_still g.K.Keeper

pub returns-clause-rest : goal.returns-clause-rest
returns-clause-rest g c = stays_ok g.K.Keeper c.in_ok-settings.ensures.rest

pub returns-then-has_begun-clause-begun : goal.returns-then-has_begun-clause-begun
returns-then-has_begun-clause-begun g c s r p kept is = begun_anyhow p.start c.args.now c.none.result s.allowance ((c.has_begun.ensures r p is).0 c.if-has_begun.true)

pub returns-clause-begun : goal.returns-clause-begun
returns-clause-begun g c = grind arith

pub returns-clause-staged : goal.returns-clause-staged
returns-clause-staged g c = grind arith
