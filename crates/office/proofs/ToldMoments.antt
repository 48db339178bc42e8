-- What the clocks of the office tell.
use Rattle.std.proofs.Common.{◌≡◌, ℕ, List, [], ◌∷◌, length, replicate, refl, ap, subst, ◌∙◌}
use Rattle.office.specs.declared.clocks.FixedClock.{FixedClock}
use Rattle.office.specs.declared.clocks.ListedClock.{ListedClock}
use Rattle.office.specs.Clocks.{NextOf, TellsNext, listed}
use Rattle.office.specs.Connections.{TellsMoments}

pub told_fixed : (c later : FixedClock) (moments : List ℕ) → TellsMoments (λ c m d. (m ≡ c.moment) × (d ≡ c)) c moments later → moments ≡ replicate (length moments) c.moment
told_fixed c later [] t = refl
told_fixed c later (m ∷ moments) t =
    let rest = told_fixed t.0 later moments t.2 in
    let same : t.0.moment ≡ c.moment = ap (λ (d : FixedClock). d.moment) t.1.1 in
    let others : moments ≡ replicate (length moments) c.moment = rest ∙ ap (λ (n : ℕ). replicate (length moments) n) same in
    ap (λ (n : ℕ). n ∷ moments) t.1.0 ∙ ap (λ (ms : List ℕ). c.moment ∷ ms) others

-- what follows one moment
abbrev Next : ListedClock → ListedClock → List ℕ → Type 0
Next c d others = NextOf c.first others d.first d.others.now

-- by the next moment and those after it
told_from : (c later : ListedClock) (first : ℕ) (others : List ℕ) (moments : List ℕ) → c.first ≡ first → c.others.now ≡ others → TellsMoments TellsNext c moments later → moments ≡ listed (length moments) first others
told_from c later first others [] a b t = refl
told_from c later first [] (m ∷ moments) a b t =
    let next = subst (λ (os : List ℕ). Next c t.0 os) b t.1.1 in
    let rest = told_from t.0 later first [] moments (next.0 ∙ a) next.1 t.2 in
    ap (λ (n : ℕ). n ∷ moments) (t.1.0 ∙ a) ∙ ap (λ (ms : List ℕ). first ∷ ms) rest
told_from c later first (o ∷ os) (m ∷ moments) a b t =
    let next = subst (λ (os : List ℕ). Next c t.0 os) b t.1.1 in
    let rest = told_from t.0 later o os moments next.0 next.1 t.2 in
    ap (λ (n : ℕ). n ∷ moments) (t.1.0 ∙ a) ∙ ap (λ (ms : List ℕ). first ∷ ms) rest

pub told_listed : (c later : ListedClock) (moments : List ℕ) → TellsMoments TellsNext c moments later → moments ≡ listed (length moments) c.first c.others.now
told_listed c later moments t = told_from c later c.first c.others.now moments refl refl t
