-- The results of checking a link's signature and window.
use Rattle.std.specs.Prelude.{◌≡◌, ℕ, ◌+◌, ◌<◌, ◌≤◌, List, Result, Ok, Err}
use Rattle.sigtext.specs.declared.refusal.Refusal.{Refusal}
use Rattle.sigtext.specs.declared.refusal.Refusal.TheVariants as rule
use Rattle.sigtext.specs.Request.{Request}
use Rattle.links.specs.WellFormed.{LinkValues}
use Rattle.links.specs.Moments.{Now, HasBegun, IsNotOver}
use Rattle.links.specs.Admits.{IsSignedBy}

-- the signature is the one that the standard gives under the secret, or refusal 21 says that it is not
abbrev pub Verifies : {T : Type 0} → List ℕ → Request → LinkValues → Result T Refusal → Type 0
Verifies secret r p (Ok done) = IsSignedBy secret r p
Verifies secret r p (Err q) = (q ≡ rule.SignatureMismatch) × (IsSignedBy secret r p → ⊥)

-- the first to fail of the start and the end of the window
abbrev pub IsOutside : Refusal → Now → LinkValues → Type 0
IsOutside rule.NotYetValid n p = n.moment + n.allowance < p.start
IsOutside rule.Expired n p = HasBegun n p.start × (p.start + p.expires ≤ n.moment)
IsOutside _ n p = ⊥

-- the moment lies in the window, or the refusal names the first to fail of the start and the end
abbrev pub LiesIn : {T : Type 0} → Now → LinkValues → Result T Refusal → Type 0
LiesIn n p (Ok done) = HasBegun n p.start × IsNotOver n p.start p.expires
LiesIn n p (Err q) = IsOutside q n p

-- the first to fail of the signature, the start and the end of the window
abbrev pub FailsAt : Refusal → List ℕ → Request → Now → LinkValues → Type 0
FailsAt rule.SignatureMismatch secret r n p = IsSignedBy secret r p → ⊥
FailsAt rule.NotYetValid secret r n p = IsSignedBy secret r p × (n.moment + n.allowance < p.start)
FailsAt rule.Expired secret r n p = IsSignedBy secret r p × HasBegun n p.start × (p.start + p.expires ≤ n.moment)
FailsAt _ secret r n p = ⊥

-- all three hold, or the refusal names the first of them to fail
abbrev pub Judges : {T : Type 0} → List ℕ → Request → Now → LinkValues → Result T Refusal → Type 0
Judges secret r n p (Ok done) = IsSignedBy secret r p × HasBegun n p.start × IsNotOver n p.start p.expires
Judges secret r n p (Err q) = FailsAt q secret r n p
