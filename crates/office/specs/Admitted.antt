-- Requests whose link is admitted, and requests that reach the rules of boxes and of the desk.
use Rattle.std.specs.Prelude.{◌≡◌, ℕ, IsFalse, Some}
use Rattle.std.specs.FinMap.{get}
use Rattle.sigtext.specs.declared.refusal.Refusal.{Refusal}
use Rattle.sigtext.specs.Request.{Request}
use Rattle.links.specs.WellFormed.{LinkValues, IsWellFormed}
use Rattle.links.specs.Admits.{IsSignedBy, LinkRule}
use Rattle.links.specs.Moments.{HasBegun, IsNotOver}
use Rattle.boxes.specs.State.{Key, State}
use Rattle.office.specs.Rules.{known, judged_at, FormRule}

-- the request's link has these parts and is admitted under this key
pub record IsAdmitted (s : State) (r : Request) (now : ℕ) (p : LinkValues) (k : Key) : Type 0 where
  pub well_formed : IsWellFormed r p
  pub there : get s.keys p.key_id ≡ Some k
  pub unrevoked : IsFalse k.revoked
  pub signed : IsSignedBy k.secret r p
  pub begun : HasBegun (judged_at s now) p.start
  pub not_over : IsNotOver (judged_at s now) p.start p.expires

-- rules 7 to 26 hold for the request with these parts
pub record ReachesBoxes (s : State) (r : Request) (now : ℕ) (p : LinkValues) : Type 0 where
  pub head : IsWellFormed r p
  pub link : (q : Refusal) → LinkRule q (known s p.key_id) r (judged_at s now) p
  pub form : (q : Refusal) → FormRule q s r p
