-- All rules from 7 to 36, over a state, a request and a moment.
use Rattle.std.specs.Prelude.{◌≡◌, ◌≢◌, ℕ, ◌⊎◌, ◌==◌, IsTrue, List, [], ◌∷◌, drop, codes, Option, IfSome, option_map, ⊤}
use Rattle.std.specs.List.{before_first, after_first}
use Rattle.std.specs.FinMap.{get}
use Rattle.sigtext.specs.declared.refusal.Refusal.{Refusal}
use Rattle.sigtext.specs.declared.refusal.Refusal.TheVariants as rule
use Rattle.sigtext.specs.Request.{Request}
use Rattle.links.specs.WellFormed.{LinkValues, HeadRule, HasValue}
use Rattle.links.specs.Admits.{KnownKey, LinkRule}
use Rattle.links.specs.Moments.{Now, moment_with}
use Rattle.boxes.specs.declared.rows.Role.TheVariants.{Clerk}
use Rattle.boxes.specs.State.{Place, State}
use Rattle.boxes.specs.Limits.{MayUse}
use Rattle.boxes.specs.Rules.{Upload, UploadRule, FetchRule}
use Rattle.boxes.specs.Commands.{HasForm}
use Rattle.boxes.specs.Steps.{Command, IsPossible}
use Rattle.links.specs.CommandTexts.{IsCommand}

abbrev pub IsPut : Request → Type 0
IsPut r = r.method ≡ codes "PUT"

abbrev pub IsPost : Request → Type 0
IsPost r = r.method ≡ codes "POST"

-- GET or HEAD
abbrev pub IsFetch : Request → Type 0
IsFetch r = (r.method ≡ codes "GET") ⊎ (r.method ≡ codes "HEAD")

-- the box is between the first `/` and the second, or the end; the name is everything after the second
abbrev pub place_of : List ℕ → Place
place_of path = record { box = before_first (λ b. b == 47) (drop 1 path); name = after_first (λ b. b == 47) (drop 1 path) }

-- what the state knows of a key id
abbrev pub known : State → List ℕ → Option KnownKey
known s id = option_map (λ k. record { secret = k.secret; revoked = k.revoked }) (get s.keys id)

-- a moment with the office's allowance
abbrev pub judged_at : State → ℕ → Now
judged_at s now = moment_with s.allowance now

-- the upload that a request asks for
abbrev pub upload_of : Request → ℕ → LinkValues → Upload
upload_of r now p = record { place = place_of p.path; bytes = r.body; now = now; key = p.key_id }

-- POST is for clerks only; for PUT, GET and HEAD the key must be allowed to use the path's box, whether the
-- box exists or not
pub record MaySend (s : State) (r : Request) (p : LinkValues) : Type 0 where
  pub desk : IsPost r → IfSome (get s.keys p.key_id) (λ k. k.role ≡ Clerk)
  pub boxes : IsPut r ⊎ IsFetch r → MayUse s p.key_id (place_of p.path).box

-- Rules 24 to 26: what the key may send, and whether the method takes a body.
abbrev pub FormRule : Refusal → State → Request → LinkValues → Type 0
FormRule rule.RoleNotAllowed s r p = MaySend s r p
FormRule rule.LengthMissing s r p = IsPut r → IsTrue r.has_length
FormRule rule.BodyNotTaken s r p = (r.method ≢ codes "PUT") → r.body ≡ []
FormRule _ s r p = ⊤

-- the path is `/`, and the parameter `desk` holds this command, which is well formed
pub record Asks (p : LinkValues) (command : Command) : Type 0 where
  pub at_desk : p.path ≡ 47 ∷ []
  pub text : List ℕ
  pub given : HasValue p.params (codes "desk") text
  pub is_command : IsCommand text command
  pub form : HasForm command

-- rules 35 and 36
abbrev pub DeskRule : Refusal → State → LinkValues → Type 0
DeskRule rule.CommandMalformed s p = (command : Command) × Asks p command
DeskRule rule.CommandNotPossible s p = (command : Command) × Asks p command × IsPossible s command
DeskRule _ s p = ⊤

-- The rule that this refusal reports. Refusals of framing have none, and neither has the one for lack of
-- memory.
pub record Rule (s : State) (r : Request) (now : ℕ) (q : Refusal) (p : LinkValues) : Type 0 where
  pub head : HeadRule q r p
  pub link : LinkRule q (known s p.key_id) r (judged_at s now) p
  pub form : FormRule q s r p
  pub put : IsPut r → UploadRule q s (upload_of r now p)
  pub fetch : IsFetch r → FetchRule q s (place_of p.path)
  pub post : IsPost r → DeskRule q s p
