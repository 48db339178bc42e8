-- The answer to one request, and the state after it.
use Rattle.std.specs.Prelude.{◌≡◌, ℕ, Bool, List, codes}
use Rattle.sigtext.specs.declared.refusal.Refusal.{Refusal}
use Rattle.sigtext.specs.Bytes.{same_bytes}
use Rattle.sigtext.specs.Request.{Request}
use Rattle.sigtext.specs.Rules.{IsFirstToFail, AllHold}
use Rattle.hex.specs.Hex.{encode_lower}
use Rattle.links.specs.WellFormed.{LinkValues}
use Rattle.boxes.specs.State.{State}
use Rattle.boxes.specs.Steps as step
use Rattle.wire.specs.Answers.{Said, Refused, Kept, Found, Done, answer_text}
use Rattle.office.specs.Rules.{IsPut, IsFetch, IsPost, place_of, upload_of, Asks, Rule}

-- a step's reply, in the form that is written
abbrev pub shown : step.StepReply → Said
shown (step.Kept number receipt) = Kept number receipt.size (encode_lower receipt.digest)
shown (step.Found number receipt bytes) = Found number (encode_lower receipt.digest) bytes
shown step.Done = Done

-- a request that obeys every rule is done by its method
pub data AcceptsRequest (s : State) (r : Request) (now : ℕ) : step.StepReply → State → Type 0 where
  put : (p : LinkValues) (reply : step.StepReply) (after : State) → AllHold (Rule s r now) p → IsPut r
      → step.UploadStep s (upload_of r now p) reply after → AcceptsRequest s r now reply after
  fetch : (p : LinkValues) (reply : step.StepReply) (after : State) → AllHold (Rule s r now) p → IsFetch r
      → step.FetchStep s (place_of p.path) reply after → AcceptsRequest s r now reply after
  post : (p : LinkValues) (command : step.Command) (after : State) → AllHold (Rule s r now) p → IsPost r
      → Asks p command → step.CommandStep s command after → AcceptsRequest s r now step.Done after

-- The first rule that fails refuses the request, and nothing changes. If none fails, the request is accepted.
pub data Replies (s : State) (r : Request) (now : ℕ) : Said → State → Type 0 where
  refuses : (q : Refusal) → IsFirstToFail (Rule s r now) q → Replies s r now (Refused q) s
  accepts : (reply : step.StepReply) (after : State) → AcceptsRequest s r now reply after → Replies s r now (shown reply) after

abbrev pub is_head : Request → Bool
is_head r = same_bytes r.method (codes "HEAD")

-- the text of the answer, and the state after it
pub record AnswersRequest (s : State) (r : Request) (now : ℕ) (text : List ℕ) (after : State) : Type 0 where
  pub reply : Said
  pub replies : Replies s r now reply after
  pub is : text ≡ answer_text (is_head r) reply
