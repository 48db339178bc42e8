-- The decisions on an upload, a fetch and a desk command.
use Rattle.std.specs.Prelude.{◌≡◌, ◌<◌, Result, Ok, Err}
use Rattle.sigtext.specs.declared.refusal.Refusal.{Refusal}
use Rattle.sigtext.specs.declared.refusal.Refusal.TheVariants as rule
use Rattle.sigtext.specs.Refusals.{number_of}
use Rattle.boxes.specs.declared.rows.FileRow.{FileRow}
use Rattle.boxes.specs.declared.uploads.Uploading.{Uploading}
use Rattle.boxes.specs.declared.uploads.Uploading.TheVariants as uploading
use Rattle.boxes.specs.State.{Place, State}
use Rattle.boxes.specs.Changes.{IsFileFor, upload_in}
use Rattle.boxes.specs.Rows.{receipt_in}
use Rattle.boxes.specs.Rules.{Upload, Stands, UploadRule, FetchRule}
use Rattle.boxes.specs.Steps.{Command, IsPossible, UploadStep, Kept, FetchStep, Found}

-- this rule fails, and no rule with a smaller number fails
pub record IsLeastToFail (Rule : Refusal → Type 0) (q : Refusal) : Type 0 where
  pub before : (other : Refusal) → number_of other < number_of q → Rule other
  pub fails : Rule q → ⊥

-- an upload: the lowest of its rules that fails; or its bytes are already stored, and their receipt is the reply; or it
-- is accepted as this file
abbrev pub DecidesUpload : State → Upload → Uploading → Type 0
DecidesUpload s u (uploading.Refused q) = IsLeastToFail (λ r. UploadRule r s u) q
DecidesUpload s u (uploading.Again receipt) =
    ((r : Refusal) → UploadRule r s u) × UploadStep s u (Kept receipt.now.number (receipt_in receipt.now)) s
DecidesUpload s u (uploading.Taken file) =
    ((r : Refusal) → UploadRule r s u) × (Stands s u → ⊥) × (upload_in file u.bytes ≡ u) × IsFileFor s file u.bytes

-- a fetch: the lowest of its rules that fails, or the stored file
abbrev pub DecidesFetch : State → Place → Result FileRow Refusal → Type 0
DecidesFetch s place (Err q) = IsLeastToFail (λ r. FetchRule r s place) q
DecidesFetch s place (Ok f) = ((r : Refusal) → FetchRule r s place) × FetchStep s place (Found f.receipt.number (receipt_in f.receipt) f.bytes.items) s

-- a desk command: it is possible, or it is refused with number 36
abbrev pub DecidesCommand : {T : Type 0} → State → Command → Result T Refusal → Type 0
DecidesCommand s c (Ok done) = IsPossible s c
DecidesCommand s c (Err q) = (q ≡ rule.CommandNotPossible) × (IsPossible s c → ⊥)
