-- The reply to a request, before it is written as an answer.
use Rattle.std.specs.Prelude.{◌≡◌, ◌≢◌, ℕ, Result, Ok, Err}
use Rattle.sigtext.specs.declared.refusal.Refusal.{Refusal}
use Rattle.sigtext.specs.declared.refusal.Refusal.TheVariants as rule
use Rattle.sigtext.specs.Request.{Request}
use Rattle.sigtext.specs.Rules.{IsFirstToFail}
use Rattle.boxes.specs.State.{State}
use Rattle.boxes.specs.Steps.{StepReply}
use Rattle.boxes.specs.declared.change.NewFile.{NewFile}
use Rattle.wire.specs.declared.answer.Reply.{Reply}
use Rattle.wire.specs.declared.answer.Reply.TheVariants as reply
use Rattle.wire.specs.Shown.{said_of}
use Rattle.office.specs.Answering.{AcceptsRequest, shown}
use Rattle.office.specs.Premise.{IsLeft}
use Rattle.office.specs.Rules.{Rule}

-- Either the request is accepted, this is its reply, and the keeper means the state after it. Or it is
-- refused by the first rule that fails, unless memory was refused or the keeper counted a fault.
abbrev pub IsReplied : (State → Type 0) → State → Request → ℕ → Result Reply Refusal → Type 0
IsReplied means s r now (Ok x) = (step : StepReply) × (after : State) × AcceptsRequest s r now step after × IsLeft means after × (said_of x ≡ shown step)
IsReplied means s r now (Err q) = (q ≢ rule.TryAgain) → IsFirstToFail (Rule s r now) q

abbrev pub IsNoRefusal : Reply → Type 0
IsNoRefusal x = (q : Refusal) → x ≢ reply.Refused q

-- the reply tells the receipt of this file
abbrev pub IsReceiptFor : NewFile → Reply → Type 0
IsReceiptFor f x = x ≡ reply.Kept f.number f.size f.digest
