-- What an office answers.
use Rattle.std.specs.Prelude.{◌≡◌, ℕ, List}
use Rattle.sigtext.specs.declared.refusal.Refusal.TheVariants as rule
use Rattle.sigtext.specs.Request.{Request}
use Rattle.boxes.specs.State.{State}
use Rattle.wire.specs.declared.answer.Answer.{Answer}
use Rattle.wire.specs.declared.answer.Reply.TheVariants as reply
use Rattle.wire.specs.Shown.{whole_text}
use Rattle.office.specs.Answering.{AnswersRequest}
use Rattle.office.specs.Premise.{IsLeft}

-- the answer is refusal 40
abbrev pub IsTryAgain : Answer → Type 0
IsTryAgain a = a.reply ≡ reply.Refused rule.TryAgain

-- Unless the answer is refusal 40, its text is that of the machine, and the keeper means the state after it,
-- which is sound.
abbrev pub IsAnswered : (State → Type 0) → State → Request → ℕ → Answer → Type 0
IsAnswered means s r now a = (IsTryAgain a → ⊥) → (after : State) × IsLeft means after × AnswersRequest s r now (whole_text a) after

-- the same, and it is the machine's only answer: no other text and no other state after are possible
abbrev pub IsTheAnswer : (State → Type 0) → State → Request → ℕ → Answer → Type 0
IsTheAnswer means s r now a =
    (IsTryAgain a → ⊥) → (after : State) × IsLeft means after × AnswersRequest s r now (whole_text a) after
    × ((text : List ℕ) (other : State) → AnswersRequest s r now text other → (text ≡ whole_text a) × (other ≡ after))
