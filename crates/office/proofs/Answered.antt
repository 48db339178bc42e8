-- The answer to a refused request.
use Rattle.std.proofs.Common.{◌≡◌, ℕ, Result, Ok, Err, sym, ap, ◌∙◌}
use Rattle.std.specs.Prelude.{IfErr}
use Rattle.sigtext.specs.declared.refusal.Refusal.{Refusal}
use Rattle.sigtext.specs.declared.refusal.Refusal.TheVariants as rule
use Rattle.sigtext.specs.Request.{Request}
use Rattle.sigtext.specs.Rules.{IsFirstToFail}
use Rattle.links.specs.WellFormed.{LinkValues, IsWellFormed}
use Rattle.boxes.specs.State.{State}
use Rattle.wire.specs.declared.answer.Answer.{Answer}
use Rattle.wire.specs.declared.answer.Reply.TheVariants as reply
use Rattle.wire.specs.Shown.{whole_text}
use Rattle.wire.specs.Answers.{answer_text}
use Rattle.wire.specs.Answers as said
use Rattle.office.specs.Answering.{AnswersRequest, is_head, refuses}
use Rattle.office.specs.Offices.{IsTryAgain}
use Rattle.sigtext.specs.Readable.{IsReadable}
use Rattle.office.specs.Rules.{Rule}

-- the answer of a refusal, which is never one to a HEAD if the connection closes
pub refused_text : (s : State) (r : Request) (now : ℕ) (a : Answer) (q : Refusal) → whole_text a ≡ answer_text (is_head r) (said.Refused q) → IsFirstToFail (Rule s r now) q → AnswersRequest s r now (whole_text a) s
refused_text s r now a q is fails = record { reply = said.Refused q; replies = refuses q fails; is = is }

refused_is : (p q : Refusal) → reply.Refused p ≡ reply.Refused q → p ≡ q
refused_is p q e = cc

-- the answer is refusal 40 exactly if the refusal is
pub again_is : (a : Answer) (q : Refusal) → a.reply ≡ reply.Refused q → IsTryAgain a → q ≡ rule.TryAgain
again_is a q is again = refused_is q rule.TryAgain (sym is ∙ again)

pub is_again : (a : Answer) (q : Refusal) → a.reply ≡ reply.Refused q → q ≡ rule.TryAgain → IsTryAgain a
is_again a q is again = is ∙ ap reply.Refused again

-- a request with a well-formed link is readable, whatever its result
pub read_readable : {T : Type 0} (r : Request) (p : LinkValues) (result : Result T Refusal) → IsWellFormed r p → IfErr result (λ q. q ≡ rule.TryAgain → IsReadable r)
read_readable r p (Ok x) formed = tt
read_readable r p (Err q) formed = λ again.
    record { served = formed rule.Method; path = p.path; params = p.params; target = formed rule.Target; named = (formed rule.NotSigned, (formed rule.Parameters).no_other) }
