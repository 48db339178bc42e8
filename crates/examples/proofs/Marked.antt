-- Only a session that gave up answers refusal 40. No rule of a message and no rule of framing reports it.
use Rattle.std.proofs.Common.{◌≡◌, ◌≢◌, ℕ, List, Option, None, Some, inr, subst}
use Rattle.std.specs.Prelude.{IfSome, ⊤}
use Rattle.sigtext.specs.declared.refusal.Refusal.{Refusal}
use Rattle.sigtext.specs.declared.refusal.Refusal.TheVariants as rule
use Rattle.sigtext.specs.Request.{Request}
use Rattle.sigtext.specs.Rules.{IsFirstToFail}
use Rattle.links.specs.WellFormed.{LinkValues}
use Rattle.boxes.specs.State.{State}
use Rattle.boxes.specs.Steps as step
use Rattle.wire.specs.Answers.{Said}
use Rattle.wire.specs.Answers as said
use Rattle.wire.specs.Framing.{Next}
use Rattle.wire.specs.Framing as frame
use Rattle.office.specs.Answering.{Replies, shown, refuses, accepts}
use Rattle.office.specs.Rules.{Rule}

rule_holds : (s : State) (r : Request) (now : ℕ) (p : LinkValues) → Rule s r now rule.TryAgain p
rule_holds s r now p = record { head = tt; link = tt; form = tt; put = λ _. (tt, inr (any _)); fetch = λ _. tt; post = λ _. tt }
  where
    any : {X : Type 0} (o : Option X) → IfSome o (λ x. ⊤)
    any None = tt
    any (Some x) = tt

refused_is : (p q : Refusal) → said.Refused p ≡ said.Refused q → p ≡ q
refused_is p q e = cc

shown_other : (reply : step.StepReply) (q : Refusal) → shown reply ≢ said.Refused q
shown_other (step.Kept number receipt) q e = cc
shown_other (step.Found number receipt bytes) q e = cc
shown_other step.Done q e = cc

-- by the rules a message gets another reply
pub never_replied : (s after : State) (r : Request) (now : ℕ) (reply : Said) → Replies s r now reply after → reply ≢ said.Refused rule.TryAgain
never_replied s _ r now _ (refuses q fails) e =
    let f = subst (λ (x : Refusal). IsFirstToFail (Rule s r now) x) (refused_is q rule.TryAgain e) fails in
    f.fails f.parts f.before (rule_holds s r now f.parts)
never_replied s _ r now _ (accepts reply after _) e = shown_other reply rule.TryAgain e

-- if a stream holds no message, it gets another refusal
pub never_framed : (stream rest : List ℕ) (q : Refusal) → Next stream (frame.Refused q) rest → q ≢ rule.TryAgain
never_framed stream _ _ (frame.too_long long none) e = cc
never_framed stream _ _ (frame.malformed front rest is none) e = cc
never_framed stream _ _ (frame.coded front rest head is is_head coded) e = cc
never_framed stream _ _ (frame.no_length front rest head is is_head uncoded none) e = cc
never_framed stream _ _ (frame.too_large head n rest has large) e = cc
never_framed stream _ _ (frame.incomplete head n rest has small short) e = cc
