-- What a step comes to once its response is written.
use Rattle.std.proofs.Common.{◌≡◌, ◌≢◌, ◌≤◌, ℕ, List, Option, None, Some, inl, inr, ap, refl, subst, sym}
use Rattle.std.specs.Prelude.{IsSomeAnd}
use Rattle.sigtext.specs.declared.refusal.Refusal.{Refusal}
use Rattle.boxes.specs.State.{State}
use Rattle.boxes.specs.declared.keep.Keeper.{Ghosts}
use Rattle.wire.specs.declared.answer.Answer.{Answer}
use Rattle.wire.specs.declared.counted.Counted.{Counted}
use Rattle.wire.specs.declared.feed.Place.{Place}
use Rattle.wire.specs.declared.session.SessionEnd.{SessionEnd}
use Rattle.wire.specs.declared.session.SessionEnd.TheVariants.{Ended, Truncated, Refused, Limit, ReadFault, WriteFault}
use Rattle.office.specs.Connections.{MayGiveUp, TellsFaults}
use Rattle.office.specs.Handling.{end_of}
use Rattle.office.specs.Offices.{IsTryAgain}
use Rattle.office.specs.Responding.{GivesUp, IfAnswer, IsClosed, IsSent, IsTold, TellsReading, TellsWritten}
use Rattle.office.specs.Stepping.{Steps, StepsBy, TellsStep}
use Rattle.office.specs.declared.connections.responding.Handled.{Handled}
use Rattle.office.specs.declared.connections.responding.Handled.TheVariants.{Answered, GaveUp, Broken}
use Rattle.office.specs.declared.connections.responding.Response.{Response}
use Rattle.office.specs.declared.connections.responding.Response.TheVariants as response
use Rattle.office.proofs.Handlings.{closed_again}
use Rattle.office.proofs.SessionSteps.{Before, steps_after}
use Rattle.office.proofs.Unstaged.{rose_later}

-- ---- the step

module _ {C K : Type 0} (gives : C → ℕ → C → Type 0) (p : Place) (left left' reader : Option (List ℕ)) (clock clock' : C) (k : Ghosts K) where
  -- what was written of the response makes the step
  pub steps_told : (keeper keeper' : K) (s : State) (old new : Option (List ℕ)) (x : Response) (end : Option SessionEnd) → StepsBy gives p left left' reader clock clock' k keeper keeper' s x → IsTold old new x end
      → Steps gives p left left' reader old new clock clock' k keeper keeper' s end
  steps_told keeper keeper' s old new (response.Answer a) end steps (h, is, sent) =
      subst (λ (o : Option SessionEnd). Steps gives p left left' reader old new clock clock' k keeper keeper' s o) (sym is) (steps old new h sent)
  steps_told keeper keeper' s old new (response.Close q) end steps (e, is, closed) =
      subst (λ (o : Option SessionEnd). Steps gives p left left' reader old new clock clock' k keeper keeper' s o) (sym is) (steps old new e closed)
  steps_told keeper keeper' s old new response.Ended end steps (is, same) =
      subst (λ (o : Option SessionEnd). Steps gives p left left' reader old new clock clock' k keeper keeper' s o) (sym is)
      (subst (λ (o : Option (List ℕ)). Steps gives p left left' reader old o clock clock' k keeper keeper' s (Some Ended)) (sym same) (steps old))
  steps_told keeper keeper' s old new response.Truncated end steps (is, same) =
      subst (λ (o : Option SessionEnd). Steps gives p left left' reader old new clock clock' k keeper keeper' s o) (sym is)
      (subst (λ (o : Option (List ℕ)). Steps gives p left left' reader old o clock clock' k keeper keeper' s (Some Truncated)) (sym same) (steps old))
  steps_told keeper keeper' s old new response.ReadFault end steps (is, same) =
      subst (λ (o : Option SessionEnd). Steps gives p left left' reader old new clock clock' k keeper keeper' s o) (sym is)
      (subst (λ (o : Option (List ℕ)). Steps gives p left left' reader old o clock clock' k keeper keeper' s (Some ReadFault)) (sym same) (steps old))

  -- after calls that left the state unchanged and did not give up
  pub by_after : (a b c : K) (s : State) (x : Response) → Before k a b s → StepsBy gives p left left' reader clock clock' k b c s x → StepsBy gives p left left' reader clock clock' k a c s x
  by_after a b c s (response.Answer y) before steps = λ output output' h sent. steps_after gives p left left' reader output output' clock clock' k a b c s (end_of h) before (steps output output' h sent)
  by_after a b c s (response.Close q) before steps = λ output output' e closed. steps_after gives p left left' reader output output' clock clock' k a b c s (Some e) before (steps output output' e closed)
  by_after a b c s response.Ended before steps = λ output. steps_after gives p left left' reader output output clock clock' k a b c s (Some Ended) before (steps output)
  by_after a b c s response.Truncated before steps = λ output. steps_after gives p left left' reader output output clock clock' k a b c s (Some Truncated) before (steps output)
  by_after a b c s response.ReadFault before steps = λ output. steps_after gives p left left' reader output output clock clock' k a b c s (Some ReadFault) before (steps output)

-- ---- what is given up

-- refusal 40 was written, or writing it broke off
sent_again : {K : Type 0} (k : Ghosts K) (a b : K) (old new : Option (List ℕ)) (y : Answer) (h : Handled) → IsSent old new y h → IsTryAgain y → IsSomeAnd (end_of h) (MayGiveUp k a b)
sent_again k a b old new y Answered sent again = absurd (sent.0 again)
sent_again k a b old new y GaveUp sent again = inl refl
sent_again k a b old new y Broken sent again = inr (inl refl)

pub told_gives_up : {K : Type 0} (k : Ghosts K) (a b : K) (old new : Option (List ℕ)) (x : Response) (end : Option SessionEnd) → IsTold old new x end → GivesUp k a b x → IsSomeAnd end (MayGiveUp k a b)
told_gives_up k a b old new (response.Answer y) end (h, is, sent) again = subst (λ (o : Option SessionEnd). IsSomeAnd o (MayGiveUp k a b)) (sym is) (sent_again k a b old new y h sent again)
told_gives_up k a b old new (response.Close q) end (e, is, closed) again =
    subst (λ (o : Option SessionEnd). IsSomeAnd o (MayGiveUp k a b)) (sym is) (closed_again k a b old new e (subst (λ (r : Refusal). IsClosed old new r e) again closed))
told_gives_up k a b old new response.Ended end told gives = absurd gives
told_gives_up k a b old new response.Truncated end told gives = absurd gives
told_gives_up k a b old new response.ReadFault end (is, same) rose = subst (λ (o : Option SessionEnd). IsSomeAnd o (MayGiveUp k a b)) (sym is) (inr (inr (refl, rose)))

-- what was given up after an earlier call was given up over both
pub gives_up_later : {K : Type 0} (k : Ghosts K) (a b c : K) (x : Response) → k.faults a ≤ k.faults b → GivesUp k b c x → GivesUp k a c x
gives_up_later k a b c (response.Answer y) least gives = gives
gives_up_later k a b c (response.Close q) least gives = gives
gives_up_later k a b c response.Ended least gives = gives
gives_up_later k a b c response.Truncated least gives = gives
gives_up_later k a b c response.ReadFault least gives = rose_later (k.faults a) (k.faults b) (k.faults c) least gives

-- ---- the faults that were counted

some_same : (x y : SessionEnd) → Some x ≡ Some y → x ≡ y
some_same x y is = cc

closed_no_read : (old new : Option (List ℕ)) (q : Refusal) (e : SessionEnd) → IsClosed old new q e → e ≢ ReadFault
closed_no_read old new q (Refused number) closed = λ is. absurd cc
closed_no_read old new q WriteFault closed = λ is. absurd cc
closed_no_read old new q Ended closed = absurd closed
closed_no_read old new q Truncated closed = absurd closed
closed_no_read old new q Limit closed = absurd closed
closed_no_read old new q ReadFault closed = absurd closed

-- no read failed
tells_told : {R W : Type 0} (e : SessionEnd) (a b : Counted R) (old new : Counted W) → b.faults ≡ a.faults → e ≢ ReadFault → TellsWritten (Some e) old new → TellsFaults e a b old new
tells_told e a b old new same other w = record {
  read = λ is. absurd (other is);
  not_read = λ _. same;
  written = λ is. w.written (ap Some is);
  not_written = λ not. w.not_written (λ is. not (some_same e WriteFault is));
}

handled_told : {R W : Type 0} (h : Handled) (a b : Counted R) (old new : Counted W) → b.faults ≡ a.faults → TellsWritten (end_of h) old new → TellsStep (end_of h) a b old new
handled_told Answered a b old new same w = (same, w.not_written (λ is. absurd cc))
handled_told GaveUp a b old new same w = tells_told (Refused 40) a b old new same (λ is. absurd cc) w
handled_told Broken a b old new same w = tells_told WriteFault a b old new same (λ is. absurd cc) w

pub told_faults : {R W : Type 0} (x : Response) (end : Option SessionEnd) (a b : Counted R) (old new : Counted W) (output output' : Option (List ℕ)) → IsTold output output' x end → TellsReading x a b → TellsWritten end old new
    → TellsStep end a b old new
told_faults (response.Answer y) end a b old new output output' (h, is, sent) same w =
    subst (λ (o : Option SessionEnd). TellsStep o a b old new) (sym is) (handled_told h a b old new same (subst (λ (o : Option SessionEnd). TellsWritten o old new) is w))
told_faults (response.Close q) end a b old new output output' (e, is, closed) same w =
    subst (λ (o : Option SessionEnd). TellsStep o a b old new) (sym is) (tells_told e a b old new same (closed_no_read output output' q e closed) (subst (λ (o : Option SessionEnd). TellsWritten o old new) is w))
told_faults response.Ended end a b old new output output' (is, unwritten) same w =
    subst (λ (o : Option SessionEnd). TellsStep o a b old new) (sym is) (tells_told Ended a b old new same (λ is. absurd cc) (subst (λ (o : Option SessionEnd). TellsWritten o old new) is w))
told_faults response.Truncated end a b old new output output' (is, unwritten) same w =
    subst (λ (o : Option SessionEnd). TellsStep o a b old new) (sym is) (tells_told Truncated a b old new same (λ is. absurd cc) (subst (λ (o : Option SessionEnd). TellsWritten o old new) is w))
told_faults response.ReadFault end a b old new output output' (is, unwritten) rose w =
    let w = subst (λ (o : Option SessionEnd). TellsWritten o old new) is w in
    subst (λ (o : Option SessionEnd). TellsStep o a b old new) (sym is)
    (record { read = λ _. rose; not_read = λ other. absurd (other refl); written = λ is. absurd cc; not_written = λ _. w.not_written (λ is. absurd cc) })

-- no read failed
pub reading_same : {R : Type 0} (x : Response) (a b : Counted R) → x ≢ response.ReadFault → b.faults ≡ a.faults → TellsReading x a b
reading_same (response.Answer y) a b other same = same
reading_same (response.Close q) a b other same = same
reading_same response.Ended a b other same = same
reading_same response.Truncated a b other same = same
reading_same response.ReadFault a b other same = absurd (other refl)

-- ---- a message that came whole

pub if_answer : {P Q : Type 0} (x : Response) → (P → Q) → IfAnswer x P → IfAnswer x Q
if_answer (response.Answer y) then holds = then holds
if_answer (response.Close q) then holds = tt
if_answer response.Ended then holds = tt
if_answer response.Truncated then holds = tt
if_answer response.ReadFault then holds = tt

pub so_if_answer : {P : Type 0} (x : Response) → P → IfAnswer x P
so_if_answer (response.Answer y) holds = holds
so_if_answer (response.Close q) holds = tt
so_if_answer response.Ended holds = tt
so_if_answer response.Truncated holds = tt
so_if_answer response.ReadFault holds = tt

-- the session went on, so a message came whole
pub told_answer : {P : Type 0} (old new : Option (List ℕ)) (x : Response) → IsTold old new x None → IfAnswer x P → P
told_answer old new (response.Answer y) told holds = holds
told_answer old new (response.Close q) (e, is, closed) holds = absurd cc
told_answer old new response.Ended (is, same) holds = absurd cc
told_answer old new response.Truncated (is, same) holds = absurd cc
told_answer old new response.ReadFault (is, same) holds = absurd cc
