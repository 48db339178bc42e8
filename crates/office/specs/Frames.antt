-- What a call of an office leaves of its keeper.
use Rattle.std.specs.Prelude.{ℕ, Result, IfOk, OnErr}
use Rattle.sigtext.specs.declared.refusal.Refusal.{Refusal}
use Rattle.sigtext.specs.Request.{Request}
use Rattle.boxes.specs.State.{State}
use Rattle.boxes.specs.Keeping.{KeepsStaged}
use Rattle.boxes.specs.declared.keep.Keeper.{Ghosts}
use Rattle.wire.specs.declared.answer.Reply.{Reply}
use Rattle.office.specs.Crashes.{AddsStanding, Endures, RefusedLasts}
use Rattle.office.specs.Premise.{HoldsUnless, IsGivenUp, WasKept}
use Rattle.office.specs.Replying.{IsReplied, IsNoRefusal}

-- The call changed nothing. The keeper means the same states, and a crash leaves nothing new except the current one. gave_up:
-- the call gave up.
pub record Quiet {K : Type 0} (k : Ghosts K) (old new : K) (gave_up : Type 0) : Type 0 where
  pub same : (s : State) → k.means old s → k.means new s
  pub crash : (s : State) → k.means old s → k.is_honest new → AddsStanding k old new s
  pub rest : HoldsUnless k old new gave_up

-- the same, and what was staged is still staged
pub record Looks {K : Type 0} (k : Ghosts K) (old new : K) (gave_up : Type 0) : Type 0 where
  pub quiet : Quiet k old new gave_up
  pub staged : KeepsStaged k.stages old new

-- This is the reply at a moment to each request for which `Right` holds in the state before. A request that was refused changed
-- nothing.
pub record Replies {K : Type 0} (k : Ghosts K) (old new : K) (now : ℕ) (result : Result Reply Refusal) (Right : State → Request → Type 0) : Type 0 where
  pub replied : (s : State) (r : Request) → WasKept k old new s → Right s r → IsReplied (Endures k old new s) s r now result
  pub same : (s : State) → k.means old s → OnErr result (k.means new s)
  pub plain : IfOk result IsNoRefusal
  pub crash : (s : State) (r : Request) → WasKept k old new s → Right s r → RefusedLasts k old new s r now result
  pub rest : HoldsUnless k old new (IsGivenUp result)
