-- Steps that may wait: what came before them, and where the head lies.
use Rattle.std.proofs.Common.{◌≡◌, ◌∙◌, ◌≤◌, ◌++◌, ℕ, List, length, Option, None, Some, ap, subst, sym, take}
use Rattle.std.proofs.Math.Seq.{take-append_seam}
use Rattle.std.specs.Io.KnownBytes.{Keeps, prepend_known}
use Rattle.boxes.specs.State.{State}
use Rattle.boxes.specs.declared.keep.Keeper.{Ghosts}
use Rattle.wire.specs.Feeds.{TakesAllIn, given_of, left, place_of, reader_of, whole_left}
use Rattle.wire.specs.Underways.{IsBegun}
use Rattle.wire.specs.declared.feed.Feed.{Feed}
use Rattle.wire.specs.declared.feed.Place.{Place}
use Rattle.wire.proofs.Skipping.{HasSpent}
use Rattle.wire.proofs.Spending.{spent_then}
use Rattle.office.specs.Stepping.{AwaitsMore, HasGivenUp, HasHeadOf, IfWaits, ReadsOn, StepsTo, WaitsBehind}
use Rattle.office.specs.declared.connections.stepping.Begun.{Begun}
use Rattle.office.specs.declared.connections.stepping.Stepped.{Stepped}
use Rattle.office.specs.declared.connections.stepping.Stepped.TheVariants as stepped
use Rattle.office.proofs.Endurance.{through_after}
use Rattle.office.proofs.SessionSteps.{Before, before_held}
use Rattle.office.proofs.Told.{by_after, gives_up_later}

-- the head lies at the front of the block
read_in : {R : Type 0} (remaining : R → Option (List ℕ)) (known : Option (List ℕ)) (feed : Feed R) (head block : List ℕ) (len : ℕ) (begun : Option Begun) → take len block ≡ head → take len head ≡ head
    → HasHeadOf len begun → ReadsOn remaining known feed head begun → ReadsOn remaining known feed block begun
read_in remaining known feed head block len None at all long r = r
read_in remaining known feed head block len (Some b) at all long (short, (is, kept)) =
    let same : take b.len head ≡ take b.len block = ap (λ (n : ℕ). take n head) long ∙ all ∙ sym at ∙ ap (λ (n : ℕ). take n block) (sym long) in (
      short,
      (
        subst (λ (text : List ℕ). IsBegun text b.size b.kept (place_of feed) (given_of feed)) same is,
        subst (λ (text : List ℕ). Keeps known (prepend_known text (whole_left remaining feed))) same kept,
      ),
    )

-- a feed that waits behind a head waits behind the block whose front it is
pub waits_in_block : {R : Type 0} (feed : Feed R) (head block : List ℕ) (len : ℕ) (result : Stepped (Option Begun)) → take len block ≡ head → take len head ≡ head → IfWaits (HasHeadOf len) result
    → IfWaits (WaitsBehind feed head) result → IfWaits (WaitsBehind feed block) result
waits_in_block feed head block len (stepped.Done x) at all long w = w
waits_in_block feed head block len (stepped.Waits None) at all long w = w
waits_in_block feed head block len (stepped.Waits (Some b)) at all long (short, (is, more)) =
    let same : take b.len head ≡ take b.len block = ap (λ (n : ℕ). take n head) long ∙ all ∙ sym at ∙ ap (λ (n : ℕ). take n block) (sym long) in
    (short, (subst (λ (text : List ℕ). IsBegun text b.size b.kept (place_of feed) (given_of feed)) same is, subst (λ (text : List ℕ). AwaitsMore text feed) same more))

module _ {C K R : Type 0} (gives : C → ℕ → C → Type 0) (p : Place) (known : Option (List ℕ)) (remaining : R → Option (List ℕ)) (feed : Feed R) (clock clock' : C) (k : Ghosts K) where
  pub steps_in : (keeper keeper' : K) (s : State) (head block : List ℕ) (len : ℕ) (result : Stepped (Option Begun)) → take len block ≡ head → take len head ≡ head → IfWaits (HasHeadOf len) result
      → StepsTo gives p known remaining feed clock clock' k keeper keeper' s (ReadsOn remaining known feed head) result → StepsTo gives p known remaining feed clock clock' k keeper keeper' s (ReadsOn remaining known feed block) result
  steps_in keeper keeper' s head block len (stepped.Done x) at all long steps = steps
  steps_in keeper keeper' s head block len (stepped.Waits begun) at all long (r, w) = (read_in remaining known feed head block len begun at all long r, w)

  -- after calls that left the state unchanged and did not give up
  pub steps_later : {T : Type 0} (waiting : T → Type 0) (a b c : K) (s : State) (result : Stepped T) → Before k a b s
      → StepsTo gives p known remaining feed clock clock' k b c s waiting result → StepsTo gives p known remaining feed clock clock' k a c s waiting result
  steps_later waiting a b c s (stepped.Done x) before steps = by_after gives p known (left remaining feed) (remaining (reader_of feed).inner) clock clock' k a b c s x before steps
  steps_later waiting a b c s (stepped.Waits t) before (r, w) =
      (r, record { told = w.told; left = w.left; held = before_held k a b c s before w.held; lasts = through_after before.adds w.lasts })

-- a text that was copied is at the front of the block
pub copied_front : (text block behind : List ℕ) → block ≡ text ++ behind → take (length text) block ≡ text
copied_front text block behind is = ap (take (length text)) is ∙ take-append_seam text behind

-- a step that gave up after an earlier call gave up over both
pub given_up_later : {K T : Type 0} (k : Ghosts K) (a b c : K) (result : Stepped T) → k.faults a ≤ k.faults b → HasGivenUp k b c result → HasGivenUp k a c result
given_up_later k a b c (stepped.Done x) least gives = gives_up_later k a b c x least gives
given_up_later k a b c (stepped.Waits t) least gives = gives

-- a feed read some bytes, and then all others that it may read
pub all_after : {R T : Type 0} (remaining : R → Option (List ℕ)) (first here next : Feed R) (result : Stepped T) → HasSpent remaining first here → IfWaits (λ _. TakesAllIn remaining here next) result
    → IfWaits (λ _. TakesAllIn remaining first next) result
all_after remaining first here next (stepped.Done x) spent all = tt
all_after remaining first here next (stepped.Waits t) spent all = spent_then remaining first here next spent all
