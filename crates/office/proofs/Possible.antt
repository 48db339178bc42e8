-- A possible command has a step, and what was decided about it.
use Rattle.std.proofs.Common.{◌≡◌, false, Option, Some, None, Result, Ok, Err, ℕ, List, refl, ap, subst}
use Rattle.std.specs.Prelude.{◌≢◌, OnOk, IsSome, IsSomeAnd, is_err}
use Rattle.std.specs.FinMap.{get}
use Rattle.sigtext.specs.declared.refusal.Refusal.{Refusal}
use Rattle.boxes.specs.Changes.{IsObeyed}
use Rattle.boxes.specs.Commands.{HasForm}
use Rattle.boxes.specs.Deciding.{DecidesCommand}
use Rattle.boxes.specs.State.{State}
use Rattle.boxes.specs.Steps.{Command, AddKey, RevokeKey, AddBox, CloseBox, DropFile, LimitKey, SetAllowance, CommandStep, CanRevoke, IsPossible, key_added, key_revoked, box_added, box_closed, file_dropped, key_limited, allowance_set}
use Rattle.boxes.specs.declared.keep.KeepFault.TheVariants.{Full}
use Rattle.office.specs.declared.requests.commanding.DeskFault.{DeskFault}
use Rattle.office.specs.declared.requests.commanding.DeskFault.TheVariants as fault
use Rattle.office.specs.DeskLines.{IsObeyedBy, IsDeskLine}
use Rattle.office.specs.Premise.{IsLeft}

there : {A : Type 0} (o : Option A) → IsSome o → (x : A) × (o ≡ Some x)
there None h = absurd cc
there (Some x) h = (x, refl)

there_and : {A : Type 0} (P : A → Type 0) (o : Option A) → IsSomeAnd o P → (x : A) × (o ≡ Some x)
there_and P None h = absurd h
there_and P (Some x) h = (x, refl)

pub step_of : (s : State) (command : Command) → IsPossible s command → (after : State) × CommandStep s command after
step_of s (AddKey id role secret) possible = (_, key_added id role secret)
step_of s (RevokeKey id) possible = let k = there_and (CanRevoke s id) (get s.keys id) possible in (_, key_revoked id k.0 k.1)
step_of s (AddBox name settings) possible = (_, box_added name settings)
step_of s (CloseBox name moment) possible = let b = there (get s.boxes name) possible in (_, box_closed name moment b.0 b.1)
step_of s (DropFile place) possible = (_, file_dropped place)
step_of s (LimitKey id box) possible = (_, key_limited id box)
step_of s (SetAllowance seconds) possible = (_, allowance_set seconds)

-- there was no error
pub decided : {T : Type 0} (s : State) (command : Command) (result : Result T Refusal) → DecidesCommand s command result → is_err result ≡ false → IsPossible s command
decided s command (Ok done) possible none = possible
decided s command (Err q) refused none = absurd cc

pub obeys : (s : State) (command : Command) → HasForm command → IsPossible s command → (after : State) × IsObeyed s command after
obeys s command form possible = let x = step_of s command possible in (x.0, record { form = form; possible = possible; step = x.1 })

-- the result of the command that the line stands for
pub obeyed_by : {T : Type 0} (means : State → Type 0) (s : State) (line : List ℕ) (result : Result T DeskFault) (command : Command) → IsDeskLine line command
    → ((other : Command) → IsDeskLine line other → other ≡ command) → OnOk result ((after : State) × IsObeyed s command after × IsLeft means after)
    → (result ≡ Err fault.NotPossible → IsPossible s command → ⊥) → result ≢ Err fault.Malformed → result ≢ Err (fault.Kept Full) → IsObeyedBy means s line result
obeyed_by means s line (Ok x) command tells only done refused formed room = (command, done.0, tells, done.1, done.2)
obeyed_by means s line (Err fault.Malformed) command tells only done refused formed room = absurd (formed refl)
obeyed_by means s line (Err fault.NotPossible) command tells only done refused formed room =
    record { command = command; tells = tells; none = λ other told possible. refused refl (subst (IsPossible s) (only other told) possible) }
obeyed_by means s line (Err (fault.Kept f)) command tells only done refused formed room = λ full. room (ap (λ g. Err (fault.Kept g)) full)
