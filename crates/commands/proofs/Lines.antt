-- What a desk line comes to for a keeper.
use Rattle.std.proofs.Common.{◌≡◌, ◌⊎◌, ℕ, List, Option, Some, None, Result, Ok, Err, refl, inl, inr}
use Rattle.std.specs.Prelude.{OnErr}
use Rattle.boxes.specs.State.{State}
use Rattle.boxes.specs.declared.keep.Keeper.{Ghosts}
use Rattle.office.specs.declared.requests.commanding.DeskFault.{DeskFault}
use Rattle.office.specs.declared.requests.commanding.DeskFault.TheVariants as fault
use Rattle.office.specs.Crashes.{Endures, IsToldBy, UndoneLasts}
use Rattle.office.specs.DeskLines.{IsObeyedBy}
use Rattle.office.specs.Premise.{WasKept}
use Rattle.commands.specs.Asking.{Asked}
use Rattle.commands.specs.Asking as asking
use Rattle.commands.specs.Obeying.{IsGiven}
use Rattle.commands.specs.Working.{Passes, StandsAlone}
use Rattle.commands.proofs.Landing.{adding, is_left, lasting, lasting_whole, standing, standing_whole}

module _ (T : Type 0) {K : Type 0} (k : Ghosts K) (old new : K) (s : State) (alone : StandsAlone k old s) (More : State → Type 0) where
  undone : (e : DeskFault) → UndoneLasts {T = T} k old new s More (Err e) → (t : State) → k.leaves new t → (t ≡ s) ⊎ More t
  undone fault.Malformed adds t left = inl (standing alone adds t left)
  undone fault.NotPossible adds t left = inl (standing alone adds t left)
  undone (fault.Kept f) adds t left = adding alone adds t left

  undone_whole : (e : DeskFault) → UndoneLasts {T = T} k old new s More (Err e) → k.leaves_whole new
  undone_whole fault.Malformed adds = standing_whole alone adds
  undone_whole fault.NotPossible adds = standing_whole alone adds
  undone_whole (fault.Kept f) adds = adds.whole alone.whole

-- if less is called a success
pub given : (command : Option (List ℕ)) {Done Next : Type 0} → (Next → Done) → (s after : State) (asked : Asked) → IsGiven command Done s after asked → IsGiven command Next s after asked
given None so s after asked (none, same, fails) = (none, same, λ next. fails (so next))
given (Some text) so s after asked (inl done) = inl done
given (Some text) so s after asked (inr (is, same, fails)) = inr (is, same, λ next. fails (so next))

-- a line was given to an office
pub told : {T K : Type 0} (k : Ghosts K) (old new : K) (line : List ℕ) (r : Result T DeskFault) {Done : Type 0} → (k.is_honest new → k.is_honest old) → (k.is_alone old → k.is_alone new)
    → ((s : State) → WasKept k old new s → IsObeyedBy (Endures k old new s) s line r) → ((s : State) → k.means old s → OnErr r (k.means new s))
    → ((s : State) → WasKept k old new s → UndoneLasts k old new s (IsToldBy s line) r) → OnErr r (Done → ⊥) → Passes k old new (IsGiven (Some line) Done)
told k old new line (Ok x) honest ungrouped obeys same crash fails = record {
  honest = honest;
  ungrouped = ungrouped;
  lands = λ s kept alone.
      let (command, after, is, obeyed, left) = obeys s kept in
      record {
        after = after;
        asked = asking.nothing;
        left = record { means = left.means.meant; sound = left.sound };
        step = inl (refl, record { command = command; tells = is; obeyed = obeyed });
        crash = λ t at. is_left asking.nothing (lasting alone left.means.lasts t at);
        whole = lasting_whole alone left.means.lasts;
      };
}
told {T = T} k old new line (Err e) honest ungrouped obeys same crash fails = record {
  honest = honest;
  ungrouped = ungrouped;
  lands = λ s kept alone. record {
    after = s;
    asked = asking.line line;
    left = record { means = same s kept.means; sound = kept.sound };
    step = inr (refl, refl, fails);
    crash = λ t at. record { left = undone T k old new s alone (IsToldBy s line) e (crash s kept) t at; lasts = λ none. absurd none };
    whole = undone_whole T k old new s alone (IsToldBy s line) e (crash s kept);
  };
}
