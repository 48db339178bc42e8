-- A replay over a keeper.
use Rattle.std.proofs.Common.{◌≡◌, ◌≤◌, ℕ, List, length, map, Option, Some, Result, Ok, Err, arith, refl}
use Rattle.std.proofs.lemmas.List.{length-map}
use Rattle.std.proofs.lemmas.Option.{slice_get_within}
use Rattle.std.specs.Borrow.{Bor}
use Rattle.std.specs.Io.KnownBytes.{Keeps}
use Rattle.boxes.specs.State.{State}
use Rattle.boxes.specs.declared.keep.Keeper.{Ghosts}
use Rattle.office.specs.Premise.{IsLeft, WasKept}
use Rattle.office.specs.Replays.{InTurn, InTurnOver, TakesTurns, answers_in}
use Rattle.commands.specs.Asking.{connections}
use Rattle.commands.specs.Replaying.{ReplaysAll}
use Rattle.commands.specs.Working.{Lands, Passes, StandsAlone}
use Rattle.commands.proofs.Landing.{surviving, surviving_whole, through}
use Rattle.commands.proofs.Outputs.{appended_stays}

-- the same turns, where what was written stays
abbrev pub handed : (input mid output : Option (List ℕ)) {s after : State} {moment n faults : ℕ} → InTurn input mid s after moment n faults → Keeps mid output
    → InTurn input output s after moment n faults
handed input mid output turn keeps = record {
  connections = turn.connections;
  moments = turn.moments;
  each = turn.each;
  run = turn.run;
  written = appended_stays input mid output (answers_in turn.connections) turn.written keeps;
  many = turn.many;
  faulty = turn.faulty;
}

module _ {W K : Type 0} (k : Ghosts K) (old new : K) (s after : State) (contents : W → Option (List ℕ)) (first last out : W) (back : Option W) (moment n : ℕ) (Done : Type 0)
    (alone : StandsAlone k old s) (left : IsLeft (k.means new) after) (is_back : back ≡ Some out) (keeps : Keeps (contents last) (contents out)) where
  landed : (served faults : ℕ) → served ≤ n → InTurnOver k old new (contents first) (contents last) s after moment served faults → (Done → (served ≡ n) × (faults ≡ 0))
      → Lands k new s (ReplaysAll contents n moment Done first back)
  landed served faults bound it whole =
      let turn = it.turn in
      record {
        after = after;
        asked = connections s turn.connections turn.moments after turn.run;
        left = left;
        step = record {
          out = out;
          back = is_back;
          served = served;
          faults = faults;
          bound = bound;
          turn = handed (contents first) (contents last) (contents out) turn keeps;
          were_asked = refl;
          whole = whole;
        };
        crash = λ t at. record { left = surviving alone it.survives t at; lasts = λ none. through alone (it.lasts none) t at };
        whole = surviving_whole alone it.survives;
      }

  turned : (served : Result ℕ (Bor (List ℕ))) (streams : List (Bor (List ℕ))) → length streams ≡ n
      → TakesTurns (InTurnOver k old new (contents first) (contents last) s after moment) streams served → (Done → served ≡ Ok 0)
      → Lands k new s (ReplaysAll contents n moment Done first back)
  turned (Ok faults) streams many takes whole = landed (length streams) faults (omega (arith, many)) takes (λ done. (many, let same = whole done in cc))
  turned (Err name) streams many (served, faults, takes, at) whole =
      let within = slice_get_within (map (λ (t : Bor (List ℕ)). t.now) streams) served name.now at in
      landed served faults (omega (arith, within, length-map streams (λ (t : Bor (List ℕ)). t.now), many)) takes (λ done. absurd (let same = whole done in cc))

-- the turns of a replay, and its output as it is handed back
pub replayed : {W K : Type 0} {k : Ghosts K} {old new : K} (contents : W → Option (List ℕ)) (first last : W) (back : Option W) (moment : ℕ) (Done : Type 0) (served : Result ℕ (Bor (List ℕ))) (streams : List (Bor (List ℕ)))
    → (k.is_honest new → k.is_honest old) → (k.is_alone old → k.is_alone new)
    → ((s : State) → WasKept k old new s → (after : State) × IsLeft (k.means new) after × TakesTurns (InTurnOver k old new (contents first) (contents last) s after moment) streams served)
    → ((out : W) × (back ≡ Some out) × Keeps (contents last) (contents out)) → (Done → served ≡ Ok 0)
    → Passes k old new (ReplaysAll contents (length streams) moment Done first back)
replayed {k = k} {old = old} {new = new} contents first last back moment Done served streams honest ungrouped turns (out, is_back, keeps) whole = record {
  honest = honest;
  ungrouped = ungrouped;
  lands = λ s kept alone.
      let (after, left, takes) = turns s kept in
      turned k old new s after contents first last out back moment (length streams) Done alone left is_back keeps served streams refl takes whole;
}
