-- Connections that were served in order, and one more.
use Rattle.std.proofs.Common.{◌≡◌, ℕ, zero, suc, ◌+◌, ◌<◌, cond, List, [], ◌∷◌, ◌++◌, length, map, replicate, slice_index_or, Bor, Option, Some, Result, Ok, Err, refl, sym, ap, subst, ◌∙◌, append_assoc, arith}
use Rattle.std.proofs.KnownBytes.{Appends-nil, Appends-trans}
use Rattle.std.specs.Prelude.{slice_get}
use Rattle.std.proofs.lemmas.List.{append-nil, length-append}
use Rattle.std.specs.Io.KnownBytes.{Appends}
use Rattle.boxes.specs.State.{State}
use Rattle.boxes.specs.declared.keep.Keeper.{Ghosts}
use Rattle.wire.specs.declared.session.SessionEnd.{SessionEnd}
use Rattle.wire.specs.Ends.{is_fault}
use Rattle.office.specs.Connections.{TellsMoments, Serves}
use Rattle.office.specs.Premise.{IsLeft}
use Rattle.office.specs.Replays.{AreAll, InTurn, InTurnOver, TakesTurns, answers_in}
use Rattle.office.specs.Sessions.{Connection, most_messages}
use Rattle.office.proofs.Endurance.{still, survives_more, survives_same, then_survives}
use Rattle.office.proofs.RunSoFar.{MeansOne, count_more, lasts_more, none_lasts, none_opened, opened_more, run_more}

all_more : (moment : ℕ) (xs ys : List ℕ) → AreAll moment xs → AreAll moment ys → AreAll moment (xs ++ ys)
all_more moment [] ys a b = b
all_more moment (x ∷ xs) ys a b = (a.0, all_more moment xs ys a.1 b)

all_repeated : (moment n : ℕ) → AreAll moment (replicate n moment)
all_repeated moment zero = tt
all_repeated moment (suc n) = (refl, all_repeated moment n)

answers_more : (cs : List Connection) (c : Connection) → answers_in (cs ++ c ∷ []) ≡ answers_in cs ++ c.answers
answers_more [] c = append-nil c.answers
answers_more (d ∷ cs) c = ap (λ (t : List ℕ). d.answers ++ t) (answers_more cs c) ∙ sym (append_assoc d.answers (answers_in cs) c.answers)

-- none was served yet
pub no_turn : (output : Option (List ℕ)) (s : State) (moment : ℕ) → InTurn output output s s moment 0 0
no_turn output s moment = record {
  connections = [];
  moments = [];
  each = tt;
  run = (refl, refl);
  written = Appends-nil output;
  many = refl;
  faulty = refl;
}

-- one more was served
pub turn_more : {C K : Type 0} (gives : C → ℕ → C → Type 0) (output mid_output output' input input' : Option (List ℕ)) (clock clock' : C) (k : Ghosts K) (keeper keeper' : K) (s mid after : State)
    (moment n n' faults faults' : ℕ) (e : SessionEnd) → InTurn output mid_output s mid moment n faults
    → ((moments : List ℕ) (later : C) → TellsMoments gives clock moments later → moments ≡ replicate (length moments) moment)
    → Serves most_messages gives input input' mid_output output' clock clock' k keeper keeper' mid after e
    → n' ≡ n + 1 → faults' ≡ faults + cond (is_fault e) 1 0 → InTurn output output' s after moment n' faults'
turn_more gives output mid_output output' input input' clock clock' k keeper keeper' s mid after moment n n' faults faults' e t tells served more counted =
    let c : Connection = record { stream = served.stream; answers = served.answers; end = e; gave_up = served.gave_up } in
    let same : AreAll moment served.moments = subst (AreAll moment) (sym (tells served.moments clock' served.told)) (all_repeated moment (length served.moments)) in
    record {
      connections = t.connections ++ c ∷ [];
      moments = t.moments ++ served.moments;
      each = all_more moment t.moments served.moments t.each same;
      run = (run_more s mid after c t.connections t.moments served.moments t.run served.session).run;
      written = subst (Appends output output') (sym (answers_more t.connections c)) (Appends-trans output mid_output output' (answers_in t.connections) served.answers t.written served.written);
      many = length-append t.connections (c ∷ []) ∙ ap (λ k. k + 1) t.many ∙ sym more;
      faulty = counted ∙ ap (λ k. k + cond (is_fault e) 1 0) t.faulty ∙ sym (count_more t.connections c);
    }

-- none was served yet, over a keeper
pub none_over : {K : Type 0} (k : Ghosts K) (keeper : K) (output : Option (List ℕ)) (s : State) (moment : ℕ) → MeansOne k keeper → IsLeft (k.means keeper) s
    → InTurnOver k keeper keeper output output s s moment 0 0
unfolding no_turn
none_over k keeper output s moment one left = record { turn = no_turn output s moment; opened = none_opened k keeper s one left; lasts = none_lasts k keeper s; survives = survives_same still }

-- one more was served, over a keeper
pub over_more : {C K : Type 0} (gives : C → ℕ → C → Type 0) (output mid_output output' input input' : Option (List ℕ)) (clock clock' : C) (k : Ghosts K) (first keeper keeper' : K) (s mid after : State)
    (moment n n' faults faults' : ℕ) (e : SessionEnd) → MeansOne k keeper' → IsLeft (k.means keeper') after → InTurnOver k first keeper output mid_output s mid moment n faults
    → ((moments : List ℕ) (later : C) → TellsMoments gives clock moments later → moments ≡ replicate (length moments) moment)
    → Serves most_messages gives input input' mid_output output' clock clock' k keeper keeper' mid after e
    → n' ≡ n + 1 → faults' ≡ faults + cond (is_fault e) 1 0 → InTurnOver k first keeper' output output' s after moment n' faults'
unfolding turn_more
over_more gives output mid_output output' input input' clock clock' k first keeper keeper' s mid after moment n n' faults faults' e one left t tells served more counted =
    let c : Connection = record { stream = served.stream; answers = served.answers; end = e; gave_up = served.gave_up } in
    let x = run_more s mid after c t.turn.connections t.turn.moments served.moments t.turn.run served.session in
    record {
      turn = turn_more gives output mid_output output' input input' clock clock' k keeper keeper' s mid after moment n n' faults faults' e t.turn tells served more counted;
      opened = opened_more k t.turn.connections c first keeper keeper' mid after one left t.opened served.held.0;
      lasts = lasts_more k t.turn.connections c first keeper keeper' s mid after t.lasts served.lasts;
      survives = then_survives (survives_more x.earlier t.survives) (survives_more x.last served.survives);
    }

-- the turns, whatever the keeper does
pub turns_only : {K : Type 0} (k : Ghosts K) (keeper keeper' : K) (output output' : Option (List ℕ)) (s after : State) (moment : ℕ) (streams : List (Bor (List ℕ))) (result : Result ℕ (Bor (List ℕ)))
    → TakesTurns (InTurnOver k keeper keeper' output output' s after moment) streams result → TakesTurns (InTurn output output' s after moment) streams result
turns_only k keeper keeper' output output' s after moment streams (Ok faults) t = t.turn
turns_only k keeper keeper' output output' s after moment streams (Err name) t = (t.0, t.1, t.2.turn, t.3)

-- the name that a loop over names has reached
pub name_at : (xs : List (Bor (List ℕ))) (i : ℕ) (d : Bor (List ℕ)) → i < length xs → slice_get (map (λ t. t.now) xs) i ≡ Some (slice_index_or xs i d).now
name_at [] i d within = absurd (omega arith)
name_at (x ∷ xs) zero d within = refl
name_at (x ∷ xs) (suc i) d within = name_at xs i d (omega arith)
