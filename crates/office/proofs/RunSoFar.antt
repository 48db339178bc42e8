-- A run so far, and one more connection.
use Rattle.std.proofs.Common.{◌≡◌, ◌⊎◌, inl, inr, ℕ, suc, Bool, true, false, ◌+◌, ◌<◌, ◌≤◌, cond, List, [], ◌∷◌, ◌++◌, length, take, drop, set, get_or, Option, refl, sym, ap, subst, ◌∙◌, append_assoc, arith}
use Rattle.std.specs.List.{AllByRecursion, count_by, sum_by}
use Rattle.std.specs.Io.KnownBytes.{Appends}
use Rattle.std.proofs.lemmas.List.{append-nil, take_more_set, drop_more, drop-set-lt, take_all}
use Rattle.std.proofs.lemmas.List.Sums.{sum_by-append}
use Rattle.std.proofs.Math.Seq.{take-suc}
use Rattle.sigtext.specs.Request.{Request}
use Rattle.boxes.specs.State.{State}
use Rattle.boxes.specs.declared.keep.Keeper.{Ghosts}
use Rattle.wire.specs.declared.counted.Counted.{Counted}
use Rattle.wire.specs.declared.session.SessionEnd.{SessionEnd}
use Rattle.wire.specs.declared.session.SessionEnd.TheVariants.{ReadFault}
use Rattle.wire.specs.Ends.{is_fault}
use Rattle.office.specs.Connections.{TellsMoments, IsStream, Serves, TellsFaults, HoldsUpOver, HoldsUpTo, LastsOverAll, StaysOpen, AreServed, Runs}
use Rattle.office.specs.Crashes.{LastsThrough, never_changed}
use Rattle.office.specs.Premise.{HoldsUp, IsLeft}
use Rattle.office.specs.Sessions.{GaveUpAt, GaveUpIn, Session, Connection, Run, most_messages}
use Rattle.office.proofs.Endurance.{still, survives_more, survives_same, then_survives, then_through}
use Rattle.office.proofs.Repeats.{runs_act_once}
use Rattle.office.proofs.Without.{runs_without}

-- ---- one more at the end of each part

pub told_more : {C : Type 0} (gives : C → ℕ → C → Type 0) (c d e : C) (moments more : List ℕ) → TellsMoments gives c moments d → TellsMoments gives d more e → TellsMoments gives c (moments ++ more) e
told_more gives c d e [] more t u = subst (λ x. TellsMoments gives x more e) (sym t) u
told_more gives c d e (m ∷ moments) more t u = (t.0, t.1, told_more gives t.0 d e moments more t.2 u)

served_more : {R W : Type 0} (remaining : R → Option (List ℕ)) (contents : W → Option (List ℕ)) (old new : Counted R × Counted W) (c : Connection) (olds news : List (Counted R × Counted W)) (cs : List Connection)
    → AreServed remaining contents olds news cs → IsStream c.gave_up c.end (remaining old.0.inner) (remaining new.0.inner) c.stream → Appends (contents old.1.inner) (contents new.1.inner) c.answers → TellsFaults c.end old.0 new.0 old.1 new.1
    → AreServed remaining contents (olds ++ old ∷ []) (news ++ new ∷ []) (cs ++ c ∷ [])
served_more remaining contents old new c [] [] [] h read written risen = (read, written, risen, tt)
served_more remaining contents old new c [] [] (d ∷ cs) h read written risen = absurd h
served_more remaining contents old new c [] (y ∷ news) cs h read written risen = absurd h
served_more remaining contents old new c (x ∷ olds) [] cs h read written risen = absurd h
served_more remaining contents old new c (x ∷ olds) (y ∷ news) [] h read written risen = absurd h
served_more remaining contents old new c (x ∷ olds) (y ∷ news) (d ∷ cs) h read written risen = (h.0, h.1, h.2, served_more remaining contents old new c olds news cs h.3 read written risen)

-- A run with one more connection. What was given up before and what this connection gave up was given up in
-- it.
pub record RunsMore (s after : State) (cs : List Connection) (c : Connection) (moments more : List ℕ) (before here : Request → ℕ → Type 0) : Type 0 where
  pub run : Run s (cs ++ c ∷ []) (moments ++ more) after
  pub earlier : (r : Request) (now : ℕ) → before r now → GaveUpIn s (cs ++ c ∷ []) (moments ++ more) after run r now
  pub last : (r : Request) (now : ℕ) → here r now → GaveUpIn s (cs ++ c ∷ []) (moments ++ more) after run r now

pub run_more : (s mid after : State) (c : Connection) (cs : List Connection) (moments more : List ℕ) (h : Run s cs moments mid) (session : Session most_messages c.stream mid more c.answers c.end c.gave_up after)
    → RunsMore s after cs c moments more (GaveUpIn s cs moments mid h) (GaveUpAt session)
run_more s mid after c [] moments more h session =
    let moved : (x : Session most_messages c.stream s more c.answers c.end c.gave_up after) × ((r : Request) (now : ℕ) → GaveUpAt session r now → GaveUpAt x r now) =
    subst (λ z. (x : Session most_messages c.stream z more c.answers c.end c.gave_up after) × ((r : Request) (now : ℕ) → GaveUpAt session r now → GaveUpAt x r now)) h.1 (session, λ r now given. given) in
    record {
      run = (more, [], after, ap (λ (t : List ℕ). t ++ more) h.0 ∙ sym (append-nil more), moved.0, (refl, refl));
      earlier = λ r now none. absurd none;
      last = λ r now given. inl (moved.1 r now given);
    }
run_more s mid after c (d ∷ cs) moments more h session =
    let x = run_more h.2 mid after c cs h.1 more h.5 session in
    record {
      run = (h.0, h.1 ++ more, h.2, ap (λ (t : List ℕ). t ++ more) h.3 ∙ append_assoc h.0 h.1 more, h.4, x.run);
      earlier = λ r now given. second (GaveUpAt h.4 r now) (GaveUpIn h.2 cs h.1 mid h.5 r now) (GaveUpIn h.2 (cs ++ c ∷ []) (h.1 ++ more) after x.run r now) (x.earlier r now) given;
      last = λ r now given. inr (x.last r now given);
    }
  where
    second : (A B C : Type 0) → (B → C) → A ⊎ B → A ⊎ C
    second A B C f (inl a) = inl a
    second A B C f (inr b) = inr (f b)

pub count_more : (cs : List Connection) (c : Connection) → count_by (λ d. is_fault d.end) (cs ++ c ∷ []) ≡ count_by (λ d. is_fault d.end) cs + cond (is_fault c.end) 1 0
count_more cs c =
    let one : sum_by (λ d. cond (is_fault d.end) 1 0) (c ∷ []) ≡ cond (is_fault c.end) 1 0 = omega arith in
    sum_by-append (λ d. cond (is_fault d.end) 1 0) cs (c ∷ []) ∙ ap (λ n. count_by (λ d. is_fault d.end) cs + n) one

held_more : {K : Type 0} (k : Ghosts K) (cs : List Connection) (c : Connection) (first mid last : K) → HoldsUpOver k cs first mid → HoldsUpTo k c.gave_up c.end mid last → HoldsUpOver k (cs ++ c ∷ []) first last
held_more k [] c first mid last same held = (last, subst (λ n. HoldsUpTo k c.gave_up c.end n last) same held, refl)
held_more k (d ∷ cs) c first mid last h held = (h.0, h.1, held_more k cs c h.0 mid last h.2 held)

all_more : (P : Connection → Type 0) (cs : List Connection) (c : Connection) → AllByRecursion P (cs ++ c ∷ []) → AllByRecursion P cs × P c
all_more P [] c all = (tt, all.0)
all_more P (d ∷ cs) c all = let more = all_more P cs c all.1 in ((all.0, more.0), more.1)

held_open : {K : Type 0} (k : Ghosts K) (gave_up : Bool) (old new : K) → gave_up ≡ false → HoldsUp k gave_up old new → k.is_open old → k.is_open new
held_open k true old new is held = absurd cc
held_open k false old new is held = held.1

-- an open keeper means only one state
abbrev pub MeansOne : {K : Type 0} → Ghosts K → K → Type 0
MeansOne k keeper = (s t : State) → k.is_open keeper → k.means keeper s → k.means keeper t → s ≡ t

-- no connection came
pub none_opened : {K : Type 0} (k : Ghosts K) (keeper : K) (s : State) → MeansOne k keeper → IsLeft (k.means keeper) s → StaysOpen k [] keeper keeper s
none_opened k keeper s one left none was = (was, λ t means. one t s was means left.means)

pub opened_more : {K : Type 0} (k : Ghosts K) (cs : List Connection) (c : Connection) (first mid last : K) (before after : State) → MeansOne k last → IsLeft (k.means last) after
    → StaysOpen k cs first mid before → HoldsUp k c.gave_up mid last → StaysOpen k (cs ++ c ∷ []) first last after
opened_more k cs c first mid last before after one left opened held none was =
    let both = all_more (λ d. d.gave_up ≡ false) cs c none in
    let now = held_open k c.gave_up mid last both.1 held (opened both.0 was).0 in
    (now, λ t means. one t after now means left.means)

-- no connection came
pub none_lasts : {K : Type 0} (k : Ghosts K) (keeper : K) (s : State) → LastsOverAll k [] keeper keeper s s
none_lasts k keeper s all = never_changed refl still

pub lasts_more : {K : Type 0} (k : Ghosts K) (cs : List Connection) (c : Connection) (first mid last : K) (s before after : State) → LastsOverAll k cs first mid s before
    → ((c.gave_up ≡ false) ⊎ (c.end ≡ ReadFault) → LastsThrough k mid last before after) → LastsOverAll k (cs ++ c ∷ []) first last s after
lasts_more k cs c first mid last s before after earlier here all =
    let both = all_more (λ d. (d.gave_up ≡ false) ⊎ (d.end ≡ ReadFault)) cs c all in then_through (earlier both.0) (here both.1)

runs_more : {C R W K : Type 0} (gives : C → ℕ → C → Type 0) (remaining : R → Option (List ℕ)) (contents : W → Option (List ℕ)) (first clock clock' : C) (olds news : List (Counted R × Counted W)) (old new : Counted R × Counted W)
    (k : Ghosts K) (keeper keeper' keeper'' : K) (s mid after : State) (faults faults' : ℕ) (e : SessionEnd) → MeansOne k keeper'' → IsLeft (k.means keeper'') after → Runs gives remaining contents first clock olds news k keeper keeper' s mid faults
    → Serves most_messages gives (remaining old.0.inner) (remaining new.0.inner) (contents old.1.inner) (contents new.1.inner) clock clock' k keeper' keeper'' mid after e → TellsFaults e old.0 new.0 old.1 new.1 → faults' ≡ faults + cond (is_fault e) 1 0
    → Runs gives remaining contents first clock' (olds ++ old ∷ []) (news ++ new ∷ []) k keeper keeper'' s after faults'
runs_more gives remaining contents first clock clock' olds news old new k keeper keeper' keeper'' s mid after faults faults' e one left r served risen counted =
    let c : Connection = record { stream = served.stream; answers = served.answers; end = e; gave_up = served.gave_up } in
    let x = run_more s mid after c r.connections r.moments served.moments r.run served.session in
    record {
      connections = r.connections ++ c ∷ [];
      moments = r.moments ++ served.moments;
      told = told_more gives first clock clock' r.moments served.moments r.told served.told;
      served = served_more remaining contents old new c olds news r.connections r.served served.read served.written risen;
      held = held_more k r.connections c keeper keeper' keeper'' r.held served.held;
      opened = opened_more k r.connections c keeper keeper' keeper'' mid after one left r.opened served.held.0;
      run = x.run;
      lasts = lasts_more k r.connections c keeper keeper' keeper'' s mid after r.lasts served.lasts;
      survives = then_survives (survives_more x.earlier r.survives) (survives_more x.last served.survives);
      without = runs_without s after (r.connections ++ c ∷ []) (r.moments ++ served.moments) x.run;
      repeats = runs_act_once s after (r.connections ++ c ∷ []) (r.moments ++ served.moments) x.run;
      faulty = counted ∙ ap (λ n. n + cond (is_fault e) 1 0) r.faulty ∙ sym (count_more r.connections c);
    }

-- ---- the connections below an index

-- the state now, and the run of the connections below the index
pub record SoFar {C R W K : Type 0} (gives : C → ℕ → C → Type 0) (remaining : R → Option (List ℕ)) (contents : W → Option (List ℕ)) (first clock : C)
    (old now : List (Counted R × Counted W)) (i : ℕ) (k : Ghosts K) (keeper keeper' : K) (s : State) (faults : ℕ) : Type 0 where
  pub state : State
  pub same : IsLeft (k.means keeper') state
  pub runs : Runs gives remaining contents first clock (take i old) (take i now) k keeper keeper' s state faults

pub starts : {C R W K : Type 0} (gives : C → ℕ → C → Type 0) (remaining : R → Option (List ℕ)) (contents : W → Option (List ℕ)) (clock : C) (old : List (Counted R × Counted W)) (k : Ghosts K) (keeper : K) (s : State)
    → MeansOne k keeper → IsLeft (k.means keeper) s → SoFar gives remaining contents clock clock old old 0 k keeper keeper s 0
starts gives remaining contents clock old k keeper s one same = record {
  state = s;
  same = same;
  runs = record { connections = []; moments = []; told = refl; served = tt; held = refl; opened = none_opened k keeper s one same; run = (refl, refl); lasts = none_lasts k keeper s; survives = survives_same still; without = runs_without s s [] [] (refl, refl); repeats = runs_act_once s s [] [] (refl, refl); faulty = refl };
}

-- at the end of the list
pub finishes : {C R W K : Type 0} (gives : C → ℕ → C → Type 0) (remaining : R → Option (List ℕ)) (contents : W → Option (List ℕ)) (first clock : C)
    (old now : List (Counted R × Counted W)) (i : ℕ) (k : Ghosts K) (keeper keeper' : K) (s : State) (faults : ℕ) → length old ≤ i → length now ≤ i → SoFar gives remaining contents first clock old now i k keeper keeper' s faults
    → (after : State) × IsLeft (k.means keeper') after × Runs gives remaining contents first clock old now k keeper keeper' s after faults
finishes gives remaining contents first clock old now i k keeper keeper' s faults all all' f = (
  f.state,
  f.same,
  subst (λ xs. Runs gives remaining contents first clock xs now k keeper keeper' s f.state faults) (take_all i old all)
      (subst (λ xs. Runs gives remaining contents first clock (take i old) xs k keeper keeper' s f.state faults) (take_all i now all') f.runs),
)

-- the connection at the index is as it was at first
pub as_at_first : {X : Type 0} (old now : List X) (i : ℕ) (d : X) → i < length old → i < length now → drop i now ≡ drop i old → (get_or now i d ≡ get_or old i d) × (drop (i + 1) now ≡ drop (i + 1) old)
as_at_first old now i d lt lt' same =
    let both = sym (drop_more now i d lt') ∙ same ∙ drop_more old i d lt in
    (heads (get_or now i d) (get_or old i d) (drop (i + 1) now) (drop (i + 1) old) both, tails (get_or now i d) (get_or old i d) (drop (i + 1) now) (drop (i + 1) old) both)
  where
    heads : {X : Type 0} (x y : X) (xs ys : List X) → x ∷ xs ≡ y ∷ ys → x ≡ y
    heads x y xs ys e = cc

    tails : {X : Type 0} (x y : X) (xs ys : List X) → x ∷ xs ≡ y ∷ ys → xs ≡ ys
    tails x y xs ys e = cc

-- the others are unchanged
pub others_stay : {X : Type 0} (old now : List X) (i : ℕ) (d new : X) → i < length old → i < length now → drop i now ≡ drop i old → drop (i + 1) (set now i new) ≡ drop (i + 1) old
others_stay old now i d new lt lt' same = drop-set-lt (i + 1) now i new (omega arith) ∙ (as_at_first old now i d lt lt' same).1

pub goes_on : {C R W K : Type 0} (gives : C → ℕ → C → Type 0) (remaining : R → Option (List ℕ)) (contents : W → Option (List ℕ)) (first clock clock' : C)
    (old now : List (Counted R × Counted W)) (i : ℕ) (k : Ghosts K) (keeper keeper' keeper'' : K) (s : State) (faults faults' : ℕ) (d new : Counted R × Counted W) (e : SessionEnd)
    → i < length old → i < length now → drop i now ≡ drop i old
    → MeansOne k keeper'' → ((mid : State) → IsLeft (k.means keeper') mid
    → (after : State) × IsLeft (k.means keeper'') after × Serves most_messages gives (remaining (get_or now i d).0.inner) (remaining new.0.inner) (contents (get_or now i d).1.inner) (contents new.1.inner) clock clock' k keeper' keeper'' mid after e)
    → TellsFaults e (get_or now i d).0 new.0 (get_or now i d).1 new.1 → faults' ≡ faults + cond (is_fault e) 1 0
    → SoFar gives remaining contents first clock old now i k keeper keeper' s faults → SoFar gives remaining contents first clock' old (set now i new) (i + 1) k keeper keeper'' s faults'
goes_on gives remaining contents first clock clock' old now i k keeper keeper' keeper'' s faults faults' d new e lt lt' rest one serves risen counted f =
    let item = get_or now i d in
    let first_is : item ≡ get_or old i d = (as_at_first old now i d lt lt' rest).0 in
    let h = serves f.state f.same in
    let more = runs_more gives remaining contents first clock clock' (take i old) (take i now) item new k keeper keeper' keeper'' s f.state h.0 faults faults' e one h.1 f.runs h.2 risen counted in
    let before : take (i + 1) old ≡ take i old ++ item ∷ [] = take_one_more old i d lt ∙ ap (λ c. take i old ++ c ∷ []) (sym first_is) in
    record {
      state = h.0;
      same = h.1;
      runs = subst (λ xs. Runs gives remaining contents first clock' xs (take (i + 1) (set now i new)) k keeper keeper'' s h.0 faults') (sym before)
          (subst (λ xs. Runs gives remaining contents first clock' (take i old ++ item ∷ []) xs k keeper keeper'' s h.0 faults') (sym (take_more_set now i new lt')) more);
    }
  where
    take_one_more : {X : Type 0} (xs : List X) (i : ℕ) (d : X) → i < length xs → take (i + 1) xs ≡ take i xs ++ get_or xs i d ∷ []
    take_one_more xs i d lt = let one : i + 1 ≡ suc i = omega arith in ap (λ n. take n xs) one ∙ take-suc xs i d lt
