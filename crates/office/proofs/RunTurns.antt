-- Connections that are served one after another are also served in turns.
use Rattle.std.proofs.Common.{◌≡◌, ◌<◌, ◌≤◌, ◌+◌, ℕ, suc, Bool, true, false, cond, List, [], ◌∷◌, ◌++◌, length, map, Option, None, Some, ⊎_elim, inl, inr, refl, sym, ap, subst, ◌∙◌, arith}
use Rattle.std.specs.Prelude.{nat_eq}
use Rattle.std.specs.List.{AllByRecursion}
use Rattle.std.proofs.lemmas.List.{append-nil}
use Rattle.boxes.specs.State.{State}
use Rattle.office.specs.Repeats.{Act, Acts, AreSessionActs, text_of}
use Rattle.office.specs.Repeats as act
use Rattle.office.specs.Sessions.{Connection, Run, most_messages}
use Rattle.wire.specs.declared.session.SessionEnd.{SessionEnd}
use Rattle.office.proofs.Repeats.{NoneAnswered, session_acts}
use Rattle.office.specs.Interleaved.{Turn, acts_in, moments_in, own_acts, own_moments, Thread, thread_of, Speaks, AnswersNone, AreSpoken, AreTied, Interleaved}
use Rattle.office.specs.Interleaved as said

-- the acts of a session are spoken
pub speaks_of : (n : ℕ) (stream : List ℕ) (s : State) (moments out : List ℕ) (e : SessionEnd) (gave_up : Bool) (acts : List Act) (after : State)
    → AreSessionActs n stream s moments out e gave_up acts after → Speaks n stream acts moments out (Some e) gave_up
speaks_of _ _ _ _ _ _ _ _ _ (act.over n stream s out e gave_up h) = said.over n stream s out e gave_up h
speaks_of _ _ _ _ _ _ _ _ _ (act.given_up n stream rest s r now out e next readable last) = said.given_up n stream rest r now out e next readable last
speaks_of _ _ _ _ _ _ _ _ _ (act.answered n stream rest s after a acts moments out e gave_up next is more) =
    said.answered n stream rest a acts moments out (Some e) gave_up next (speaks_of n rest a.after moments out e gave_up acts after more)
speaks_of _ _ _ _ _ _ _ _ _ (act.lost n stream rest s a front next is begins) = said.lost n stream rest a front next begins

-- the same if none of them is answered in full
pub none_whole : (n : ℕ) (stream : List ℕ) (s : State) (moments out : List ℕ) (e : SessionEnd) (gave_up : Bool) (acts : List Act) (after : State)
    → (x : AreSessionActs n stream s moments out e gave_up acts after) → NoneAnswered x → AnswersNone (speaks_of n stream s moments out e gave_up acts after x)
unfolding speaks_of
none_whole _ _ _ _ _ _ _ _ _ (act.over n stream s out e gave_up h) none = tt
none_whole _ _ _ _ _ _ _ _ _ (act.given_up n stream rest s r now out e next readable last) none = tt
none_whole _ _ _ _ _ _ _ _ _ (act.answered n stream rest s after a acts moments out e gave_up next is more) none = absurd none
none_whole _ _ _ _ _ _ _ _ _ (act.lost n stream rest s a front next is begins) none = tt

-- the acts were done at the moments that were told
pub tied_of : (n : ℕ) (stream : List ℕ) (acts : List Act) (moments out : List ℕ) (e : Option SessionEnd) (gave_up : Bool) → Speaks n stream acts moments out e gave_up → AreTied moments acts
tied_of _ _ _ _ _ _ _ (said.still_open n) = inl refl
tied_of _ _ _ _ _ _ _ (said.over n stream s out e gave_up h) = inl refl
tied_of _ _ _ _ _ _ _ (said.given_up n stream rest r now out e next readable last) = inr (now, refl)
tied_of _ _ _ _ _ _ _ (said.answered n stream rest a acts moments out e gave_up next more) =
    ⊎_elim
    (λ (h : moments ≡ map (λ (b : Act). b.now) acts). inl (ap (λ (l : List ℕ). a.now ∷ l) h))
    (λ (h : (moment : ℕ) × (moments ≡ map (λ (b : Act). b.now) acts ++ moment ∷ [])). inr (h.0, ap (λ (l : List ℕ). a.now ∷ l) h.1))
    (tied_of n rest acts moments out e gave_up more)
tied_of _ _ _ _ _ _ _ (said.lost n stream rest a front next begins) = inl refl

pub acts_joined : (s mid after : State) (first more : List Act) → Acts s first mid → Acts mid more after → Acts s (first ++ more) after
acts_joined s mid after [] more h k = subst (λ x. Acts x more after) h k
acts_joined s mid after (a ∷ first) more h k = (h.0, h.1, acts_joined a.after mid after first more h.2 k)

-- ---- one turn at the front

pub same_is : (i : ℕ) → nat_eq i i ≡ true
same_is i = grind arith

pub less_is_not : (i j : ℕ) → i < j → nat_eq i j ≡ false
less_is_not i j lt = grind (arith, lt)

-- turns of later connections only
abbrev Later : ℕ → ℕ → List Turn → Type 0
Later low high turns = AllByRecursion (λ t. (low ≤ t.which) × (t.which < high)) turns

none_own : (i high : ℕ) (turns : List Turn) → Later (suc i) high turns → (own_acts i turns ≡ []) × (own_moments i turns ≡ [])
none_own i high [] later = (refl, refl)
none_own i high (t ∷ ts) later =
    let other : nat_eq t.which i ≡ false = grind (arith, later.0.0) in
    let rest = none_own i high ts later.1 in (
      ap (λ b. cond b t.acts [] ++ own_acts i ts) other ∙ rest.0,
      ap (λ b. cond b t.moments [] ++ own_moments i ts) other ∙ rest.1,
    )

others_spoken : (t : Turn) (ts : List Turn) (j : ℕ) (cs : List Thread) → t.which < j → AreSpoken ts j cs → AreSpoken (t ∷ ts) j cs
others_spoken t ts j [] lt h = tt
others_spoken t ts j (c ∷ cs) lt h =
    let other = less_is_not t.which j lt in
    let acts : own_acts j (t ∷ ts) ≡ own_acts j ts = ap (λ b. cond b t.acts [] ++ own_acts j ts) other in
    let moments : own_moments j (t ∷ ts) ≡ own_moments j ts = ap (λ b. cond b t.moments [] ++ own_moments j ts) other in (
      subst (λ xs. Speaks most_messages c.stream xs (own_moments j (t ∷ ts)) c.answers c.end c.gave_up) (sym acts)
          (subst (λ xs. Speaks most_messages c.stream (own_acts j ts) xs c.answers c.end c.gave_up) (sym moments) h.0),
      others_spoken t ts (suc j) cs (omega arith) h.1,
    )

-- the turns of a run whose connections are numbered from i on
record HasTurns (s : State) (cs : List Connection) (moments : List ℕ) (after : State) (i : ℕ) : Type 0 where
  pub turns : List Turn
  pub order : Acts s (acts_in turns) after
  pub told : moments ≡ moments_in turns
  pub tied : AllByRecursion (λ t. AreTied t.moments t.acts) turns
  pub later : Later i (i + length cs) turns
  pub each : AreSpoken turns i (map thread_of cs)

later_more : (i high high' : ℕ) (turns : List Turn) → high ≡ high' → Later (suc i) high turns → Later i high' turns
later_more i high high' [] e h = tt
later_more i high high' (t ∷ ts) e h = ((omega (arith, h.0.0), omega (arith, h.0.1, e)), later_more i high high' ts e h.1)

run_turns : (s after : State) (cs : List Connection) (moments : List ℕ) (i : ℕ) → Run s cs moments after → HasTurns s cs moments after i
run_turns s after [] moments i h = record { turns = []; order = h.1; told = h.0; tied = tt; later = tt; each = tt }
run_turns s after (c ∷ cs) moments i (first, others, mid, joined, here, more) =
    let x = session_acts most_messages c.stream s first c.answers c.end c.gave_up mid here in
    let y = run_turns mid after cs others (suc i) more in
    let t : Turn = record { which = i; most = None; moments = first; acts = x.acts } in
    let none = none_own i (suc i + length cs) y.turns y.later in
    let acts : own_acts i (t ∷ y.turns) ≡ x.acts = ap (λ b. cond b x.acts [] ++ own_acts i y.turns) (same_is i) ∙ ap (λ (r : List Act). x.acts ++ r) none.0 ∙ append-nil x.acts in
    let moments_are : own_moments i (t ∷ y.turns) ≡ first = ap (λ b. cond b first [] ++ own_moments i y.turns) (same_is i) ∙ ap (λ (r : List ℕ). first ++ r) none.1 ∙ append-nil first in
    let spoken = speaks_of most_messages c.stream s first c.answers c.end c.gave_up x.acts mid x.are in
    record {
      turns = t ∷ y.turns;
      order = acts_joined s mid after x.acts (acts_in y.turns) x.by_rules y.order;
      told = joined ∙ ap (λ (r : List ℕ). first ++ r) y.told;
      tied = (tied_of most_messages c.stream x.acts first c.answers (Some c.end) c.gave_up spoken, y.tied);
      later = ((omega arith, omega arith), later_more i (suc i + length cs) (i + suc (length cs)) y.turns (omega arith) y.later);
      each = (
        subst (λ xs. Speaks most_messages c.stream xs (own_moments i (t ∷ y.turns)) c.answers (Some c.end) c.gave_up) (sym acts)
            (subst (λ xs. Speaks most_messages c.stream x.acts xs c.answers (Some c.end) c.gave_up) (sym moments_are) spoken),
        others_spoken t y.turns (suc i) (map thread_of cs) (omega arith) y.each,
      );
    }

within_all : (n m : ℕ) (turns : List Turn) → n ≡ m → Later 0 n turns → AllByRecursion (λ t. t.which < m) turns
within_all n m [] e h = tt
within_all n m (t ∷ ts) e h = (omega (arith, h.0.1, e), within_all n m ts e h.1)

many : (cs : List Connection) → length cs ≡ length (map thread_of cs)
many [] = refl
many (c ∷ cs) = ap suc (many cs)

pub run_interleaved : (s after : State) (cs : List Connection) (moments : List ℕ) → Run s cs moments after → Interleaved s (map thread_of cs) moments after
run_interleaved s after cs moments h =
    let x = run_turns s after cs moments 0 h in
    record {
      turns = x.turns;
      order = x.order;
      told = x.told;
      tied = x.tied;
      within = within_all (0 + length cs) (length (map thread_of cs)) x.turns (omega (arith, many cs)) x.later;
      each = x.each;
    }
