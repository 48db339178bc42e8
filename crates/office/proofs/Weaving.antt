-- The turns of connections so far, one more turn, one more connection, and the result in the end.
use Rattle.std.proofs.Common.{◌≡◌, ◌<◌, ◌≤◌, ◌+◌, ◌-◌, ◌⊎◌, ℕ, zero, suc, Bool, true, false, cond, List, [], ◌∷◌, ◌++◌, length, get_or, set, Option, Some, None, refl, sym, ap, subst, ◌∙◌, arith, inl, inr}
use Rattle.std.specs.Prelude.{nat_eq, ⊤}
use Rattle.std.specs.List.{AllByRecursion}
use Rattle.std.proofs.lemmas.List.{append-nil}
use Rattle.std.proofs.lemmas.List.Elements.{filter-append}
use Rattle.std.specs.Io.KnownBytes.{Appends, Keeps}
use Rattle.boxes.specs.declared.keep.Keeper.{Ghosts}
use Rattle.sigtext.specs.Counts.{Rose}
use Rattle.sigtext.specs.Request.{Request}
use Rattle.boxes.specs.State.{State}
use Rattle.wire.specs.Crowds.{GivenTurn}
use Rattle.wire.specs.Framing.{Next}
use Rattle.wire.specs.Framing as frame
use Rattle.office.specs.Connections.{Serves, TellsMoments}
use Rattle.office.specs.Crashes.{LastsThrough, Survives, never_changed}
use Rattle.office.specs.Interleaved.{AnswersNone, AreSpoken, AreTied, GaveUpWithin, GaveUpWithinMessages, HasGivenUp, HaveGivenUp, Interleaved, ReadOn, SpeakInTurns, Speaks, SpeaksInTurns, Thread, Turn, acts_in, moments_in, own_acts, own_moments, own_turns}
use Rattle.office.specs.Interleaved as said
use Rattle.office.specs.Premise.{HoldsUp}
use Rattle.office.specs.Repeats.{Act, Acts, text_of}
use Rattle.office.specs.Seats.{IsStreamOf}
use Rattle.office.specs.Sessions.{EndsAtOnce, GaveUpAt, HasBegunMessage, Session, most_messages}
use Rattle.office.specs.Sessions as session
use Rattle.office.specs.Stepping.{Goes}
use Rattle.wire.specs.declared.session.SessionEnd.{SessionEnd}
use Rattle.wire.specs.declared.session.SessionEnd.TheVariants.{ReadFault}
use Rattle.office.proofs.Counting.{Counts, counts_more, counts_still, counts_turn, over_if, took_of}
use Rattle.office.proofs.Endurance.{still, survives_more, survives_same, survives_through, then_survives, then_through}
use Rattle.office.proofs.Repeats.{last_acts, none_acted}
use Rattle.office.proofs.RunSoFar.{told_more}
use Rattle.office.proofs.SessionSteps.{few_moments}
use Rattle.office.proofs.Unstaged.{rose_before, rose_later}
use Rattle.office.proofs.RunTurns.{acts_joined, less_is_not, none_whole, same_is, speaks_of, tied_of}
use Rattle.office.proofs.Sitting.{IsLost, IsLostIn, Lost, Needs, Sitting, Sits, SitsSo, IsFirst, act_of, acts_more, moments_more, answered, answered_sits, closed, closed_sits, first_sits, gathered, gathered_sits, open_sits, sent_on, sent_sits, sits_open, reads_on, read_on_sits, reads_through}

-- ---- one more turn at the end

own_more : (i : ℕ) (turns : List Turn) (t : Turn) → own_turns i (turns ++ t ∷ []) ≡ own_turns i turns ++ cond (nat_eq t.which i) (t ∷ []) []
own_more i turns t = filter-append (λ (u : Turn). nat_eq u.which i) turns (t ∷ [])

own_same : (turns : List Turn) (t : Turn) (i : ℕ) → t.which ≡ i → own_turns i turns ++ t ∷ [] ≡ own_turns i (turns ++ t ∷ [])
own_same turns t i is =
    let hits : nat_eq t.which i ≡ true = subst (λ k. nat_eq t.which k ≡ true) is (same_is t.which) in
    sym (own_more i turns t ∙ ap (λ b. own_turns i turns ++ cond b (t ∷ []) []) hits)

own_other : (turns : List Turn) (t : Turn) (i : ℕ) → nat_eq t.which i ≡ false → own_turns i turns ≡ own_turns i (turns ++ t ∷ [])
own_other turns t i is = sym (own_more i turns t ∙ ap (λ b. own_turns i turns ++ cond b (t ∷ []) []) is ∙ append-nil (own_turns i turns))

within_more : (n : ℕ) (turns : List Turn) (t : Turn) → AllByRecursion (λ u. u.which < n) turns → t.which < n → AllByRecursion (λ u. u.which < n) (turns ++ t ∷ [])
within_more n [] t h lt = (lt, tt)
within_more n (u ∷ turns) t h lt = (h.0, within_more n turns t h.1 lt)

tied_more : (turns : List Turn) (t : Turn) → AllByRecursion (λ u. AreTied u.moments u.acts) turns → AreTied t.moments t.acts → AllByRecursion (λ u. AreTied u.moments u.acts) (turns ++ t ∷ [])
tied_more [] t h one = (one, tt)
tied_more (u ∷ turns) t h one = (h.0, tied_more turns t h.1 one)

-- ---- the connections

-- each connection, from number i on, is the result of its turns
abbrev pub AllSit : List Turn → ℕ → List Sitting → Type 0
AllSit turns i [] = ⊤
AllSit turns i (x ∷ xs) = Sits x (own_turns i turns) × AllSit turns (suc i) xs

sits_still : (turns : List Turn) (t : Turn) (i : ℕ) (x : Sitting) → nat_eq t.which i ≡ false → Sits x (own_turns i turns) → Sits x (own_turns i (turns ++ t ∷ []))
sits_still turns t i x other h = subst (Sits x) (own_other turns t i other) h

others_sit : (turns : List Turn) (t : Turn) (i : ℕ) (xs : List Sitting) → t.which < i → AllSit turns i xs → AllSit (turns ++ t ∷ []) i xs
others_sit turns t i [] lt h = tt
others_sit turns t i (x ∷ xs) lt h = (sits_still turns t i x (less_is_not t.which i lt) h.0, others_sit turns t (suc i) xs (omega arith) h.1)

one_turns : (turns : List Turn) (t : Turn) (i p : ℕ) (d new : Sitting) (xs : List Sitting) → t.which ≡ i + p → p < length xs
    → ((before : List Turn) → Sits (get_or xs p d) before → Sits new (before ++ t ∷ [])) → AllSit turns i xs → AllSit (turns ++ t ∷ []) i (set xs p new)
one_turns turns t i p d new [] is lt moves h = absurd (omega (arith, lt))
one_turns turns t i zero d new (x ∷ xs) is lt moves h =
    let here : t.which ≡ i = omega (arith, is) in
    (subst (Sits new) (own_same turns t i here) (moves (own_turns i turns) h.0), others_sit turns t (suc i) xs (omega (arith, here)) h.1)
one_turns turns t i (suc p) d new (x ∷ xs) is lt moves h =
    let other : nat_eq t.which i ≡ false = grind (arith, is) in
    (sits_still turns t i x other h.0, one_turns turns t (suc i) p d new xs (omega (arith, is)) (omega (arith, lt)) moves h.1)

-- one connection changes, and no turn is taken
one_changes : (turns : List Turn) (i p : ℕ) (d new : Sitting) (xs : List Sitting) → p < length xs
    → ((own : List Turn) → Sits (get_or xs p d) own → Sits new own) → AllSit turns i xs → AllSit turns i (set xs p new)
one_changes turns i p d new [] lt moves h = absurd (omega (arith, lt))
one_changes turns i zero d new (x ∷ xs) lt moves h = (moves (own_turns i turns) h.0, h.1)
one_changes turns i (suc p) d new (x ∷ xs) lt moves h = (h.0, one_changes turns (suc i) p d new xs (omega (arith, lt)) moves h.1)

-- what is known of an open connection
pub heard_at : (turns : List Turn) (i p : ℕ) (d : Sitting) (xs : List Sitting) → p < length xs → (get_or xs p d).end ≡ None → AllSit turns i xs → (get_or xs p d).gave_up ≡ false
heard_at turns i p d [] lt is h = absurd (omega (arith, lt))
heard_at turns i zero d (x ∷ xs) lt is h = (open_sits x (own_turns i turns) is h.0).marked
heard_at turns i (suc p) d (x ∷ xs) lt is h = heard_at turns (suc i) p d xs (omega (arith, lt)) is h.1

pub unlost_at : (turns : List Turn) (i p : ℕ) (d : Sitting) (xs : List Sitting) → p < length xs → (get_or xs p d).end ≡ None → AllSit turns i xs → (get_or xs p d).lost ≡ None
unlost_at turns i p d [] lt is h = absurd (omega (arith, lt))
unlost_at turns i zero d (x ∷ xs) lt is h = (open_sits x (own_turns i turns) is h.0).unlost
unlost_at turns i (suc p) d (x ∷ xs) lt is h = unlost_at turns (suc i) p d xs (omega (arith, lt)) is h.1

-- If a property holds for the old item and for all items after a change, it holds for all items before the
-- change and for the new item.
all_unset : (P : Sitting → Type 0) (xs : List Sitting) (p : ℕ) (d new : Sitting) → p < length xs → P (get_or xs p d) → AllByRecursion P (set xs p new) → AllByRecursion P xs × P new
all_unset P [] p d new lt had h = absurd (omega (arith, lt))
all_unset P (x ∷ xs) zero d new lt had h = ((had, h.1), h.0)
all_unset P (x ∷ xs) (suc p) d new lt had h = let rest = all_unset P xs p d new (omega (arith, lt)) had h.1 in ((h.0, rest.0), rest.1)

-- The same for a property that the old item has if the new one has it.
all_as : (P : Sitting → Type 0) (xs : List Sitting) (p : ℕ) (d new : Sitting) → p < length xs → (P new → P (get_or xs p d)) → AllByRecursion P (set xs p new) → AllByRecursion P xs
all_as P [] p d new lt so h = tt
all_as P (x ∷ xs) zero d new lt so h = (so h.0, h.1)
all_as P (x ∷ xs) (suc p) d new lt so h = (h.0, all_as P xs p d new (omega (arith, lt)) so h.1)

all_before : (P : Sitting → Type 0) (xs : List Sitting) (x : Sitting) → AllByRecursion P (xs ++ x ∷ []) → AllByRecursion P xs
all_before P [] x h = tt
all_before P (y ∷ xs) x h = (h.0, all_before P xs x h.1)

-- ---- the turns so far

some_end : (a b : SessionEnd) → Some a ≡ Some b → a ≡ b
some_end a b h = cc

abbrev pub NotGivenUp : Sitting → Type 0
NotGivenUp x = x.gave_up ≡ false

abbrev pub LastsAt : Sitting → Type 0
LastsAt x = (x.gave_up ≡ false) ⊎ (x.end ≡ Some ReadFault)

-- if the connection gave up at a failed read, the keeper's count rose
abbrev pub RoseAt : ℕ → ℕ → Sitting → Type 0
RoseAt before behind x = x.gave_up ≡ true → x.end ≡ Some ReadFault → Rose before behind

unmarked_rose : (before behind : ℕ) (x : Sitting) → x.gave_up ≡ false → RoseAt before behind x
unmarked_rose before behind x not is at_end = absurd cc

all_set : (P Q : Sitting → Type 0) → ((x : Sitting) → P x → Q x) → (xs : List Sitting) (p : ℕ) (new : Sitting) → AllByRecursion P xs → Q new → AllByRecursion Q (set xs p new)
all_set P Q so [] p new h one = tt
all_set P Q so (x ∷ xs) zero new h one = (one, all_so P Q so xs h.1)
  where
    all_so : (P Q : Sitting → Type 0) → ((x : Sitting) → P x → Q x) → (xs : List Sitting) → AllByRecursion P xs → AllByRecursion Q xs
    all_so P Q so [] h = tt
    all_so P Q so (x ∷ xs) h = (so x h.0, all_so P Q so xs h.1)
all_set P Q so (x ∷ xs) (suc p) new h one = (so x h.0, all_set P Q so xs p new h.1 one)

all_get : (P : Sitting → Type 0) (xs : List Sitting) (p : ℕ) (d : Sitting) → p < length xs → AllByRecursion P xs → P (get_or xs p d)
all_get P [] p d lt h = absurd (omega (arith, lt))
all_get P (x ∷ xs) zero d lt h = h.0
all_get P (x ∷ xs) (suc p) d lt h = all_get P xs p d (omega (arith, lt)) h.1

all_last_one : (P : Sitting → Type 0) (xs : List Sitting) (x : Sitting) → AllByRecursion P xs → P x → AllByRecursion P (xs ++ x ∷ [])
all_last_one P [] x h one = (one, tt)
all_last_one P (y ∷ xs) x h one = (h.0, all_last_one P xs x h.1 one)

held_least : {K : Type 0} (k : Ghosts K) (gave_up : Bool) (a b : K) → HoldsUp k gave_up a b → k.faults a ≤ k.faults b
held_least k true a b h = h
held_least k false a b h = omega (arith, h.0)

-- one of the connections gave up this request at this moment
abbrev pub AreLost : List Sitting → Request → ℕ → Type 0
AreLost [] r now = ⊥
AreLost (x ∷ xs) r now = IsLost x.lost r now ⊎ AreLost xs r now

lost_set : (xs : List Sitting) (p : ℕ) (d new : Sitting) (r : Request) (now : ℕ) → (IsLost (get_or xs p d).lost r now → IsLost new.lost r now) → AreLost xs r now → AreLost (set xs p new) r now
lost_set [] p d new r now so h = absurd h
lost_set (x ∷ xs) zero d new r now so (inl h) = inl (so h)
lost_set (x ∷ xs) zero d new r now so (inr h) = inr h
lost_set (x ∷ xs) (suc p) d new r now so (inl h) = inl h
lost_set (x ∷ xs) (suc p) d new r now so (inr h) = inr (lost_set xs p d new r now so h)

lost_here : (xs : List Sitting) (p : ℕ) (new : Sitting) (r : Request) (now : ℕ) → p < length xs → IsLost new.lost r now → AreLost (set xs p new) r now
lost_here [] p new r now lt h = absurd (omega (arith, lt))
lost_here (x ∷ xs) zero new r now lt h = inl h
lost_here (x ∷ xs) (suc p) new r now lt h = inr (lost_here xs p new r now (omega (arith, lt)) h)

lost_before : (xs : List Sitting) (x : Sitting) (r : Request) (now : ℕ) → AreLost xs r now → AreLost (xs ++ x ∷ []) r now
lost_before [] x r now h = absurd h
lost_before (y ∷ xs) x r now (inl h) = inl h
lost_before (y ∷ xs) x r now (inr h) = inr (lost_before xs x r now h)

-- the request that a session gave up in its first step
pub lost_of : {n : ℕ} {stream : List ℕ} {s : State} {moments out : List ℕ} {e : SessionEnd} {gave_up : Bool} {after : State} → Session n stream s moments out e gave_up after → Option Lost
lost_of (session.gave_up_at n stream rest s r now next readable) = Some (record { request = r; moment = now })
lost_of (session.write_failed_giving_up_at n stream rest s r now front next readable begins) = Some (record { request = r; moment = now })
lost_of _ = None

is_lost : {n : ℕ} {stream : List ℕ} {s : State} {moments out : List ℕ} {e : SessionEnd} {gave_up : Bool} {after : State}
    → (x : Session n stream s moments out e gave_up after) → EndsAtOnce x → (r : Request) (now : ℕ) → GaveUpAt x r now → IsLost (lost_of x) r now
unfolding lost_of
is_lost (session.served n stream rest s mid after r now moments text out e gave_up next answers more) once q told h = absurd once
is_lost (session.gave_up_at n stream rest s r now next readable) once q told h = h
is_lost (session.write_failed_giving_up_at n stream rest s r now front next readable begins) once q told h = h
is_lost _ once q told h = absurd h

-- it was given up in a turn
lost_in : {n : ℕ} {stream : List ℕ} {s : State} {moments out : List ℕ} {e : SessionEnd} {gave_up : Bool} {after : State}
    → (x : Session n stream s moments out e gave_up after) (t : Turn) → t.moments ≡ moments
    → (r : Request) (now : ℕ) → IsLost (lost_of x) r now → IsLostIn stream gave_up t r now
unfolding lost_of
lost_in (session.gave_up_at n stream rest s r now next readable) t told q at h = record {
  marked = refl;
  more = rest;
  message = subst (λ (z : Request). Next stream (frame.Message z) rest) (sym h.0) next;
  told = told ∙ ap (λ (m : ℕ). m ∷ []) (sym h.1);
}
lost_in (session.write_failed_giving_up_at n stream rest s r now front next readable begins) t told q at h = record {
  marked = refl;
  more = rest;
  message = subst (λ (z : Request). Next stream (frame.Message z) rest) (sym h.0) next;
  told = told ∙ ap (λ (m : ℕ). m ∷ []) (sym h.1);
}
lost_in _ t told q at h = absurd h

pub record SoFar {C K : Type 0} (gives : C → ℕ → C → Type 0) (k : Ghosts K) (sittings : List Sitting) (whose : List GivenTurn) (clock clock' : C) (keeper keeper' : K) (s mid : State) : Type 0 where
  pub turns : List Turn
  pub order : Acts s (acts_in turns) mid
  pub told : TellsMoments gives clock (moments_in turns) clock'
  pub tied : AllByRecursion (λ t. AreTied t.moments t.acts) turns
  pub within : AllByRecursion (λ t. t.which < length sittings) turns
  pub sit : AllSit turns 0 sittings
  pub counts : Counts turns sittings whose
  pub never_less : k.faults keeper ≤ k.faults keeper'
  pub rose : AllByRecursion (RoseAt (k.faults keeper) (k.faults keeper')) sittings
  pub held : AllByRecursion NotGivenUp sittings → HoldsUp k false keeper keeper'
  pub lasts : AllByRecursion LastsAt sittings → LastsThrough k keeper keeper' s mid
  pub survives : Survives k keeper keeper' (AreLost sittings) s mid

same_length : (n m : ℕ) (turns : List Turn) → n ≡ m → AllByRecursion (λ t. t.which < n) turns → AllByRecursion (λ t. t.which < m) turns
same_length n m [] e h = tt
same_length n m (t ∷ ts) e h = (omega (arith, h.0, e), same_length n m ts e h.1)

set_length : (xs : List Sitting) (p : ℕ) (new : Sitting) → length xs ≡ length (set xs p new)
set_length [] p new = refl
set_length (x ∷ xs) zero new = refl
set_length (x ∷ xs) (suc p) new = ap suc (set_length xs p new)

-- the acts and moments of a last turn
last_turn : (n : ℕ) (stream : List ℕ) (t : Turn) (acts : List Act) (moments out : List ℕ) (e : SessionEnd) (gave_up : Bool) → t.moments ≡ moments → t.acts ≡ acts
    → (x : Speaks n stream acts moments out (Some e) gave_up) → AnswersNone x → (last : Speaks n stream t.acts t.moments out (Some e) gave_up) × AnswersNone last
last_turn n stream t acts moments out e gave_up told acted x none =
    subst (λ l. (last : Speaks n stream l t.moments out (Some e) gave_up) × AnswersNone last) (sym acted)
    (subst (λ l. (last : Speaks n stream acts l out (Some e) gave_up) × AnswersNone last) (sym told) (x, none))

module _ {C K : Type 0} (gives : C → ℕ → C → Type 0) (k : Ghosts K) where
  -- a turn of one of the connections
  record Moves (most : Option ℕ) (x new : Sitting) (clock clock' : C) (keeper keeper' : K) (mid after : State) : Type 0 where
    pub acts : List Act
    pub moments : List ℕ
    pub told : TellsMoments gives clock moments clock'
    pub by_rules : Acts mid acts after
    pub moves : (t : Turn) → t.most ≡ most → t.moments ≡ moments → t.acts ≡ acts → (before : List Turn) → Sits x before → Sits new (before ++ t ∷ [])
    pub tied : AreTied moments acts
    pub one_moment : length moments ≤ 1
    pub took : took_of new ≡ took_of x + 1
    pub marked : x.gave_up ≡ false
    pub kept : (r : Request) (now : ℕ) → IsLost x.lost r now → IsLost new.lost r now
    pub never_less : k.faults keeper ≤ k.faults keeper'
    pub rose : RoseAt (k.faults keeper) (k.faults keeper') new
    pub held : new.gave_up ≡ false → HoldsUp k false keeper keeper'
    pub lasts : LastsAt new → LastsThrough k keeper keeper' mid after
    pub survives : Survives k keeper keeper' (IsLost new.lost) mid after

  holds_both : (a b c : K) → HoldsUp k false a b → HoldsUp k false b c → HoldsUp k false a c
  holds_both a b c x y = (y.0 ∙ x.0, λ was. y.1 (x.1 was))

  moves_more : {whose : List GivenTurn} (most : Option ℕ) (xs : List Sitting) (p : ℕ) (d new : Sitting) (clock clock' clock'' : C) (keeper keeper' keeper'' : K) (s mid after : State) → p < length xs
      → SoFar gives k xs whose clock clock' keeper keeper' s mid → Moves most (get_or xs p d) new clock' clock'' keeper' keeper'' mid after
      → SoFar gives k (set xs p new) (whose ++ record { whose = p; most = most } ∷ []) clock clock'' keeper keeper'' s after
  moves_more most xs p d new clock clock' clock'' keeper keeper' keeper'' s mid after lt f t =
      let u : Turn = record { which = p; most = most; moments = t.moments; acts = t.acts } in
      record {
        turns = f.turns ++ u ∷ [];
        order = subst (λ x. Acts s x after) (sym (acts_more f.turns u)) (acts_joined s mid after (acts_in f.turns) t.acts f.order t.by_rules);
        told = subst (λ x. TellsMoments gives clock x clock'') (sym (moments_more f.turns u)) (told_more gives clock clock' clock'' (moments_in f.turns) t.moments f.told t.told);
        tied = tied_more f.turns u f.tied t.tied;
        within = same_length (length xs) (length (set xs p new)) (f.turns ++ u ∷ []) (set_length xs p new) (within_more (length xs) f.turns u f.within lt);
        sit = one_turns f.turns u 0 p d new xs (omega arith) lt (t.moves u refl refl refl) f.sit;
        counts = counts_turn f.turns xs u d new lt t.one_moment t.took f.counts;
        never_less = omega (arith, f.never_less, t.never_less);
        rose = all_set (RoseAt (k.faults keeper) (k.faults keeper')) (RoseAt (k.faults keeper) (k.faults keeper'')) (λ x r is at_end. rose_before (k.faults keeper) (k.faults keeper') (k.faults keeper'') (r is at_end) t.never_less)
            xs p new f.rose (λ is at_end. rose_later (k.faults keeper) (k.faults keeper') (k.faults keeper'') f.never_less (t.rose is at_end));
        held = λ none. let both = all_unset NotGivenUp xs p d new lt t.marked none in holds_both keeper keeper' keeper'' (f.held both.0) (t.held both.1);
        lasts = λ all. let both = all_unset LastsAt xs p d new lt (inl t.marked) all in then_through (f.lasts both.0) (t.lasts both.1);
        survives = then_survives (survives_more (λ r now. lost_set xs p d new r now (t.kept r now)) f.survives) (survives_more (λ r now. lost_here xs p new r now lt) t.survives);
      }

  -- no connection came yet
  pub starts : (clock : C) (keeper : K) (s : State) → SoFar gives k [] [] clock clock keeper keeper s s
  starts clock keeper s = record {
    turns = [];
    order = refl;
    told = refl;
    tied = tt;
    within = tt;
    sit = tt;
    counts = record { in_order = refl; one_moment = tt; each = tt; all = refl };
    never_less = omega arith;
    rose = tt;
    held = λ _. (refl, λ was. was);
    lasts = λ _. never_changed refl still;
    survives = survives_same still;
  }

  module _ {whose : List GivenTurn} (xs : List Sitting) (clock clock' : C) (keeper keeper' : K) (s mid : State) (f : SoFar gives k xs whose clock clock' keeper keeper' s mid) where
    -- ---- one connection has a turn

    module _ (p : ℕ) (d x : Sitting) (lt : p < length xs) (at : get_or xs p d ≡ x) (is_open : x.end ≡ None) where
      unlost : x.lost ≡ None
      unlost = subst (λ (y : Sitting). y.lost ≡ None) at (unlost_at f.turns 0 p d xs lt (subst (λ (y : Sitting). y.end ≡ None) (sym at) is_open) f.sit)

      unmarked : x.gave_up ≡ false
      unmarked = subst (λ (y : Sitting). y.gave_up ≡ false) at (heard_at f.turns 0 p d xs lt (subst (λ (y : Sitting). y.end ≡ None) (sym at) is_open) f.sit)

      -- it reads on in its next message
      pub read_on_more : (left reader : Option (List ℕ)) (part : ℕ) (keeper'' : K) (most : ℕ) → Needs x.left x.part most part → Keeps x.left left → HoldsUp k false keeper' keeper'' → LastsThrough k keeper' keeper'' mid mid
          → SoFar gives k (set xs p (reads_on x left reader part)) (whose ++ record { whose = p; most = Some most } ∷ []) clock clock' keeper keeper'' s mid
      read_on_more left reader part keeper'' most needs keeps held lasts =
          moves_more (Some most) xs p d (reads_on x left reader part) clock clock' clock' keeper keeper' keeper'' s mid mid lt f
          (subst (λ (y : Sitting). Moves (Some most) y (reads_on x left reader part) clock' clock' keeper' keeper'' mid mid) (sym at) (record {
            acts = [];
            moments = [];
            told = refl;
            tied = inl refl;
            one_moment = omega arith;
            took = omega arith;
            by_rules = refl;
            moves = λ t bound told acted before h. sits_open (reads_on x left reader part) (before ++ t ∷ []) is_open
                (read_on_sits x left reader part t before most bound needs told acted keeps (open_sits x before is_open h));
            marked = unmarked;
            kept = λ r now h. h;
            never_less = held_least k false keeper' keeper'' held;
            rose = unmarked_rose (k.faults keeper') (k.faults keeper'') (reads_on x left reader part) unmarked;
            held = λ _. held;
            lasts = λ _. lasts;
            survives = survives_through lasts;
          }))

      -- its next message is answered
      pub answered_more : (most : Option ℕ) (left reader written : Option (List ℕ)) (part : ℕ) (clock'' : C) (keeper'' : K) (after : State) → x.served + 1 ≤ most_messages
          → Goes gives x.left left x.written written clock' clock'' k keeper' keeper'' mid after
          → SoFar gives k (set xs p (answered x left reader written part)) (whose ++ record { whose = p; most = most } ∷ []) clock clock'' keeper keeper'' s after
      unfolding act_of
      answered_more most left reader written part clock'' keeper'' after few g =
          moves_more most xs p d (answered x left reader written part) clock clock' clock'' keeper keeper' keeper'' s mid after lt f
          (subst (λ (y : Sitting). Moves most y (answered x left reader written part) clock' clock'' keeper' keeper'' mid after) (sym at) (record {
            acts = act_of x left reader written part clock' clock'' keeper' keeper'' mid after g ∷ [];
            moments = g.moment ∷ [];
            told = (clock'', g.told, refl);
            tied = inl refl;
            one_moment = omega arith;
            took = omega arith;
            by_rules = (refl, g.answers.replies, refl);
            moves = λ t bound told acted before h. sits_open (answered x left reader written part) (before ++ t ∷ []) is_open
                (answered_sits x left reader written part clock' clock'' keeper' keeper'' mid after g t told acted before few (open_sits x before is_open h));
            marked = unmarked;
            kept = λ r now h. h;
            never_less = held_least k false keeper' keeper'' g.held;
            rose = unmarked_rose (k.faults keeper') (k.faults keeper'') (answered x left reader written part) unmarked;
            held = λ _. g.held;
            lasts = λ _. g.lasts;
            survives = survives_through g.lasts;
          }))

      -- the connection ends
      pub closed_more : (most : Option ℕ) (left reader written : Option (List ℕ)) (part : ℕ) (clock'' : C) (keeper'' : K) (after : State) (n : ℕ) (e : SessionEnd) → n + x.served ≡ most_messages
          → (v : Serves n gives x.left reader x.written written clock' clock'' k keeper' keeper'' mid after e) → EndsAtOnce v.session → (v.gave_up ≡ true → HasBegunMessage v.stream)
          → SoFar gives k (set xs p (closed x left reader written part e v.gave_up (lost_of v.session))) (whose ++ record { whose = p; most = most } ∷ []) clock clock'' keeper keeper'' s after
      closed_more most left reader written part clock'' keeper'' after n e sum v once begun =
          let y = last_acts n v.stream mid v.moments v.answers e v.gave_up after v.session once in
          let speaks = speaks_of n v.stream mid v.moments v.answers e v.gave_up y.acts after y.are in
          let none = none_whole n v.stream mid v.moments v.answers e v.gave_up y.acts after y.are y.none in
          let new = closed x left reader written part e v.gave_up (lost_of v.session) in
          moves_more most xs p d new clock clock' clock'' keeper keeper' keeper'' s mid after lt f
          (subst (λ (z : Sitting). Moves most z new clock' clock'' keeper' keeper'' mid after) (sym at) (record {
            acts = y.acts;
            moments = v.moments;
            told = v.told;
            tied = tied_of n v.stream y.acts v.moments v.answers (Some e) v.gave_up speaks;
            one_moment = few_moments v.session once;
            took = let before : over_if x.end ≡ 0 = ap over_if is_open in omega (arith, before);
            by_rules = y.by_rules;
            moves = λ t bound told acted before h.
                let last = last_turn n v.stream t y.acts v.moments v.answers e v.gave_up told acted speaks none in
                closed_sits x left reader written part e v.gave_up (lost_of v.session) n v.stream v.answers t before sum v.read v.written last.0 last.1 (lost_in v.session t told)
                (λ given. acted ∙ none_acted n v.stream mid v.moments v.answers e v.gave_up after v.session once given) begun (open_sits x before is_open h);
            marked = unmarked;
            kept = λ r now h. absurd (subst (λ (o : Option Lost). IsLost o r now) unlost h);
            never_less = held_least k v.gave_up keeper' keeper'' v.held.0;
            rose = λ is at_end. v.held.1 is (some_end e ReadFault at_end);
            held = λ is. subst (λ b. HoldsUp k b keeper' keeper'') is v.held.0;
            lasts = λ at_end. v.lasts (ends_so at_end);
            survives = survives_more (is_lost v.session once) v.survives;
          }))
        where
          ends_so : LastsAt (closed x left reader written part e v.gave_up (lost_of v.session)) → (v.gave_up ≡ false) ⊎ (e ≡ ReadFault)
          ends_so (inl is) = inl is
          ends_so (inr is) = inr (some_end e ReadFault is)

      -- bytes of the connection are read ahead
      pub gathered_more : (left reader : Option (List ℕ)) → Keeps x.left left → SoFar gives k (set xs p (gathered x left reader)) whose clock clock' keeper keeper' s mid
      gathered_more left reader keeps = record {
        turns = f.turns;
        order = f.order;
        told = f.told;
        tied = f.tied;
        within = same_length (length xs) (length (set xs p (gathered x left reader))) f.turns (set_length xs p (gathered x left reader)) f.within;
        sit = one_changes f.turns 0 p d (gathered x left reader) xs lt
            (λ own h. sits_open (gathered x left reader) own is_open (gathered_sits x left reader own keeps (open_sits x own is_open (subst (λ (y : Sitting). Sits y own) at h)))) f.sit;
        counts = counts_still f.turns xs p d (gathered x left reader) lt (sym (ap took_of at)) f.counts;
        never_less = f.never_less;
        rose = all_set (RoseAt (k.faults keeper) (k.faults keeper')) (RoseAt (k.faults keeper) (k.faults keeper')) (λ y r. r) xs p (gathered x left reader) f.rose (unmarked_rose (k.faults keeper) (k.faults keeper') (gathered x left reader) unmarked);
        held = λ none. f.held (all_unset NotGivenUp xs p d (gathered x left reader) lt (subst NotGivenUp (sym at) unmarked) none).0;
        lasts = λ all. f.lasts (all_unset LastsAt xs p d (gathered x left reader) lt (subst LastsAt (sym at) (inl unmarked)) all).0;
        survives = survives_more (λ r now. lost_set xs p d (gathered x left reader) r now (subst (λ (y : Sitting). IsLost y.lost r now → IsLost x.lost r now) (sym at) (λ h. h))) f.survives;
      }

    -- waiting bytes of one of the connections are sent
    pub sent_more : (p : ℕ) (d : Sitting) (written : Option (List ℕ)) → p < length xs → Keeps (get_or xs p d).written written → SoFar gives k (set xs p (sent_on (get_or xs p d) written)) whose clock clock' keeper keeper' s mid
    sent_more p d written lt holds =
        let x = get_or xs p d in
        let y = sent_on x written in
        record {
          turns = f.turns;
          order = f.order;
          told = f.told;
          tied = f.tied;
          within = same_length (length xs) (length (set xs p y)) f.turns (set_length xs p y) f.within;
          sit = one_changes f.turns 0 p d y xs lt (λ own h. sent_sits x written own holds h) f.sit;
          counts = counts_still f.turns xs p d y lt refl f.counts;
          never_less = f.never_less;
          rose = all_set (RoseAt (k.faults keeper) (k.faults keeper')) (RoseAt (k.faults keeper) (k.faults keeper')) (λ z r. r) xs p y f.rose (all_get (RoseAt (k.faults keeper) (k.faults keeper')) xs p d lt f.rose);
          held = λ none. f.held (all_as NotGivenUp xs p d y lt (λ h. h) none);
          lasts = λ all. f.lasts (all_as LastsAt xs p d y lt (λ h. h) all);
          survives = survives_more (λ r now. lost_set xs p d y r now (λ h. h)) f.survives;
        }

    -- ---- one more connection

    none_own : (i n : ℕ) (turns : List Turn) → n ≤ i → AllByRecursion (λ t. t.which < n) turns → [] ≡ own_turns i turns
    none_own i n [] le h = refl
    none_own i n (t ∷ ts) le h =
        let other : nat_eq t.which i ≡ false = less_is_not t.which i (omega (arith, h.0, le)) in
        none_own i n ts le h.1 ∙ sym (ap (λ b. cond b (t ∷ own_turns i ts) (own_turns i ts)) other)

    sit_opens : (turns : List Turn) (i n : ℕ) (x : Sitting) (ys : List Sitting) → n ≤ i + length ys → AllByRecursion (λ t. t.which < n) turns → IsFirst x
        → AllSit turns i ys → AllSit turns i (ys ++ x ∷ [])
    sit_opens turns i n x [] le within new h =
        (subst (Sits x) (none_own i n turns (omega (arith, le)) within) (first_sits x new), tt)
    sit_opens turns i n x (y ∷ ys) le within new h = (h.0, sit_opens turns (suc i) n x ys (omega (arith, le)) within new h.1)

    within_longer : (n m : ℕ) (turns : List Turn) → n ≤ m → AllByRecursion (λ t. t.which < n) turns → AllByRecursion (λ t. t.which < m) turns
    within_longer n m [] le h = tt
    within_longer n m (t ∷ ts) le h = (omega (arith, h.0, le), within_longer n m ts le h.1)

    longer : (ys : List Sitting) (x : Sitting) → length ys ≤ length (ys ++ x ∷ [])
    longer [] x = omega arith
    longer (y ∷ ys) x = let rest = longer ys x in omega (arith, rest)

    -- A connection that comes between two turns is added to the list. Everything known of the others still
    -- holds.
    pub opens : (x : Sitting) → IsFirst x → SoFar gives k (xs ++ x ∷ []) whose clock clock' keeper keeper' s mid
    opens x new = record {
      turns = f.turns;
      order = f.order;
      told = f.told;
      tied = f.tied;
      within = within_longer (length xs) (length (xs ++ x ∷ [])) f.turns (longer xs x) f.within;
      sit = sit_opens f.turns 0 (length xs) x xs (omega arith) f.within new f.sit;
      counts = counts_more f.turns xs x f.within new f.counts;
      never_less = f.never_less;
      rose = all_last_one (RoseAt (k.faults keeper) (k.faults keeper')) xs x f.rose (unmarked_rose (k.faults keeper) (k.faults keeper') x new.marked);
      held = λ none. f.held (all_before NotGivenUp xs x none);
      lasts = λ all. f.lasts (all_before LastsAt xs x all);
      survives = survives_more (lost_before xs x) f.survives;
    }

-- ---- the end

-- the thread of one of the connections
pub record IsThreadOf (x : Sitting) (c : Thread) : Type 0 where
  pub end : c.end ≡ x.end
  pub marked : c.gave_up ≡ x.gave_up
  pub stream : IsStreamOf x.gave_up x.end x.input x.left x.reader c.stream
  pub answers : Appends x.output x.written c.answers

abbrev pub AreThreadsOf : List Sitting → List Thread → Type 0
AreThreadsOf [] [] = ⊤
AreThreadsOf (x ∷ xs) (c ∷ cs) = IsThreadOf x c × AreThreadsOf xs cs
AreThreadsOf xs cs = ⊥

-- what is spoken turn by turn is spoken as a whole
spoken_of : (n : ℕ) (stream : List ℕ) (turns : List Turn) (out : List ℕ) (e : Option SessionEnd) (gave_up : Bool) → SpeaksInTurns n stream turns out e gave_up
    → Speaks n stream (acts_in turns) (moments_in turns) out e gave_up
spoken_of _ _ _ _ _ _ (said.no_more n) = said.still_open n
spoken_of _ _ _ _ _ _ (said.goes_on n stream rest t a turns out e gave_up told acted next more) =
    subst (λ l. Speaks (suc n) stream (l ++ acts_in turns) (t.moments ++ moments_in turns) (text_of a ++ out) e gave_up) (sym acted)
    (subst (λ l. Speaks (suc n) stream (a ∷ acts_in turns) (l ++ moments_in turns) (text_of a ++ out) e gave_up) (sym told)
    (said.answered n stream rest a (acts_in turns) (moments_in turns) out e gave_up next (spoken_of n rest turns out e gave_up more)))
spoken_of _ _ _ _ _ _ (said.reads_on n stream t turns out e gave_up told acted more) =
    subst (λ l. Speaks n stream (l ++ acts_in turns) (t.moments ++ moments_in turns) out e gave_up) (sym acted)
    (subst (λ l. Speaks n stream (acts_in turns) (l ++ moments_in turns) out e gave_up) (sym told) (spoken_of n stream turns out e gave_up more))
spoken_of _ _ _ _ _ _ (said.ends n stream t out e gave_up last none) =
    subst (λ l. Speaks n stream l (t.moments ++ []) out (Some e) gave_up) (sym (append-nil t.acts))
    (subst (λ l. Speaks n stream t.acts l out (Some e) gave_up) (sym (append-nil t.moments)) last)

own_are : (i : ℕ) (turns : List Turn) → (acts_in (own_turns i turns) ≡ own_acts i turns) × (moments_in (own_turns i turns) ≡ own_moments i turns)
own_are i [] = (refl, refl)
own_are i (t ∷ ts) = let rest = own_are i ts in (acts_too (nat_eq t.which i) rest.0, told_too (nat_eq t.which i) rest.1)
  where
    acts_too : (b : Bool) → acts_in (own_turns i ts) ≡ own_acts i ts → acts_in (cond b (t ∷ own_turns i ts) (own_turns i ts)) ≡ cond b t.acts [] ++ own_acts i ts
    acts_too true h = ap (λ (l : List Act). t.acts ++ l) h
    acts_too false h = h

    told_too : (b : Bool) → moments_in (own_turns i ts) ≡ own_moments i ts → moments_in (cond b (t ∷ own_turns i ts) (own_turns i ts)) ≡ cond b t.moments [] ++ own_moments i ts
    told_too true h = ap (λ (l : List ℕ). t.moments ++ l) h
    told_too false h = h

own_speaks : (i : ℕ) (turns : List Turn) (c : Thread) → SpeaksInTurns most_messages c.stream (own_turns i turns) c.answers c.end c.gave_up
    → Speaks most_messages c.stream (own_acts i turns) (own_moments i turns) c.answers c.end c.gave_up
own_speaks i turns c h =
    let same = own_are i turns in
    subst (λ l. Speaks most_messages c.stream l (own_moments i turns) c.answers c.end c.gave_up) same.0
    (subst (λ l. Speaks most_messages c.stream (acts_in (own_turns i turns)) l c.answers c.end c.gave_up) same.1
    (spoken_of most_messages c.stream (own_turns i turns) c.answers c.end c.gave_up h))

record HasThread (x : Sitting) (own : List Turn) : Type 0 where
  pub thread : Thread
  pub is : IsThreadOf x thread
  pub speaks : SpeaksInTurns most_messages thread.stream own thread.answers thread.end thread.gave_up
  pub lost : (r : Request) (now : ℕ) → IsLost x.lost r now → HasGivenUp thread.stream thread.gave_up (acts_in own) (moments_in own) r now
  pub begun : GaveUpWithin thread.stream thread.gave_up (acts_in own)
  pub read_on : ReadOn thread.end x.input own

speaks_marked : (n : ℕ) (stream : List ℕ) (own : List Turn) (out : List ℕ) (e e' : Option SessionEnd) (g g' : Bool) → e ≡ e' → g ≡ g' → SpeaksInTurns n stream own out e g → SpeaksInTurns n stream own out e' g'
speaks_marked n stream own out e e' g g' ee eg h = subst (λ z. SpeaksInTurns n stream own out z g') ee (subst (SpeaksInTurns n stream own out e) eg h)

thread_at : (x : Sitting) (own : List Turn) (e : Option SessionEnd) → x.end ≡ e → SitsSo e x own → HasThread x own
thread_at x own None is h =
    let all = h.follows (most_messages - x.served) most_messages [] [] [] None false (omega (arith, h.few)) (said.no_more (most_messages - x.served)) in
    record {
      thread = record { stream = h.front; answers = h.text; end = x.end; gave_up = x.gave_up };
      is = record {
        end = refl;
        marked = refl;
        stream = subst (λ e. IsStreamOf x.gave_up e x.input x.left x.reader h.front) (sym is) h.taken;
        answers = h.written_to;
      };
      speaks = speaks_marked most_messages h.front own h.text None x.end false x.gave_up (sym is) (sym h.marked)
          (subst (λ z. SpeaksInTurns most_messages z own h.text None false) (append-nil h.front)
          (subst (λ z. SpeaksInTurns most_messages (h.front ++ []) z h.text None false) (append-nil own)
          (subst (λ z. SpeaksInTurns most_messages (h.front ++ []) (own ++ []) z None false) (append-nil h.text) all)));
      lost = λ r now is_lost. absurd (subst (λ (o : Option Lost). IsLost o r now) h.unlost is_lost);
      begun = λ given. let marked = h.marked in absurd (cc (marked, given));
      read_on = subst (λ e. ReadOn e x.input own) (sym is) (reads_through x own h);
    }
thread_at x own (Some e) is h = record {
  thread = record { stream = h.stream; answers = h.answers; end = x.end; gave_up = x.gave_up };
  is = record {
    end = refl;
    marked = refl;
    stream = subst (λ o. IsStreamOf x.gave_up o x.input x.left x.reader h.stream) (sym is) h.read;
    answers = h.written_to;
  };
  speaks = speaks_marked most_messages h.stream own h.answers (Some e) x.end x.gave_up x.gave_up (sym is) refl h.speaks;
  lost = h.lost;
  begun = h.begun;
  read_on = subst (λ o. ReadOn o x.input own) (sym is) h.read_on;
}

-- the same over all turns
own_lost : (i : ℕ) (turns : List Turn) (c : Thread) (r : Request) (now : ℕ) → HasGivenUp c.stream c.gave_up (acts_in (own_turns i turns)) (moments_in (own_turns i turns)) r now
    → HasGivenUp c.stream c.gave_up (own_acts i turns) (own_moments i turns) r now
own_lost i turns c r now h =
    let same = own_are i turns in
    subst (λ l. HasGivenUp c.stream c.gave_up l (own_moments i turns) r now) same.0 (subst (λ l. HasGivenUp c.stream c.gave_up (acts_in (own_turns i turns)) l r now) same.1 h)

-- the turns of each connection, from number i on, that only read on
abbrev pub AllReadOn : List Turn → ℕ → List Sitting → List Thread → Type 0
AllReadOn turns i [] [] = ⊤
AllReadOn turns i (x ∷ xs) (c ∷ cs) = ReadOn c.end x.input (own_turns i turns) × AllReadOn turns (suc i) xs cs
AllReadOn turns i xs cs = ⊥

record HasThreads (turns : List Turn) (i : ℕ) (xs : List Sitting) : Type 0 where
  pub threads : List Thread
  pub are : AreThreadsOf xs threads
  pub by_turns : SpeakInTurns turns i threads
  pub spoken : AreSpoken turns i threads
  pub lost : (r : Request) (now : ℕ) → AreLost xs r now → HaveGivenUp turns i threads r now
  pub begun : GaveUpWithinMessages turns i threads
  pub read_on : AllReadOn turns i xs threads
  pub many : length threads ≡ length xs

all_threads : (turns : List Turn) (i : ℕ) (xs : List Sitting) → AllSit turns i xs → HasThreads turns i xs
all_threads turns i [] h = record { threads = []; are = tt; by_turns = tt; spoken = tt; lost = λ r now none. none; begun = tt; read_on = tt; many = refl }
all_threads turns i (x ∷ xs) h =
    let c = thread_at x (own_turns i turns) x.end refl h.0 in
    let cs = all_threads turns (suc i) xs h.1 in
    record {
      threads = c.thread ∷ cs.threads;
      are = (c.is, cs.are);
      by_turns = (c.speaks, cs.by_turns);
      spoken = (own_speaks i turns c.thread c.speaks, cs.spoken);
      lost = λ r now.
          either (IsLost x.lost r now) (AreLost xs r now) (HasGivenUp c.thread.stream c.thread.gave_up (own_acts i turns) (own_moments i turns) r now) (HaveGivenUp turns (suc i) cs.threads r now)
          (λ is. own_lost i turns c.thread r now (c.lost r now is)) (cs.lost r now);
      begun = (subst (GaveUpWithin c.thread.stream c.thread.gave_up) (own_are i turns).0 c.begun, cs.begun);
      read_on = (c.read_on, cs.read_on);
      many = ap suc cs.many;
    }
  where
    either : (A B C D : Type 0) → (A → C) → (B → D) → A ⊎ B → C ⊎ D
    either A B C D f g (inl a) = inl (f a)
    either A B C D f g (inr b) = inr (g b)

-- The connections were served in turns, by one order of all their messages.
pub record Woven {C : Type 0} (gives : C → ℕ → C → Type 0) (xs : List Sitting) (whose : List GivenTurn) (clock clock' : C) (s mid : State) : Type 0 where
  pub threads : List Thread
  pub moments : List ℕ
  pub are : AreThreadsOf xs threads
  pub many : length threads ≡ length xs
  pub told : TellsMoments gives clock moments clock'
  pub run : Interleaved s threads moments mid
  pub by_turns : SpeakInTurns run.turns 0 threads
  pub counts : Counts run.turns xs whose
  pub lost : (r : Request) (now : ℕ) → AreLost xs r now → HaveGivenUp run.turns 0 threads r now
  pub begun : GaveUpWithinMessages run.turns 0 threads
  pub read_on : AllReadOn run.turns 0 xs threads

pub finishes : {C K : Type 0} {whose : List GivenTurn} (gives : C → ℕ → C → Type 0) (k : Ghosts K) (xs : List Sitting) (clock clock' : C) (keeper keeper' : K) (s mid : State)
    → SoFar gives k xs whose clock clock' keeper keeper' s mid → Woven gives xs whose clock clock' s mid
finishes gives k xs clock clock' keeper keeper' s mid f =
    let x = all_threads f.turns 0 xs f.sit in
    record {
      threads = x.threads;
      moments = moments_in f.turns;
      are = x.are;
      many = x.many;
      told = f.told;
      run = record { turns = f.turns; order = f.order; told = refl; tied = f.tied; within = same_length (length xs) (length x.threads) f.turns (sym x.many) f.within; each = x.spoken };
      by_turns = x.by_turns;
      counts = f.counts;
      lost = x.lost;
      begun = x.begun;
      read_on = x.read_on;
    }

-- ---- properties of all threads are properties of all connections

pub none_gave_up : (xs : List Sitting) (cs : List Thread) → AreThreadsOf xs cs → AllByRecursion (λ (c : Thread). c.gave_up ≡ false) cs → AllByRecursion NotGivenUp xs
none_gave_up [] [] are h = tt
none_gave_up [] (c ∷ cs) are h = absurd are
none_gave_up (x ∷ xs) [] are h = absurd are
none_gave_up (x ∷ xs) (c ∷ cs) are h = (sym are.0.marked ∙ h.0, none_gave_up xs cs are.1 h.1)

pub threads_rose : (before behind : ℕ) (xs : List Sitting) (cs : List Thread) → AreThreadsOf xs cs → AllByRecursion (RoseAt before behind) xs
    → AllByRecursion (λ (c : Thread). c.gave_up ≡ true → c.end ≡ Some ReadFault → Rose before behind) cs
threads_rose before behind [] [] are h = tt
threads_rose before behind [] (c ∷ cs) are h = absurd are
threads_rose before behind (x ∷ xs) [] are h = absurd are
threads_rose before behind (x ∷ xs) (c ∷ cs) are h = (λ is at_end. h.0 (sym are.0.marked ∙ is) (sym are.0.end ∙ at_end), threads_rose before behind xs cs are.1 h.1)

pub all_last : (xs : List Sitting) (cs : List Thread) → AreThreadsOf xs cs → AllByRecursion (λ (c : Thread). (c.gave_up ≡ false) ⊎ (c.end ≡ Some ReadFault)) cs → AllByRecursion LastsAt xs
all_last [] [] are h = tt
all_last [] (c ∷ cs) are h = absurd are
all_last (x ∷ xs) [] are h = absurd are
all_last (x ∷ xs) (c ∷ cs) are h = (one x c are.0 h.0, all_last xs cs are.1 h.1)
  where
    one : (x : Sitting) (c : Thread) → IsThreadOf x c → (c.gave_up ≡ false) ⊎ (c.end ≡ Some ReadFault) → LastsAt x
    one x c is (inl none) = inl (sym is.marked ∙ none)
    one x c is (inr read) = inr (sym is.end ∙ read)
