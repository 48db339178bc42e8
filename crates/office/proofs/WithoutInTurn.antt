-- Connections that were served in turns were also served in turns without what was answered with refusal 40.
use Rattle.std.proofs.Common.{◌≡◌, ◌<◌, ◌≤◌, ◌⊎◌, ℕ, suc, Bool, true, false, cond, List, [], ◌∷◌, ◌++◌, length, map, Option, Some, inl, inr, refl, sym, ap, subst, ◌∙◌, append_assoc, arith}
use Rattle.std.specs.Prelude.{nat_eq}
use Rattle.std.specs.List.{AllByRecursion}
use Rattle.boxes.specs.State.{State}
use Rattle.wire.specs.Framing.{Next}
use Rattle.wire.specs.Framing as frame
use Rattle.office.specs.Interleaved.{Turn, acts_in, moments_in, own_acts, own_moments, Thread, Speaks, AreSpoken, AreTied, Interleaved}
use Rattle.office.specs.Interleaved as said
use Rattle.office.specs.Repeats.{Act, Acts, text_of}
use Rattle.office.specs.Sessions.{Session, most_messages}
use Rattle.office.specs.Sessions as session
use Rattle.office.specs.WithoutTryAgain.{GivesUp, IsGivenUpBy}
use Rattle.office.specs.WithoutTryAgain as without
use Rattle.office.specs.WithoutTurns.{AreCut, InterleavedWithout, IsThreadCut}
use Rattle.wire.specs.declared.session.SessionEnd.{SessionEnd}
use Rattle.wire.specs.declared.session.SessionEnd.TheVariants.{Ended}
use Rattle.office.proofs.Without.{message_text, session_cut}

-- ---- moments are those of acts, unless a message was given up

abbrev nows : List Act → List ℕ
nows acts = map (λ (a : Act). a.now) acts

spoken_at : (n : ℕ) (stream : List ℕ) (acts : List Act) (moments out : List ℕ) (e : Option SessionEnd) → Speaks n stream acts moments out e false → moments ≡ nows acts
spoken_at _ _ _ _ _ _ (said.still_open n) = refl
spoken_at _ _ _ _ _ _ (said.over n stream s out e gave_up h) = refl
spoken_at _ _ _ _ _ _ (said.answered n stream rest a acts moments out e gave_up next more) = ap (λ (t : List ℕ). a.now ∷ t) (spoken_at n rest acts moments out e more)
spoken_at _ _ _ _ _ _ (said.lost n stream rest a front next begins) = refl

-- a turn without the moment of a message that was given up
abbrev only_acts : List Turn → List Turn
only_acts [] = []
only_acts (t ∷ ts) = record t { moments = nows t.acts } ∷ only_acts ts

nows_joined : (a b : List Act) → nows (a ++ b) ≡ nows a ++ nows b
nows_joined [] b = refl
nows_joined (x ∷ a) b = ap (λ (t : List ℕ). x.now ∷ t) (nows_joined a b)

nows_if : (b : Bool) (acts : List Act) → cond b (nows acts) [] ≡ nows (cond b acts [])
nows_if true acts = refl
nows_if false acts = refl

tied_acts : (turns : List Turn) → AllByRecursion (λ t. AreTied t.moments t.acts) (only_acts turns)
tied_acts [] = tt
tied_acts (t ∷ ts) = (inl refl, tied_acts ts)

same_acts : (turns : List Turn) → acts_in (only_acts turns) ≡ acts_in turns
same_acts [] = refl
same_acts (t ∷ ts) = ap (λ (x : List Act). t.acts ++ x) (same_acts ts)

same_own : (i : ℕ) (turns : List Turn) → own_acts i (only_acts turns) ≡ own_acts i turns
same_own i [] = refl
same_own i (t ∷ ts) = ap (λ (x : List Act). cond (nat_eq t.which i) t.acts [] ++ x) (same_own i ts)

own_nows : (i : ℕ) (turns : List Turn) → own_moments i (only_acts turns) ≡ nows (own_acts i turns)
own_nows i [] = refl
own_nows i (t ∷ ts) =
    ap (λ (x : List ℕ). cond (nat_eq t.which i) (nows t.acts) [] ++ x) (own_nows i ts)
    ∙ ap (λ (x : List ℕ). x ++ nows (own_acts i ts)) (nows_if (nat_eq t.which i) t.acts)
    ∙ sym (nows_joined (cond (nat_eq t.which i) t.acts []) (own_acts i ts))

within_acts : (n m : ℕ) (turns : List Turn) → n ≡ m → AllByRecursion (λ t. t.which < n) turns → AllByRecursion (λ t. t.which < m) (only_acts turns)
within_acts n m [] e h = tt
within_acts n m (t ∷ ts) e h = (omega (arith, h.0, e), within_acts n m ts e h.1)

-- ---- a connection that gave up

record IsSpokenCut (n : ℕ) (stream : List ℕ) (acts : List Act) (moments out : List ℕ) (e : SessionEnd) : Type 0 where
  pub front : List ℕ
  pub rest : List ℕ
  pub told : List ℕ
  pub others : List ℕ
  pub written : List ℕ
  pub last : List ℕ
  pub stream_is : stream ≡ front ++ rest
  pub gives_up : GivesUp front rest others
  pub later : n < most_messages → (read : List ℕ) → GivesUp read rest others
  pub taken : moments ≡ told ++ others
  pub answers_are : out ≡ written ++ last
  pub refused : IsGivenUpBy last e
  pub before : Speaks n front acts told written (Some Ended) false

none_first : (a b : List ℕ) → [] ≡ a ++ b → a ≡ []
none_first [] b e = refl
none_first (x ∷ a) b e = absurd cc

spoken_cut : (s : State) (n : ℕ) (stream : List ℕ) (acts : List Act) (moments out : List ℕ) (e : SessionEnd) → n ≤ most_messages → Speaks n stream acts moments out (Some e) true → IsSpokenCut n stream acts moments out e
spoken_cut s _ _ _ _ _ _ most (said.over n stream t out e _ h) =
    let c = session_cut n stream t [] out e t most h in
    record {
      front = c.front;
      rest = c.rest;
      told = c.told;
      others = c.others;
      written = c.written;
      last = c.last;
      stream_is = c.stream_is;
      gives_up = c.gives_up;
      later = c.later;
      taken = c.taken;
      answers_are = c.answers_are;
      refused = c.refused;
      before = subst (λ (m : List ℕ). Speaks n c.front [] m c.written (Some Ended) false) (sym (none_first c.told c.others c.taken))
          (said.over n c.front t c.written Ended false (subst (λ (m : List ℕ). Session n c.front t m c.written Ended false t) (none_first c.told c.others c.taken) c.before));
    }
spoken_cut s _ _ _ _ _ _ most (said.given_up n stream rest r now out e next readable last) = record {
  front = [];
  rest = stream;
  told = [];
  others = now ∷ [];
  written = [];
  last = out;
  stream_is = refl;
  gives_up = without.at_message r now rest next readable;
  later = λ _ _. without.at_message r now rest next readable;
  taken = refl;
  answers_are = refl;
  refused = inl last;
  before = said.over (suc n) [] s [] Ended false (session.ended n [] s (frame.ended refl));
}
spoken_cut s _ _ _ _ _ e most (said.answered n stream rest a acts moments out _ _ next more) =
    let m = message_text stream rest a.request next in
    let lt : n < most_messages = omega (arith, most) in
    let c = spoken_cut s n rest acts moments out e (omega (arith, lt)) more in
    record {
      front = m.text ++ c.front;
      rest = c.rest;
      told = a.now ∷ c.told;
      others = c.others;
      written = text_of a ++ c.written;
      last = c.last;
      stream_is = m.joined ∙ ap (λ (t : List ℕ). m.text ++ t) c.stream_is ∙ sym (append_assoc m.text c.front c.rest);
      gives_up = c.later lt (m.text ++ c.front);
      later = λ _. c.later lt;
      taken = ap (λ (t : List ℕ). a.now ∷ t) c.taken;
      answers_are = ap (λ (t : List ℕ). text_of a ++ t) c.answers_are ∙ sym (append_assoc (text_of a) c.written c.last);
      refused = c.refused;
      before = said.answered n (m.text ++ c.front) c.front a acts c.told c.written (Some Ended) false (m.stands c.front) c.before;
    }

-- ---- the connections

-- a connection that gave up has ended
gave_up_ended : (n : ℕ) (stream : List ℕ) (acts : List Act) (moments out : List ℕ) (e : Option SessionEnd) → Speaks n stream acts moments out e true → (x : SessionEnd) × (e ≡ Some x)
gave_up_ended _ _ _ _ _ _ (said.over n stream s out e _ h) = (e, refl)
gave_up_ended _ _ _ _ _ _ (said.given_up n stream rest r now out e next readable last) = (e, refl)
gave_up_ended _ _ _ _ _ _ (said.answered n stream rest a acts moments out e _ next more) = gave_up_ended n rest acts moments out e more

record HasOther (turns : List Turn) (i : ℕ) (c : Thread) : Type 0 where
  pub other : Thread
  pub spoken : Speaks most_messages other.stream (own_acts i (only_acts turns)) (own_moments i (only_acts turns)) other.answers other.end other.gave_up
  pub is : ((c.gave_up ≡ false) × (other ≡ c) × (own_moments i (only_acts turns) ≡ own_moments i turns)) ⊎ IsThreadCut c other (own_moments i turns) (own_moments i (only_acts turns))

module _ (s : State) (turns : List Turn) (i : ℕ) where
  -- the same acts, at their moments
  at_nows : (stream out told : List ℕ) (e : Option SessionEnd) → told ≡ nows (own_acts i turns) → Speaks most_messages stream (own_acts i turns) told out e false
      → Speaks most_messages stream (own_acts i (only_acts turns)) (own_moments i (only_acts turns)) out e false
  at_nows stream out told e is h =
      subst (λ (x : List Act). Speaks most_messages stream x (own_moments i (only_acts turns)) out e false) (sym (same_own i turns))
      (subst (λ (m : List ℕ). Speaks most_messages stream (own_acts i turns) m out e false) (is ∙ sym (own_nows i turns)) h)

  other_of : (c : Thread) (gave_up : Bool) → c.gave_up ≡ gave_up → Speaks most_messages c.stream (own_acts i turns) (own_moments i turns) c.answers c.end gave_up → HasOther turns i c
  other_of c false is h =
      let told = spoken_at most_messages c.stream (own_acts i turns) (own_moments i turns) c.answers c.end h in
      record {
        other = c;
        spoken = subst (λ b. Speaks most_messages c.stream (own_acts i (only_acts turns)) (own_moments i (only_acts turns)) c.answers c.end b) (sym is) (at_nows c.stream c.answers (own_moments i turns) c.end told h);
        is = inl (is, refl, own_nows i turns ∙ sym told);
      }
  other_of c true is h =
      let ended = gave_up_ended most_messages c.stream (own_acts i turns) (own_moments i turns) c.answers c.end h in
      let k = spoken_cut s most_messages c.stream (own_acts i turns) (own_moments i turns) c.answers ended.0 (omega arith)
      (subst (λ (o : Option SessionEnd). Speaks most_messages c.stream (own_acts i turns) (own_moments i turns) c.answers o true) ended.1 h) in
      let told = spoken_at most_messages k.front (own_acts i turns) k.told k.written (Some Ended) k.before in
      record {
        other = record { stream = k.front; answers = k.written; end = Some Ended; gave_up = false };
        spoken = at_nows k.front k.written k.told (Some Ended) told k.before;
        is = inr (record {
          rest = k.rest;
          others = k.others;
          last = k.last;
          e = ended.0;
          marked = is;
          stream = k.stream_is;
          gives_up = k.gives_up;
          taken = k.taken ∙ ap (λ (t : List ℕ). t ++ k.others) (told ∙ sym (own_nows i turns));
          answers = k.answers_are;
          end = ended.1;
          refused = k.refused;
          ended = refl;
          unmarked = refl;
        });
      }

record HasOthers (turns : List Turn) (i : ℕ) (cs : List Thread) : Type 0 where
  pub others : List Thread
  pub spoken : AreSpoken (only_acts turns) i others
  pub are : AreCut turns (only_acts turns) i cs others
  pub many : length cs ≡ length others

all_others : (s : State) (turns : List Turn) (i : ℕ) (cs : List Thread) → AreSpoken turns i cs → HasOthers turns i cs
all_others s turns i [] h = record { others = []; spoken = tt; are = tt; many = refl }
all_others s turns i (c ∷ cs) h =
    let x = other_of s turns i c c.gave_up refl h.0 in
    let rest = all_others s turns (suc i) cs h.1 in
    record { others = x.other ∷ rest.others; spoken = (x.spoken, rest.spoken); are = (x.is, rest.are); many = ap suc rest.many }

pub without_in_turn : (s after : State) (threads : List Thread) (moments : List ℕ) (run : Interleaved s threads moments after) → InterleavedWithout s threads moments after run
without_in_turn s after threads moments run =
    let x = all_others s run.turns 0 threads run.each in
    record {
      others = x.others;
      told = moments_in (only_acts run.turns);
      without = record {
        turns = only_acts run.turns;
        order = subst (λ (a : List Act). Acts s a after) (sym (same_acts run.turns)) run.order;
        told = refl;
        tied = tied_acts run.turns;
        within = within_acts (length threads) (length x.others) run.turns x.many run.within;
        each = x.spoken;
      };
      same = same_acts run.turns;
      each = x.are;
    }
