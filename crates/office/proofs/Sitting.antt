-- One connection among others as it is now, and the effect of a turn on it.
use Rattle.std.proofs.Common.{◌≡◌, ◌≤◌, ◌+◌, ℕ, suc, Bool, true, false, List, [], ◌∷◌, ◌++◌, map, Option, Some, None, refl, sym, ap, subst, ◌∙◌, append_assoc, arith}
use Rattle.std.specs.Prelude.{IfSome}
use Rattle.std.specs.List.{AllByRecursion}
use Rattle.std.proofs.KnownBytes.{Appends-kept, Appends-nil, Appends-trans, Consumes-kept, Consumes-nil, Consumes-trans}
use Rattle.std.specs.Io.KnownBytes.{Appends, Consumes, Keeps}
use Rattle.std.proofs.lemmas.List.{append-nil}
use Rattle.sigtext.specs.Request.{Request}
use Rattle.wire.specs.Framing.{Next}
use Rattle.wire.specs.Framing as frame
use Rattle.boxes.specs.declared.keep.Keeper.{Ghosts}
use Rattle.boxes.specs.State.{State}
use Rattle.office.specs.Connections.{IsKnown, IsStream}
use Rattle.office.specs.Interleaved.{AnswersNone, GaveUpWithin, HasBound, HasGivenUp, HasRead, IsBehind, NeedsMore, ReadOn, ReadsThrough, Speaks, SpeaksInTurns, Turn, acts_in, moments_in}
use Rattle.office.specs.Interleaved as said
use Rattle.office.specs.Repeats.{Act, text_of}
use Rattle.office.specs.Sessions.{HasBegunMessage, most_messages}
use Rattle.office.specs.Stepping.{Goes}
use Rattle.wire.proofs.Ties.{all_more, none_is}
use Rattle.wire.specs.declared.session.SessionEnd.{SessionEnd}
use Rattle.wire.specs.declared.session.SessionEnd.TheVariants.{Ended, Truncated, Refused, Limit, ReadFault, WriteFault}

-- a request that was given up, and its moment
pub record Lost : Type 0 where
  pub request : Request
  pub moment : ℕ

abbrev pub IsLost : Option Lost → Request → ℕ → Type 0
IsLost None r now = ⊥
IsLost (Some l) r now = (r ≡ l.request) × (now ≡ l.moment)

-- Known bytes: of its stream at first, what is left of it in all, and what is left in its reader; of its
-- answers at first and now. Also how many messages were served, how many turns only read on, how many bytes of the
-- next message were taken, how it ended, whether it gave up, and the request that it gave up, if that was read whole.
pub record Sitting : Type 0 where
  pub input : Option (List ℕ)
  pub left : Option (List ℕ)
  pub reader : Option (List ℕ)
  pub output : Option (List ℕ)
  pub written : Option (List ℕ)
  pub served : ℕ
  pub waited : ℕ
  pub part : ℕ
  pub end : Option SessionEnd
  pub gave_up : Bool
  pub lost : Option Lost

abbrev nows : List Act → List ℕ
nows acts = map (λ (a : Act). a.now) acts

-- An open connection: what was taken and written in these turns, and that all turns that can follow complete
-- it.
pub record Heard (x : Sitting) (turns : List Turn) : Type 0 where
  pub front : List ℕ
  pub text : List ℕ
  pub taken : Consumes x.input x.left front
  pub written_to : Appends x.output x.written text
  pub few : x.served ≤ most_messages
  pub marked : x.gave_up ≡ false
  pub unlost : x.lost ≡ None
  pub tied : moments_in turns ≡ nows (acts_in turns)
  pub behind : (stream rest : List ℕ) (later : List Act) → IsBehind stream later rest → IsBehind (front ++ stream) (acts_in turns ++ later) rest
  pub bounded : AllByRecursion HasBound turns
  pub has_read : (stream rest : List ℕ) → x.input ≡ Some stream → x.left ≡ Some rest → (kept : ℕ) × (kept ≤ x.part) × HasRead stream turns rest kept
  pub follows : (n m : ℕ) (stream : List ℕ) (later : List Turn) (out : List ℕ) (e : Option SessionEnd) (gave_up : Bool) → n + x.served ≡ m
      → SpeaksInTurns n stream later out e gave_up → SpeaksInTurns m (front ++ stream) (turns ++ later) (text ++ out) e gave_up

-- the same for a connection that ended
pub record Closed (x : Sitting) (e : SessionEnd) (turns : List Turn) : Type 0 where
  pub stream : List ℕ
  pub answers : List ℕ
  pub read : IsStream x.gave_up e x.input x.reader stream
  pub written_to : Appends x.output x.written answers
  pub speaks : SpeaksInTurns most_messages stream turns answers (Some e) x.gave_up
  pub lost : (r : Request) (now : ℕ) → IsLost x.lost r now → HasGivenUp stream x.gave_up (acts_in turns) (moments_in turns) r now
  pub begun : GaveUpWithin stream x.gave_up (acts_in turns)
  pub read_on : ReadOn (Some e) x.input turns

abbrev pub SitsSo : Option SessionEnd → Sitting → List Turn → Type 0
SitsSo None x turns = Heard x turns
SitsSo (Some e) x turns = Closed x e turns

-- these are its turns since the beginning
abbrev pub Sits : Sitting → List Turn → Type 0
Sits x turns = SitsSo x.end x turns

-- ---- known bytes, part by part

known_more : (a b : Option (List ℕ)) (x y : List ℕ) → Consumes a b x → IsKnown b y → IsKnown a (x ++ y)
known_more None b x y h k = tt
known_more (Some p) None x y h k = absurd h
known_more (Some p) (Some q) x y h k = ap (λ (t : List ℕ). x ++ t) k ∙ sym h

stream_more : (gave_up : Bool) (e : SessionEnd) (a b c : Option (List ℕ)) (x y : List ℕ) → Consumes a b x → IsStream gave_up e b c y → IsStream gave_up e a c (x ++ y)
stream_more true e a b c x y h k = Consumes-trans a b c x y h k
stream_more false ReadFault a b c x y h k = Consumes-trans a b c x y h k
stream_more false Ended a b c x y h k = (known_more a b x y h k.0, k.1)
stream_more false Truncated a b c x y h k = (known_more a b x y h k.0, k.1)
stream_more false (Refused number) a b c x y h k = known_more a b x y h k
stream_more false Limit a b c x y h k = known_more a b x y h k
stream_more false WriteFault a b c x y h k = known_more a b x y h k

-- ---- the same lists, written in another way

pub acts_more : (turns : List Turn) (t : Turn) → acts_in (turns ++ t ∷ []) ≡ acts_in turns ++ t.acts
acts_more [] t = append-nil t.acts
acts_more (u ∷ turns) t = ap (λ (x : List Act). u.acts ++ x) (acts_more turns t) ∙ sym (append_assoc u.acts (acts_in turns) t.acts)

pub moments_more : (turns : List Turn) (t : Turn) → moments_in (turns ++ t ∷ []) ≡ moments_in turns ++ t.moments
moments_more [] t = append-nil t.moments
moments_more (u ∷ turns) t = ap (λ (x : List ℕ). u.moments ++ x) (moments_more turns t) ∙ sym (append_assoc u.moments (moments_in turns) t.moments)

nows_more : (acts : List Act) (a : Act) → nows acts ++ a.now ∷ [] ≡ nows (acts ++ a ∷ [])
nows_more [] a = refl
nows_more (b ∷ acts) a = ap (λ (l : List ℕ). b.now ∷ l) (nows_more acts a)

behind_by : (s s' : List ℕ) (acts acts' : List Act) (rest : List ℕ) → s ≡ s' → acts ≡ acts' → IsBehind s acts rest → IsBehind s' acts' rest
behind_by s s' acts acts' rest es ea h = subst (λ x. IsBehind x acts' rest) es (subst (λ x. IsBehind s x rest) ea h)

speaks_by : (n : ℕ) (s s' : List ℕ) (t t' : List Turn) (o o' : List ℕ) (e : Option SessionEnd) (g : Bool) → s ≡ s' → t ≡ t' → o ≡ o'
    → SpeaksInTurns n s t o e g → SpeaksInTurns n s' t' o' e g
speaks_by n s s' t t' o o' e g es et eo h =
    subst (λ x. SpeaksInTurns n x t' o' e g) es (subst (λ x. SpeaksInTurns n s x o' e g) et (subst (λ x. SpeaksInTurns n s t x e g) eo h))

pub open_sits : (x : Sitting) (turns : List Turn) → x.end ≡ None → Sits x turns → Heard x turns
open_sits x turns is h = subst (λ e. SitsSo e x turns) is h

pub sits_open : (x : Sitting) (turns : List Turn) → x.end ≡ None → Heard x turns → Sits x turns
sits_open x turns is h = subst (λ e. SitsSo e x turns) (sym is) h

-- ---- turns that only read on

-- what is left of a known stream is known
left_known : (input left : Option (List ℕ)) (stream front : List ℕ) → Consumes input left front → input ≡ Some stream → (rest : List ℕ) × (left ≡ Some rest) × (stream ≡ front ++ rest)
left_known None left stream front taken is = absurd cc
left_known (Some s) None stream front taken is = absurd taken
left_known (Some s) (Some rest) stream front taken is =
    let same : s ≡ stream = cc in
    (rest, refl, sym same ∙ taken)

kept_left : (left left' : Option (List ℕ)) (rest rest' : List ℕ) → left ≡ Some rest → Keeps left left' → left' ≡ Some rest' → left ≡ Some rest'
kept_left None left' rest rest' was keeps is = absurd cc
kept_left (Some r) None rest rest' was keeps is = absurd cc
kept_left (Some r) (Some r') rest rest' was keeps is = ap Some (sym keeps) ∙ is

-- a known stream was read through so far
pub reads_through : (x : Sitting) (turns : List Turn) → Heard x turns → ReadsThrough x.input turns
reads_through x turns h = (h.bounded, by_input x.input refl)
  where
    by_input : (input : Option (List ℕ)) → x.input ≡ input → IfSome input (λ stream. (rest : List ℕ) × (kept : ℕ) × HasRead stream turns rest kept)
    by_input None is = tt
    by_input (Some stream) is =
        let (rest, at, whole) = left_known x.input x.left stream h.front h.taken is in
        let (kept, within, read) = h.has_read stream rest is at in
        (rest, kept, read)

-- ---- a new connection

-- none of its messages was served
pub record IsFirst (x : Sitting) : Type 0 where
  pub all : x.left ≡ x.input
  pub unwritten : x.written ≡ x.output
  pub none : x.served ≡ 0
  pub unwaited : x.waited ≡ 0
  pub open_still : x.end ≡ None
  pub marked : x.gave_up ≡ false
  pub unlost : x.lost ≡ None

pub first_sits : (x : Sitting) → IsFirst x → Sits x []
first_sits x is = sits_open x [] is.open_still (record {
  front = [];
  text = [];
  taken = subst (λ a. Consumes x.input a []) (sym is.all) (Consumes-nil x.input);
  written_to = subst (λ a. Appends x.output a []) (sym is.unwritten) (Appends-nil x.output);
  few = omega (arith, is.none);
  marked = is.marked;
  unlost = is.unlost;
  tied = refl;
  behind = λ stream rest later h. h;
  bounded = tt;
  has_read = λ stream rest at left.
      let same : stream ≡ rest = let both : Some stream ≡ Some rest = sym at ∙ sym is.all ∙ left in cc in
      (0, omega arith, subst (λ (l : List ℕ). HasRead stream [] l 0) same (said.no_turn));
  follows = λ n m stream later out e gave_up sum sp. let same : n ≡ m = omega (arith, sum, is.none) in subst (λ k. SpeaksInTurns k stream later out e gave_up) same sp;
})

-- ---- waiting bytes are sent

abbrev pub sent_on : Sitting → Option (List ℕ) → Sitting
sent_on x written = record x { written = written }

sent_so : (x : Sitting) (written : Option (List ℕ)) (turns : List Turn) (e : Option SessionEnd) → Keeps x.written written → SitsSo e x turns → SitsSo e (sent_on x written) turns
sent_so x written turns None holds h = record {
  front = h.front;
  text = h.text;
  taken = h.taken;
  written_to = Appends-kept x.output x.written written h.text h.written_to holds;
  few = h.few;
  marked = h.marked;
  unlost = h.unlost;
  tied = h.tied;
  behind = h.behind;
  bounded = h.bounded;
  has_read = h.has_read;
  follows = h.follows;
}
sent_so x written turns (Some e) holds h = record {
  stream = h.stream;
  answers = h.answers;
  read = h.read;
  written_to = Appends-kept x.output x.written written h.answers h.written_to holds;
  speaks = h.speaks;
  lost = h.lost;
  begun = h.begun;
  read_on = h.read_on;
}

pub sent_sits : (x : Sitting) (written : Option (List ℕ)) (turns : List Turn) → Keeps x.written written → Sits x turns → Sits (sent_on x written) turns
sent_sits x written turns holds h = sent_so x written turns x.end holds h

-- ---- bytes are read ahead

abbrev pub gathered : Sitting → Option (List ℕ) → Option (List ℕ) → Sitting
gathered x left reader = record x { left = left; reader = reader }

pub gathered_sits : (x : Sitting) (left reader : Option (List ℕ)) (turns : List Turn) → Keeps x.left left → Heard x turns → Heard (gathered x left reader) turns
gathered_sits x left reader turns keeps h = record {
  front = h.front;
  text = h.text;
  taken = Consumes-kept x.input x.left left h.front h.taken keeps;
  written_to = h.written_to;
  few = h.few;
  marked = h.marked;
  unlost = h.unlost;
  tied = h.tied;
  behind = h.behind;
  bounded = h.bounded;
  has_read = λ stream rest at now.
      let (all, was, whole) = left_known x.input x.left stream h.front h.taken at in
      h.has_read stream rest at (kept_left x.left left all rest was keeps now);
  follows = h.follows;
}

-- ---- it reads on in its next message

abbrev pub reads_on : Sitting → Option (List ℕ) → Option (List ℕ) → ℕ → Sitting
reads_on x left reader part = record x { left = left; reader = reader; waited = x.waited + 1; part = part }

-- more of the next message is needed, behind what was kept of it
abbrev pub Needs : Option (List ℕ) → ℕ → ℕ → ℕ → Type 0
Needs left part most part' = (rest : List ℕ) (kept : ℕ) → left ≡ Some rest → kept ≤ part → (kept' : ℕ) × (kept' ≤ part') × NeedsMore (kept + most) kept' rest

pub read_on_sits : (x : Sitting) (left reader : Option (List ℕ)) (part : ℕ) (t : Turn) (turns : List Turn) (most : ℕ) → t.most ≡ Some most → Needs x.left x.part most part
    → t.moments ≡ [] → t.acts ≡ [] → Keeps x.left left → Heard x turns → Heard (reads_on x left reader part) (turns ++ t ∷ [])
read_on_sits x left reader part t turns most bound needs told acted keeps h =
    let same : acts_in (turns ++ t ∷ []) ≡ acts_in turns = acts_more turns t ∙ ap (λ (l : List Act). acts_in turns ++ l) acted ∙ append-nil (acts_in turns) in
    let none : moments_in (turns ++ t ∷ []) ≡ moments_in turns = moments_more turns t ∙ ap (λ (l : List ℕ). moments_in turns ++ l) told ∙ append-nil (moments_in turns) in
    record {
      front = h.front;
      text = h.text;
      taken = Consumes-kept x.input x.left left h.front h.taken keeps;
      written_to = h.written_to;
      few = h.few;
      marked = h.marked;
      unlost = h.unlost;
      tied = none ∙ h.tied ∙ ap nows (sym same);
      behind = λ stream rest later there.
          behind_by (h.front ++ stream) (h.front ++ stream) (acts_in turns ++ later) (acts_in (turns ++ t ∷ []) ++ later) rest refl (ap (λ (l : List Act). l ++ later) (sym same)) (h.behind stream rest later there);
      bounded = all_more HasBound turns t h.bounded (λ _ none. none_is most (sym none ∙ bound));
      has_read = λ stream rest at now.
          let (all, was, whole) = left_known x.input x.left stream h.front h.taken at in
          let is = kept_left x.left left all rest was keeps now in
          let (kept, within, read) = h.has_read stream rest at is in
          let (next, fits, more) = needs rest kept is within in
          (next, fits, said.then_read_on turns rest kept next most t read acted bound more);
      follows = λ n m stream later out e gave_up is sp.
          let one = said.reads_on n stream t later out e gave_up told acted sp in
          speaks_by m (h.front ++ stream) (h.front ++ stream) (turns ++ (t ∷ later)) ((turns ++ t ∷ []) ++ later) (h.text ++ out) (h.text ++ out) e gave_up
          refl (sym (append_assoc turns (t ∷ []) later)) refl (h.follows n m stream (t ∷ later) out e gave_up is one);
    }

-- ---- its next message is answered

abbrev pub answered : Sitting → Option (List ℕ) → Option (List ℕ) → Option (List ℕ) → ℕ → Sitting
answered x left reader written part = record x { left = left; reader = reader; written = written; served = x.served + 1; part = part }

module _ {C K : Type 0} {gives : C → ℕ → C → Type 0} {k : Ghosts K} (x : Sitting) (left reader written : Option (List ℕ)) (part : ℕ) (clock clock' : C) (keeper keeper' : K) (s after : State) where
  unfoldable pub act_of : Goes gives x.left left x.written written clock clock' k keeper keeper' s after → Act
  act_of g = record { before = s; request = g.request; now = g.moment; reply = g.answers.reply; after = after }

  pub answered_sits : (g : Goes gives x.left left x.written written clock clock' k keeper keeper' s after) (t : Turn) → t.moments ≡ g.moment ∷ [] → t.acts ≡ act_of g ∷ []
      → (turns : List Turn) → x.served + 1 ≤ most_messages → Heard x turns → Heard (answered x left reader written part) (turns ++ t ∷ [])
  unfolding act_of
  answered_sits g t told acted turns few h = record {
    front = h.front ++ g.front;
    text = h.text ++ g.text;
    taken = Consumes-trans x.input x.left left h.front g.front h.taken g.taken;
    written_to = Appends-trans x.output x.written written h.text g.text h.written_to g.written;
    few = few;
    marked = h.marked;
    unlost = h.unlost;
    tied =
        moments_more turns t ∙ ap (λ (l : List ℕ). moments_in turns ++ l) told ∙ ap (λ (l : List ℕ). l ++ g.moment ∷ []) h.tied
        ∙ nows_more (acts_in turns) (act_of g) ∙ ap nows (ap (λ (l : List Act). acts_in turns ++ l) (sym acted) ∙ sym (acts_more turns t));
    behind = λ stream rest later there.
        let one : IsBehind (g.front ++ stream) (act_of g ∷ later) rest = (stream, g.message stream, there) in
        behind_by (h.front ++ (g.front ++ stream)) ((h.front ++ g.front) ++ stream) (acts_in turns ++ (act_of g ∷ later)) (acts_in (turns ++ t ∷ []) ++ later) rest
        (sym (append_assoc h.front g.front stream))
        (sym (append_assoc (acts_in turns) (act_of g ∷ []) later) ∙ ap (λ (l : List Act). l ++ later) (ap (λ (l : List Act). acts_in turns ++ l) (sym acted) ∙ sym (acts_more turns t)))
        (h.behind (g.front ++ stream) rest (act_of g ∷ later) one);
    bounded = all_more HasBound turns t h.bounded (λ none. let one : act_of g ∷ [] ≡ [] = sym acted ∙ none in absurd cc);
    has_read = λ stream rest at now.
        let (all, was, whole) = left_known x.input x.left stream h.front h.taken at in
        let (kept, within, read) = h.has_read stream all at was in
        let cut : all ≡ g.front ++ rest = subst (λ o. Consumes (Some all) o g.front) now (subst (λ o. Consumes o left g.front) was g.taken) in
        (0, omega arith, said.then_answered turns all rest kept t (act_of g) read acted (subst (λ (l : List ℕ). Next l (frame.Message g.request) rest) (sym cut) (g.message rest)));
    follows = λ n m stream later out e gave_up is sp.
        let a = act_of g in
        let one = said.goes_on n (g.front ++ stream) stream t a later out e gave_up told acted (g.message stream) sp in
        let all = h.follows (suc n) m (g.front ++ stream) (t ∷ later) (text_of a ++ out) e gave_up (omega (arith, is)) one in
        let text_is : text_of a ≡ g.text = sym g.answers.is in
        speaks_by m (h.front ++ (g.front ++ stream)) ((h.front ++ g.front) ++ stream) (turns ++ (t ∷ later)) ((turns ++ t ∷ []) ++ later)
        (h.text ++ (text_of a ++ out)) ((h.text ++ g.text) ++ out) e gave_up
        (sym (append_assoc h.front g.front stream)) (sym (append_assoc turns (t ∷ []) later))
        (ap (λ (x : List ℕ). h.text ++ (x ++ out)) text_is ∙ sym (append_assoc h.text g.text out)) all;
  }

-- ---- the connection ends

abbrev pub closed : Sitting → Option (List ℕ) → Option (List ℕ) → Option (List ℕ) → ℕ → SessionEnd → Bool → Option Lost → Sitting
closed x left reader written part e gave_up lost = record x { left = left; reader = reader; written = written; part = part; end = Some e; gave_up = gave_up; lost = lost }

-- A message was given up in a turn.
pub record IsLostIn (stream : List ℕ) (gave_up : Bool) (t : Turn) (r : Request) (now : ℕ) : Type 0 where
  pub marked : gave_up ≡ true
  pub more : List ℕ
  pub message : Next stream (frame.Message r) more
  pub told : t.moments ≡ now ∷ []

pub closed_sits : (x : Sitting) (left reader written : Option (List ℕ)) (part : ℕ) (e : SessionEnd) (gave_up : Bool) (lost : Option Lost) (n : ℕ) (stream answers : List ℕ) (t : Turn) (turns : List Turn)
    → n + x.served ≡ most_messages → IsStream gave_up e x.left reader stream → Appends x.written written answers
    → (last : Speaks n stream t.acts t.moments answers (Some e) gave_up) → AnswersNone last → ((r : Request) (now : ℕ) → IsLost lost r now → IsLostIn stream gave_up t r now)
    → (gave_up ≡ true → t.acts ≡ []) → (gave_up ≡ true → HasBegunMessage stream)
    → Heard x turns → Closed (closed x left reader written part e gave_up lost) e (turns ++ t ∷ [])
closed_sits x left reader written part e gave_up lost n stream answers t turns sum read wrote last none given unacted begun h = record {
  stream = h.front ++ stream;
  answers = h.text ++ answers;
  read = stream_more gave_up e x.input x.left reader h.front stream h.taken read;
  written_to = Appends-trans x.output x.written written h.text answers h.written_to wrote;
  speaks = h.follows n most_messages stream (t ∷ []) answers (Some e) gave_up sum (said.ends n stream t answers e gave_up last none);
  lost = λ r now is.
      let g = given r now is in
      record {
        marked = g.marked;
        rest = stream;
        more = g.more;
        behind = there g.marked;
        message = g.message;
        told = moments_more turns t ∙ ap (λ (l : List ℕ). moments_in turns ++ l) g.told ∙ ap (λ (l : List ℕ). l ++ now ∷ []) (h.tied ∙ ap nows (sym (append-nil (acts_in turns)) ∙ same g.marked));
      };
  begun = λ is. (stream, there is, begun is);
  read_on = (turns, t, refl, reads_through x turns h);
}
  where
    same : gave_up ≡ true → acts_in turns ++ [] ≡ acts_in (turns ++ t ∷ [])
    same is = ap (λ (l : List Act). acts_in turns ++ l) (sym (unacted is)) ∙ sym (acts_more turns t)

    there : gave_up ≡ true → IsBehind (h.front ++ stream) (acts_in (turns ++ t ∷ [])) stream
    there is = subst (λ (l : List Act). IsBehind (h.front ++ stream) l stream) (same is) (h.behind stream stream [] refl)
