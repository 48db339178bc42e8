-- A run is also a run without the messages that were answered with refusal 40.
use Rattle.std.proofs.Common.{◌≡◌, ◌<◌, ◌≤◌, ℕ, suc, Bool, true, false, List, [], ◌∷◌, ◌++◌, inl, inr, refl, sym, ap, ◌∙◌, append_assoc, arith}
use Rattle.sigtext.specs.Request.{Request}
use Rattle.sigtext.specs.declared.refusal.Refusal.TheVariants as rule
use Rattle.boxes.specs.State.{State}
use Rattle.wire.specs.Framing.{HasHead, Next}
use Rattle.wire.specs.Framing as frame
use Rattle.office.specs.Answering.{AnswersRequest}
use Rattle.sigtext.specs.Readable.{IsReadable}
use Rattle.office.specs.Sessions.{Session, Connection, Run, MayGiveUpReading, closing, most_messages}
use Rattle.office.specs.Sessions as session
use Rattle.office.specs.WithoutTryAgain.{GivesUp, IsGivenUpBy, IsCutShort, RunsWithout}
use Rattle.office.specs.WithoutTryAgain as without
use Rattle.wire.specs.declared.session.SessionEnd.{SessionEnd}
use Rattle.wire.specs.declared.session.SessionEnd.TheVariants.{Ended, Refused}

-- ---- a message does not depend on what follows it

-- the bytes of a message, which do not depend on what follows
pub record IsMessage (stream : List ℕ) (r : Request) (rest : List ℕ) : Type 0 where
  pub text : List ℕ
  pub joined : stream ≡ text ++ rest
  pub stands : (more : List ℕ) → Next (text ++ more) (frame.Message r) more

pub message_text : (stream rest : List ℕ) (r : Request) → Next stream (frame.Message r) rest → IsMessage stream r rest
message_text stream rest _ (frame.whole head has_length n body _ has small size) = record {
  text = has.front ++ body;
  joined = has.is_front.whole ∙ sym (append_assoc has.front body rest);
  stands = λ more. frame.whole head has_length n body more (further more) small size;
}
  where
    further : (more : List ℕ) → HasHead ((has.front ++ body) ++ more) head has_length n (body ++ more)
    further more = record {
      front = has.front;
      is_front = record {
        whole = append_assoc has.front body more;
        ends = has.is_front.ends;
        short = has.is_front.short;
        shortest = has.is_front.shortest;
      };
      is_head = has.is_head;
      uncoded = has.uncoded;
      announces = has.announces;
    }

-- ---- sessions

-- a session that gave up, as it was before that
pub record IsSessionCut (n : ℕ) (stream : List ℕ) (s : State) (moments answers : List ℕ) (e : SessionEnd) (after : State) : Type 0 where
  pub front : List ℕ
  pub rest : List ℕ
  pub told : List ℕ
  pub others : List ℕ
  pub written : List ℕ
  pub last : List ℕ
  pub stream_is : stream ≡ front ++ rest
  pub gives_up : GivesUp front rest others
  pub later : n < most_messages → (read : List ℕ) → GivesUp read rest others
  pub taken : moments ≡ told ++ others
  pub answers_are : answers ≡ written ++ last
  pub refused : IsGivenUpBy last e
  pub before : Session n front s told written Ended false after

-- the session gave up at its first message
at_once : (n : ℕ) (stream : List ℕ) (s : State) (moments answers : List ℕ) (e : SessionEnd) → GivesUp [] stream moments
    → (suc n < most_messages → (read : List ℕ) → GivesUp read stream moments) → IsGivenUpBy answers e → IsSessionCut (suc n) stream s moments answers e s
at_once n stream s moments answers e gives_up later refused = record {
  front = [];
  rest = stream;
  told = [];
  others = moments;
  written = [];
  last = answers;
  stream_is = refl;
  gives_up = gives_up;
  later = later;
  taken = refl;
  answers_are = refl;
  refused = refused;
  before = session.ended n [] s (frame.ended refl);
}

gave_up_reading : (n : ℕ) (stream : List ℕ) → MayGiveUpReading n stream → GivesUp [] stream []
gave_up_reading n stream (inl first) = without.before_all refl first.1
gave_up_reading n stream (inr announced) = without.within_message announced

gave_up_later : (n : ℕ) (stream : List ℕ) → MayGiveUpReading n stream → n < most_messages → (read : List ℕ) → GivesUp read stream []
gave_up_later n stream (inl first) lt read = absurd (omega (arith, first.0, lt))
gave_up_later n stream (inr announced) lt read = without.within_message announced

pub session_cut : (n : ℕ) (stream : List ℕ) (s : State) (moments answers : List ℕ) (e : SessionEnd) (after : State) → n ≤ most_messages
    → Session n stream s moments answers e true after → IsSessionCut n stream s moments answers e after
session_cut _ stream s _ _ e after most (session.served n _ rest _ mid _ r now moments text out _ _ next answered more) =
    let m = message_text stream rest r next in
    let lt : n < most_messages = omega (arith, most) in
    let c = session_cut n rest mid moments out e after (omega (arith, lt)) more in
    record {
      front = m.text ++ c.front;
      rest = c.rest;
      told = now ∷ c.told;
      others = c.others;
      written = text ++ c.written;
      last = c.last;
      stream_is = m.joined ∙ ap (λ (t : List ℕ). m.text ++ t) c.stream_is ∙ sym (append_assoc m.text c.front c.rest);
      gives_up = c.later lt (m.text ++ c.front);
      later = λ _. c.later lt;
      taken = ap (λ (t : List ℕ). now ∷ t) c.taken;
      answers_are = ap (λ (t : List ℕ). text ++ t) c.answers_are ∙ sym (append_assoc text c.written c.last);
      refused = c.refused;
      before = session.served n (m.text ++ c.front) c.front s mid after r now c.told text c.written Ended false (m.stands c.front) answered c.before;
    }
session_cut _ stream s _ _ _ _ _ (session.gave_up_at n _ rest _ r now next readable) =
    at_once n stream s (now ∷ []) _ _ (without.at_message r now rest next readable) (λ _ _. without.at_message r now rest next readable) (inl (refl, refl))
session_cut _ stream s _ _ _ _ _ (session.gave_up_reading n _ _ may) =
    at_once n stream s [] _ _ (gave_up_reading (suc n) stream may) (gave_up_later (suc n) stream may) (inl (refl, refl))
session_cut _ stream s _ _ _ _ _ (session.read_failed_giving_up n _ _ awaits begun) =
    at_once n stream s [] [] _ (without.within_message begun) (λ lt read. without.within_message begun) (inr (refl, refl))
session_cut _ stream s _ _ _ _ _ (session.write_failed_giving_up_at n _ rest _ r now front next readable begins) =
    at_once n stream s (now ∷ []) front _ (without.at_message r now rest next readable) (λ _ _. without.at_message r now rest next readable) (inl begins)
session_cut _ stream s _ _ _ _ _ (session.write_failed_giving_up_reading n _ _ front may begins) =
    at_once n stream s [] front _ (gave_up_reading (suc n) stream may) (gave_up_later (suc n) stream may) (inl begins)

-- ---- runs

-- A connection before a run without what was answered with refusal 40: unchanged or cut.
one_more : (s mid after : State) (c : Connection) (cs : List Connection) (first others : List ℕ) (gave_up : Bool) → c.gave_up ≡ gave_up
    → Session most_messages c.stream s first c.answers c.end gave_up mid → RunsWithout mid cs others after → RunsWithout s (c ∷ cs) (first ++ others) after
one_more s mid after c cs first others false is here w = record {
  connections = c ∷ w.connections;
  told = first ++ w.told;
  without = without.stays s mid after c cs w.connections first others w.told is (rw is here) w.without;
  run = (first, w.told, mid, refl, rw is here, w.run);
}
one_more s mid after c cs first others true is here w =
    let k = session_cut most_messages c.stream s first c.answers c.end mid (omega arith) here in
    let d : Connection = record { stream = k.front; answers = k.written; end = Ended; gave_up = false } in
    let is_cut : IsCutShort c d first k.told = record {
      rest = k.rest;
      others = k.others;
      last = k.last;
      marked = is;
      stream = k.stream_is;
      gives_up = k.gives_up;
      taken = k.taken;
      answers = k.answers_are;
      refused = k.refused;
      ended = refl;
      unmarked = refl;
    } in
    record {
      connections = d ∷ w.connections;
      told = k.told ++ w.told;
      without = without.cut s mid after c d cs w.connections first k.told others w.told is_cut (rw is here) k.before w.without;
      run = (k.told, w.told, mid, refl, k.before, w.run);
    }

pub runs_without : (s after : State) (cs : List Connection) (moments : List ℕ) → Run s cs moments after → RunsWithout s cs moments after
runs_without s after [] moments h = record { connections = []; told = []; without = rw (h.0, h.1) (without.none s); run = (refl, h.1) }
runs_without s after (c ∷ cs) moments (first, others, mid, joined, here, more) =
    let w = one_more s mid after c cs first others c.gave_up refl here (runs_without mid after cs others more) in
    record { connections = w.connections; told = w.told; without = rw joined w.without; run = w.run }

-- ---- an example: the first of two messages was answered, and the session gave up at the second

module _ (s mid : State) (stream rest more text : List ℕ) (q r : Request) (now later : ℕ) (first : Next stream (frame.Message q) rest) (answered : AnswersRequest s q now text mid)
    (second : Next rest (frame.Message r) more) (readable : IsReadable r) where
  abbrev both : Connection
  both = record { stream = stream; answers = text ++ closing rule.TryAgain; end = Refused 40; gave_up = true }

  abbrev run_of_both : Run s (both ∷ []) (now ∷ later ∷ []) mid
  run_of_both = (
    now ∷ later ∷ [],
    [],
    mid,
    refl,
    session.served 999 stream rest s mid mid q now (later ∷ []) text (closing rule.TryAgain) (Refused 40) true first answered
        (session.gave_up_at 998 rest more mid r later second readable),
    (refl, refl),
  )

  abbrev left : RunsWithout s (both ∷ []) (now ∷ later ∷ []) mid
  left = runs_without s mid (both ∷ []) (now ∷ later ∷ []) run_of_both

  pub one_moment : left.told ≡ now ∷ []
  unfolding at_once session_cut one_more runs_without
  one_moment = refl

  pub one_message : left.connections ≡ record { stream = (message_text stream rest q first).text ++ []; answers = text ++ []; end = Ended; gave_up = false } ∷ []
  unfolding at_once session_cut one_more runs_without
  one_message = refl
