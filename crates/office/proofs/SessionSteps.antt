-- One step of a session, and a step before the steps that follow.
use Rattle.std.proofs.Common.{◌≡◌, ◌≢◌, ◌<◌, ◌≤◌, ◌+◌, ◌-◌, ℕ, suc, Bool, true, false, List, [], ◌∷◌, ◌++◌, length, Option, Some, None, ◌⊎◌, inl, inr, refl, sym, ap, subst, ◌∙◌, append_assoc, arith}
use Rattle.std.proofs.lemmas.List.{append-nil}
use Rattle.std.specs.Io.KnownBytes.{Appends, Consumes, IsAtEnd, prepend_known}
use Rattle.sigtext.specs.declared.field.Field.{Field}
use Rattle.sigtext.specs.declared.refusal.Refusal.{Refusal}
use Rattle.sigtext.specs.declared.refusal.Refusal.TheVariants as rule
use Rattle.sigtext.specs.Request.{Request}
use Rattle.boxes.specs.State.{State}
use Rattle.boxes.specs.declared.keep.Keeper.{Ghosts}
use Rattle.wire.specs.Feeding.{Awaits, OfStream}
use Rattle.wire.specs.Framing.{IsHead, Next, Message, request_of}
use Rattle.wire.specs.Framing as frame
use Rattle.wire.specs.declared.fault.WireFault.{WireFault}
use Rattle.wire.specs.declared.feed.Place.{Place}
use Rattle.wire.specs.declared.feed.Place.TheVariants as place
use Rattle.wire.specs.declared.joining.Came.{Came}
use Rattle.wire.proofs.NextMessages.{IsNextMessage}
use Rattle.wire.specs.Whole.{BreaksOff, Brings}
use Rattle.wire.proofs.Halves.{message_stands}
use Rattle.wire.specs.declared.session.SessionEnd.{SessionEnd}
use Rattle.wire.specs.declared.session.SessionEnd.TheVariants.{Ended, Truncated, Refused, Limit, ReadFault, WriteFault}
use Rattle.office.specs.declared.connections.responding.Handled.TheVariants.{Answered, GaveUp, Broken}
use Rattle.sigtext.specs.Counts.{Rose}
use Rattle.office.specs.Connections.{HoldsUpTo, IsKnown, IsStream, Serves}
use Rattle.office.specs.Crashes.{AddsStanding, never_changed}
use Rattle.office.proofs.Endurance.{still, survives_asked, survives_same, survives_through, then_survives, then_through, through_after}
use Rattle.office.specs.Handling.{Handles, answered, gave_up_at, broke, broke_giving_up_at}
use Rattle.office.specs.Premise.{HoldsUp, IsLeft, WasKept}
use Rattle.office.specs.Frames.{Quiet}
use Rattle.office.specs.Responding.{IsClosed}
use Rattle.office.specs.Sessions.{EndsAtOnce, HasBegunMessage, Session, MayGiveUpReading}
use Rattle.office.proofs.Begun.{message_begun, none_begun}
use Rattle.office.specs.Sessions as session
use Rattle.office.specs.Stepping.{Goes, Steps, ToCome}

-- ---- known bytes, part by part

consumes_more : (a b c : Option (List ℕ)) (x y : List ℕ) → Consumes a b x → Consumes b c y → Consumes a c (x ++ y)
consumes_more None b c x y h k = tt
consumes_more (Some p) None c x y h k = absurd h
consumes_more (Some p) (Some q) None x y h k = absurd k
consumes_more (Some p) (Some q) (Some r) x y h k = h ∙ ap (λ (t : List ℕ). x ++ t) k ∙ sym (append_assoc x y r)

appends_more : (a b c : Option (List ℕ)) (x y : List ℕ) → Appends a b x → Appends b c y → Appends a c (x ++ y)
appends_more None b c x y h k = tt
appends_more (Some p) None c x y h k = absurd h
appends_more (Some p) (Some q) None x y h k = absurd k
appends_more (Some p) (Some q) (Some r) x y h k = k ∙ ap (λ (t : List ℕ). t ++ y) h ∙ append_assoc p x y

known_more : (a b : Option (List ℕ)) (x y : List ℕ) → Consumes a b x → IsKnown b y → IsKnown a (x ++ y)
known_more None b x y h k = tt
known_more (Some p) None x y h k = absurd h
known_more (Some p) (Some q) x y h k = ap (λ (t : List ℕ). x ++ t) k ∙ sym h

stream_more : (gave_up : Bool) (e : SessionEnd) (a b c : Option (List ℕ)) (x y : List ℕ) → Consumes a b x → IsStream gave_up e b c y → IsStream gave_up e a c (x ++ y)
stream_more true e a b c x y h k = consumes_more a b c x y h k
stream_more false ReadFault a b c x y h k = consumes_more a b c x y h k
stream_more false Ended a b c x y h k = (known_more a b x y h k.0, k.1)
stream_more false Truncated a b c x y h k = (known_more a b x y h k.0, k.1)
stream_more false (Refused number) a b c x y h k = known_more a b x y h k
stream_more false Limit a b c x y h k = known_more a b x y h k
stream_more false WriteFault a b c x y h k = known_more a b x y h k

-- taking the waiting bytes leaves what the reader has
all_taken : (reader : Option (List ℕ)) (waits : List ℕ) → Consumes (prepend_known waits reader) reader waits
all_taken None waits = tt
all_taken (Some xs) waits = refl

-- what is left, if it is known
abbrev rest_of : Option (List ℕ) → List ℕ
rest_of None = []
rest_of (Some xs) = xs

known_rest : (a b : Option (List ℕ)) (x : List ℕ) → Consumes a b x → IsKnown a (x ++ rest_of b)
known_rest None b x h = tt
known_rest (Some p) None x h = absurd h
known_rest (Some p) (Some q) x h = sym h

is_stream : (a : Option (List ℕ)) (Holds : List ℕ → Type 0) (o : OfStream a Holds) → IsKnown a o.stream
is_stream None Holds o = tt
is_stream (Some p) Holds o = sym o.is

-- what was told of what came, and of what broke off
pub brought_by : (fields : List Field) (old new reader : Option (List ℕ)) (p : Place) (x y : Came) → x ≡ y → Brings x fields old new reader p → Brings y fields old new reader p
brought_by fields old new reader p x y is h = subst (λ (z : Came). Brings z fields old new reader p) is h

pub broke_off_by : (p : Place) (old new reader : Option (List ℕ)) (q : Place) (x y : WireFault) → x ≡ y → BreaksOff x p old new reader q → BreaksOff y p old new reader q
broke_off_by p old new reader q x y is h = subst (λ (z : WireFault). BreaksOff z p old new reader q) is h

-- ---- a step and those that follow

holds_more : {K : Type 0} (k : Ghosts K) (a b c : K) (gave_up : Bool) → HoldsUp k false a b → HoldsUp k gave_up b c → HoldsUp k gave_up a c
holds_more k a b c true x y = let same = x.0 in omega (arith, same, y)
holds_more k a b c false x y = (y.0 ∙ x.0, λ was. y.1 (x.1 was))

-- an end other than a failed read asks for nothing more
pub held_to : {K : Type 0} (k : Ghosts K) (a b : K) (gave_up : Bool) (e : SessionEnd) → HoldsUp k gave_up a b → (e ≡ ReadFault → ⊥) → HoldsUpTo k gave_up e a b
held_to k a b gave_up e held other = (held, λ gave is. absurd (other is))

-- an earlier call that counted nothing
pub held_more_to : {K : Type 0} (k : Ghosts K) (a b c : K) (gave_up : Bool) (e : SessionEnd) → HoldsUp k false a b → HoldsUpTo k gave_up e b c → HoldsUpTo k gave_up e a c
held_more_to k a b c gave_up e x (held, rose) =
    (holds_more k a b c gave_up x held, λ gave is. subst (λ (n : ℕ). Rose n (k.faults c)) x.0 (rose gave is))

limit_no_read : Limit ≡ ReadFault → ⊥
limit_no_read e = cc

refused_no_read : (number : ℕ) → Refused number ≡ ReadFault → ⊥
refused_no_read number e = cc

false_no_true : false ≡ true → ⊥
false_no_true e = cc

write_no_read : WriteFault ≡ ReadFault → ⊥
write_no_read e = cc

ended_no_read : Ended ≡ ReadFault → ⊥
ended_no_read e = cc

truncated_no_read : Truncated ≡ ReadFault → ⊥
truncated_no_read e = cc

-- refusal 40, or a prefix of it, says nothing of a crash
given_no_more : {P : Type 0} (e : SessionEnd) → (e ≡ ReadFault → ⊥) → (true ≡ false) ⊎ (e ≡ ReadFault) → P
given_no_more e other (inl none) = absurd cc
given_no_more e other (inr is) = absurd (other is)

-- nothing was asked
pub holds_still : {K : Type 0} (k : Ghosts K) (a : K) (gave_up : Bool) → HoldsUp k gave_up a a
holds_still k a true = omega arith
holds_still k a false = (refl, λ was. was)

pub serves_more : {C K : Type 0} (gives : C → ℕ → C → Type 0) (n : ℕ) (left left' reader output output' output'' : Option (List ℕ)) (clock clock' clock'' : C) (k : Ghosts K) (keeper keeper' keeper'' : K) (s mid after : State) (e : SessionEnd)
    → Goes gives left left' output output' clock clock' k keeper keeper' s mid → Serves n gives left' reader output' output'' clock' clock'' k keeper' keeper'' mid after e
    → Serves (suc n) gives left reader output output'' clock clock'' k keeper keeper'' s after e
serves_more gives n left left' reader output output' output'' clock clock' clock'' k keeper keeper' keeper'' s mid after e g r = record {
  stream = g.front ++ r.stream;
  moments = g.moment ∷ r.moments;
  answers = g.text ++ r.answers;
  gave_up = r.gave_up;
  read = stream_more r.gave_up e left left' reader g.front r.stream g.taken r.read;
  told = (clock', g.told, r.told);
  written = appends_more output output' output'' g.text r.answers g.written r.written;
  held = held_more_to k keeper keeper' keeper'' r.gave_up e g.held r.held;
  lasts = λ none. then_through g.lasts (r.lasts none);
  survives = then_survives (survives_through g.lasts) r.survives;
  session = session.served n (g.front ++ r.stream) r.stream s mid after g.request g.moment r.moments g.text r.answers e r.gave_up (g.message r.stream) g.answers r.session;
}

known_whole : (a : Option (List ℕ)) → IsKnown a (rest_of a)
known_whole None = tt
known_whole (Some p) = refl

nothing_written : (a : Option (List ℕ)) → Appends a a []
nothing_written None = tt
nothing_written (Some p) = sym (append-nil p)

-- no more messages are served
pub serves_none : {C K : Type 0} (gives : C → ℕ → C → Type 0) (left reader output : Option (List ℕ)) (clock : C) (k : Ghosts K) (keeper : K) (s : State) → Serves 0 gives left reader output output clock clock k keeper keeper s s Limit
serves_none gives left reader output clock k keeper s = record {
  stream = rest_of left;
  moments = [];
  answers = [];
  gave_up = false;
  read = known_whole left;
  told = refl;
  written = nothing_written output;
  held = held_to k keeper keeper false Limit (holds_still k keeper false) limit_no_read;
  lasts = λ none. never_changed refl still;
  survives = survives_same still;
  session = session.limit (rest_of left) s;
}

pub none_ends : {C K : Type 0} (gives : C → ℕ → C → Type 0) (left reader output : Option (List ℕ)) (clock : C) (k : Ghosts K) (keeper : K) (s : State) → EndsAtOnce (serves_none gives left reader output clock k keeper s).session
unfolding serves_none
none_ends gives left reader output clock k keeper s = tt

pub none_gives_up : {C K : Type 0} (gives : C → ℕ → C → Type 0) (left reader output : Option (List ℕ)) (clock : C) (k : Ghosts K) (keeper : K) (s : State) {P : Type 0} → (serves_none gives left reader output clock k keeper s).gave_up ≡ true → P
unfolding serves_none
none_gives_up gives left reader output clock k keeper s given = none_begun given

-- a session that ends in its first step takes at most one moment
pub few_moments : {n : ℕ} {stream : List ℕ} {s : State} {moments out : List ℕ} {e : SessionEnd} {gave_up : Bool} {after : State}
    → (x : Session n stream s moments out e gave_up after) → EndsAtOnce x → length moments ≤ 1
few_moments (session.served n stream rest s mid after r now moments text out e gave_up next answers more) once = absurd once
few_moments _ once = omega arith

-- ---- steps with a message

module _ {C K : Type 0} (gives : C → ℕ → C → Type 0) (p : Place) (left reader output output' : Option (List ℕ)) (clock clock' : C) (k : Ghosts K) (keeper keeper' : K) (s : State)
    (text : List ℕ) (has_length : Bool) (body waits : List ℕ) (m : IsNextMessage text has_length body left (prepend_known waits reader)) where
  abbrev r : Request
  r = request_of m.opens.head has_length body

  stands : (more : List ℕ) → Next ((text ++ body) ++ more) (Message r) more
  stands more = subst (λ (t : List ℕ). Next t (Message r) more) (sym (append_assoc text body more)) (message_stands text body more has_length m.opens)

  all_read : Consumes left reader ((text ++ body) ++ waits)
  all_read = consumes_more left (prepend_known waits reader) reader (text ++ body) waits m.taken (all_taken reader waits)

  pub answered_step : Handles gives clock clock' output output' k keeper keeper' s r Answered → Steps gives p left (prepend_known waits reader) reader output output' clock clock' k keeper keeper' s None
  answered_step (answered now written after told appends same lasts keeps answers) =
      (after, keeps, record { front = text ++ body; request = r; moment = now; text = written; taken = m.taken; message = stands; told = told; written = appends; answers = answers; held = same; lasts = lasts })

  pub gave_up_step : Handles gives clock clock' output output' k keeper keeper' s r GaveUp → Steps gives p left (prepend_known waits reader) reader output output' clock clock' k keeper keeper' s (Some (Refused 40))
  gave_up_step (gave_up_at now told appends less asks readable keeps) = (
    s,
    keeps,
    λ n _. (
      record {
        stream = (text ++ body) ++ waits;
        moments = now ∷ [];
        answers = session.closing rule.TryAgain;
        gave_up = true;
        read = all_read;
        told = (clock', told, refl);
        written = appends;
        held = held_to k keeper keeper' true (Refused 40) less (refused_no_read 40);
        lasts = given_no_more (Refused 40) (refused_no_read 40);
        session = session.gave_up_at n ((text ++ body) ++ waits) waits s r now (stands waits) readable;
        survives = survives_asked r now (refl, refl) asks;
      },
      tt,
      λ other given. message_begun ((text ++ body) ++ waits) waits r (stands waits) readable,
    ),
  )

  pub broken_step : Handles gives clock clock' output output' k keeper keeper' s r Broken → Steps gives p left (prepend_known waits reader) reader output output' clock clock' k keeper keeper' s (Some WriteFault)
  broken_step (broke now written front after told appends begins same lasts keeps answers) =
      let rest = rest_of (prepend_known waits reader) in (
        after,
        keeps,
        λ n _. (
          record {
            stream = (text ++ body) ++ rest;
            moments = now ∷ [];
            answers = front;
            gave_up = false;
            read = known_rest left (prepend_known waits reader) (text ++ body) m.taken;
            told = (clock', told, refl);
            written = appends;
            held = held_to k keeper keeper' false WriteFault same write_no_read;
            lasts = λ none. lasts;
            survives = survives_through lasts;
            session = session.write_failed n ((text ++ body) ++ rest) rest s after r now written front (stands rest) answers begins;
          },
          tt,
          λ other given. none_begun given,
        ),
      )
  broken_step (broke_giving_up_at now front told appends begins less asks readable keeps) = (
    s,
    keeps,
    λ n _. (
      record {
        stream = (text ++ body) ++ waits;
        moments = now ∷ [];
        answers = front;
        gave_up = true;
        read = all_read;
        told = (clock', told, refl);
        written = appends;
        held = held_to k keeper keeper' true WriteFault less write_no_read;
        lasts = given_no_more WriteFault write_no_read;
        session = session.write_failed_giving_up_at n ((text ++ body) ++ waits) waits s r now front (stands waits) readable begins;
        survives = survives_asked r now (refl, refl) asks;
      },
      tt,
      λ other given. message_begun ((text ++ body) ++ waits) waits r (stands waits) readable,
    ),
  )

-- ---- steps without a message

-- what a session that ends without a message leaves of the keeper
pub record Leaves {K : Type 0} (k : Ghosts K) (old new : K) (s : State) (gave_up : Bool) : Type 0 where
  pub keeps : IsLeft (k.means new) s
  pub held : HoldsUp k gave_up old new
  pub adds : AddsStanding k old new s

-- calls that leave the state unchanged
pub leaves_quiet : {K : Type 0} (k : Ghosts K) (old new : K) (s : State) (gave_up : Type 0) → Quiet k old new gave_up → WasKept k old new s → (gave_up → ⊥) → Leaves k old new s false
leaves_quiet k old new s gave_up quiet kept other = record {
  keeps = record { means = quiet.same s kept.means; sound = kept.sound };
  held = (quiet.rest.counted other, λ was. quiet.rest.opened kept.is_honest was other);
  adds = quiet.crash s kept.means kept.is_honest;
}

pub leaves_given_up : {K : Type 0} (k : Ghosts K) (old new : K) (s : State) (gave_up : Type 0) → Quiet k old new gave_up → WasKept k old new s → Leaves k old new s true
leaves_given_up k old new s gave_up quiet kept = record {
  keeps = record { means = quiet.same s kept.means; sound = kept.sound };
  held = quiet.rest.never_less;
  adds = quiet.crash s kept.means kept.is_honest;
}

-- the keeper was not called
pub leaves_still : {K : Type 0} (k : Ghosts K) (keeper : K) (s : State) (gave_up : Bool) → IsLeft (k.means keeper) s → Leaves k keeper keeper s gave_up
leaves_still k keeper s gave_up keeps = record { keeps = keeps; held = holds_still k keeper gave_up; adds = still }

-- a step without a message, which ends the session
abbrev pub LastStep : ℕ → List ℕ → State → List ℕ → SessionEnd → Bool → Type 0
LastStep n stream s text e gave_up = (x : Session (suc n) stream s [] text e gave_up s) × EndsAtOnce x

module _ {C K : Type 0} (gives : C → ℕ → C → Type 0) (p : Place) (left left' reader output output' : Option (List ℕ)) (clock : C) (k : Ghosts K) (keeper keeper' : K) (s : State) where
  -- the session ends, and the state is unchanged
  pub ends : (e : SessionEnd) (gave_up : Bool) (stream text : List ℕ) → Leaves k keeper keeper' s gave_up → (gave_up ≡ true → e ≡ ReadFault → Rose (k.faults keeper) (k.faults keeper')) → IsStream gave_up e left reader stream → Appends output output' text
      → (p ≢ place.Fresh → gave_up ≡ true → HasBegunMessage stream) → ((n : ℕ) → ToCome p (suc n) → LastStep n stream s text e gave_up) → Steps gives p left left' reader output output' clock clock k keeper keeper' s (Some e)
  ends e gave_up stream text leaves rose read written begun whole = (
    s,
    leaves.keeps,
    λ n all. (
      record {
        stream = stream;
        moments = [];
        answers = text;
        gave_up = gave_up;
        read = read;
        told = refl;
        written = written;
        held = (leaves.held, rose);
        lasts = λ none. never_changed refl leaves.adds;
        survives = survives_same leaves.adds;
        session = (whole n all).0;
      },
      (whole n all).1,
      begun,
    ),
  )

  pub closed_step : (q : Refusal) (e : SessionEnd) → Leaves k keeper keeper' s false → OfStream left (λ stream. Next stream (frame.Refused q) []) → IsClosed output output' q e
      → Steps gives p left left' reader output output' clock clock k keeper keeper' s (Some e)
  closed_step q (Refused number) leaves o closed =
      ends (Refused number) false o.stream (session.closing q) leaves (λ gave is. absurd (refused_no_read number is)) (is_stream left (λ stream. Next stream (frame.Refused q) []) o) closed.1 (λ other given. none_begun given)
      (λ n _. subst (λ (m : ℕ). LastStep n o.stream s (session.closing q) (Refused m) false) (sym closed.0) (session.unframed n o.stream s q o.holds, tt))
  closed_step q WriteFault leaves o closed =
      ends WriteFault false o.stream closed.0 leaves (λ gave is. absurd (write_no_read is)) (is_stream left (λ stream. Next stream (frame.Refused q) []) o) closed.1 (λ other given. none_begun given)
      (λ n _. (session.write_failed_unframed n o.stream s q closed.0 o.holds closed.2, tt))
  closed_step q Ended leaves o closed = absurd closed
  closed_step q Truncated leaves o closed = absurd closed
  closed_step q Limit leaves o closed = absurd closed
  closed_step q ReadFault leaves o closed = absurd closed

  why_reading : (n : ℕ) (front : List ℕ) → ((p ≡ place.Fresh) × (front ≡ [])) ⊎ HasBegunMessage front → ToCome p (suc n) → MayGiveUpReading (suc n) front
  why_reading n front (inl (fresh, none)) all = inl (all fresh, none)
  why_reading n front (inr a) all = inr a

  begun_unless : (front : List ℕ) → ((p ≡ place.Fresh) × (front ≡ [])) ⊎ HasBegunMessage front → p ≢ place.Fresh → true ≡ true → HasBegunMessage front
  begun_unless front (inl (fresh, none)) other given = absurd (other fresh)
  begun_unless front (inr a) other given = a

  -- refusal 40 closed the connection before a whole message was read
  pub gave_up_reading_step : (e : SessionEnd) (front : List ℕ) → Leaves k keeper keeper' s true → Consumes left reader front → ((p ≡ place.Fresh) × (front ≡ [])) ⊎ HasBegunMessage front
      → IsClosed output output' rule.TryAgain e → Steps gives p left left' reader output output' clock clock k keeper keeper' s (Some e)
  gave_up_reading_step (Refused number) front leaves taken why closed =
      ends (Refused number) true front (session.closing rule.TryAgain) leaves (λ gave is. absurd (refused_no_read number is)) taken closed.1 (begun_unless front why)
      (λ n all. subst (λ (m : ℕ). LastStep n front s (session.closing rule.TryAgain) (Refused m) true) (sym closed.0) (session.gave_up_reading n front s (why_reading n front why all), tt))
  gave_up_reading_step WriteFault front leaves taken why closed =
      ends WriteFault true front closed.0 leaves (λ gave is. absurd (write_no_read is)) taken closed.1 (begun_unless front why) (λ n all. (session.write_failed_giving_up_reading n front s closed.0 (why_reading n front why all) closed.2, tt))
  gave_up_reading_step Ended front leaves taken none closed = absurd closed
  gave_up_reading_step Truncated front leaves taken none closed = absurd closed
  gave_up_reading_step Limit front leaves taken none closed = absurd closed
  gave_up_reading_step ReadFault front leaves taken none closed = absurd closed

module _ {C K : Type 0} (gives : C → ℕ → C → Type 0) (p : Place) (left left' reader output : Option (List ℕ)) (clock : C) (k : Ghosts K) (keeper keeper' : K) (s : State) where
  pub ended_step : Leaves k keeper keeper' s false → IsAtEnd reader → OfStream left (λ stream. Next stream frame.Ended []) → Steps gives p left left' reader output output clock clock k keeper keeper' s (Some Ended)
  ended_step leaves at_end o =
      ends gives p left left' reader output output clock k keeper keeper' s Ended false o.stream [] leaves (λ gave is. absurd (ended_no_read is)) (is_stream left (λ stream. Next stream frame.Ended []) o, at_end) (nothing_written output) (λ other given. none_begun given)
      (λ n _. (session.ended n o.stream s o.holds, tt))

  pub truncated_step : Leaves k keeper keeper' s false → IsAtEnd reader → OfStream left (λ stream. Next stream frame.Truncated []) → Steps gives p left left' reader output output clock clock k keeper keeper' s (Some Truncated)
  truncated_step leaves at_end o =
      ends gives p left left' reader output output clock k keeper keeper' s Truncated false o.stream [] leaves (λ gave is. absurd (truncated_no_read is)) (is_stream left (λ stream. Next stream frame.Truncated []) o, at_end) (nothing_written output) (λ other given. none_begun given)
      (λ n _. (session.truncated n o.stream s o.holds, tt))

  pub read_failed_step : (front : List ℕ) → Leaves k keeper keeper' s false → Consumes left reader front → Awaits front → Steps gives p left left' reader output output clock clock k keeper keeper' s (Some ReadFault)
  read_failed_step front leaves taken none =
      ends gives p left left' reader output output clock k keeper keeper' s ReadFault false front [] leaves (λ gave is. absurd (false_no_true gave)) taken (nothing_written output) (λ other given. none_begun given)
      (λ n _. (session.read_failed n front s none, tt))

  -- the same if the keeper counted a fault
  pub read_failed_giving_up_step : (front : List ℕ) → Leaves k keeper keeper' s true → Rose (k.faults keeper) (k.faults keeper') → Consumes left reader front → Awaits front → HasBegunMessage front
      → Steps gives p left left' reader output output clock clock k keeper keeper' s (Some ReadFault)
  read_failed_giving_up_step front leaves rose taken none begun =
      ends gives p left left' reader output output clock k keeper keeper' s ReadFault true front [] leaves (λ gave is. rose) taken (nothing_written output) (λ other given. begun)
      (λ n _. (session.read_failed_giving_up n front s none begun, tt))

-- ---- earlier calls that change nothing

-- the keeper counted nothing, and a crash leaves nothing new
pub record Before {K : Type 0} (k : Ghosts K) (old new : K) (s : State) : Type 0 where
  pub faults : k.faults new ≡ k.faults old
  pub open_still : k.is_open old → k.is_open new
  pub adds : AddsStanding k old new s

-- calls that leave the state unchanged and did not give up
pub before_quiet : {K : Type 0} (k : Ghosts K) (a b : K) (s : State) (gave_up : Type 0) → Quiet k a b gave_up → (gave_up → ⊥) → k.means a s → k.is_honest b → Before k a b s
before_quiet k a b s gave_up quiet other means honest =
    record { faults = quiet.rest.counted other; open_still = λ was. quiet.rest.opened honest was other; adds = quiet.crash s means honest }

pub before_held : {K : Type 0} (k : Ghosts K) (a b c : K) (s : State) → Before k a b s → HoldsUp k false b c → HoldsUp k false a c
before_held k a b c s x held = holds_more k a b c false (x.faults, x.open_still) held

pub steps_after : {C K : Type 0} (gives : C → ℕ → C → Type 0) (p : Place) (left left' reader output output' : Option (List ℕ)) (clock clock' : C) (k : Ghosts K) (a b c : K) (s : State) (end : Option SessionEnd)
    → Before k a b s → Steps gives p left left' reader output output' clock clock' k b c s end → Steps gives p left left' reader output output' clock clock' k a c s end
steps_after gives p left left' reader output output' clock clock' k a b c s None x (after, keeps, g) = (
  after,
  keeps,
  record {
    front = g.front;
    request = g.request;
    moment = g.moment;
    text = g.text;
    taken = g.taken;
    message = g.message;
    told = g.told;
    written = g.written;
    answers = g.answers;
    held = before_held k a b c s x g.held;
    lasts = through_after x.adds g.lasts;
  },
)
steps_after gives p left left' reader output output' clock clock' k a b c s (Some e) x (after, keeps, serves) = (
  after,
  keeps,
  λ n all.
      let both = serves n all in
      let r = both.0 in (
        record {
          stream = r.stream;
          moments = r.moments;
          answers = r.answers;
          gave_up = r.gave_up;
          read = r.read;
          told = r.told;
          written = r.written;
          held = held_more_to k a b c r.gave_up e (x.faults, x.open_still) r.held;
          lasts = λ none. through_after x.adds (r.lasts none);
          survives = then_survives (survives_same x.adds) r.survives;
          session = r.session;
        },
        both.1,
        both.2,
      ),
)

-- ---- the messages so far

-- Everything that can follow the messages so far completes the session. left, output, clock, keeper and s: at
-- first; those with a dash: now.
pub record Follows {C K : Type 0} (gives : C → ℕ → C → Type 0) (counter : ℕ) (left left' output output' : Option (List ℕ)) (clock clock' : C) (k : Ghosts K) (keeper keeper' : K) (s mid : State) : Type 0 where
  pub whole : (n : ℕ) (reader last : Option (List ℕ)) (end : C) (sum : K) (after : State) (e : SessionEnd) → n + counter ≡ session.most_messages
      → Serves n gives left' reader output' last clock' end k keeper' sum mid after e → Serves session.most_messages gives left reader output last clock end k keeper sum s after e

pub follows_first : {C K : Type 0} (gives : C → ℕ → C → Type 0) (left output : Option (List ℕ)) (clock : C) (k : Ghosts K) (keeper : K) (s : State) → Follows gives 0 left left output output clock clock k keeper keeper s s
follows_first gives left output clock k keeper s = record {
  whole = λ n reader last end sum after e is serves.
      let all : n ≡ session.most_messages = omega (arith, is) in
      subst (λ (m : ℕ). Serves m gives left reader output last clock end k keeper sum s after e) all serves;
}

module _ {C K : Type 0} (gives : C → ℕ → C → Type 0) (counter : ℕ) (left left' output output' : Option (List ℕ)) (clock clock' : C) (k : Ghosts K) (keeper keeper' : K) (s mid : State) (f : Follows gives counter left left' output output' clock clock' k keeper keeper' s mid) where
  pub follows_more : (left'' output'' : Option (List ℕ)) (clock'' : C) (keeper'' : K) (next : State) → Goes gives left' left'' output' output'' clock' clock'' k keeper' keeper'' mid next
      → Follows gives (counter + 1) left left'' output output'' clock clock'' k keeper keeper'' s next
  follows_more left'' output'' clock'' keeper'' next goes = record {
    whole = λ n reader last end sum after e is serves.
        f.whole (suc n) reader last end sum after e (omega (arith, is))
        (serves_more gives n left' left'' reader output' output'' last clock' clock'' end k keeper' keeper'' sum mid next after e goes serves);
  }

  pub follows_end : (p : Place) (reader last : Option (List ℕ)) (end : C) (sum : K) (after : State) (e : SessionEnd) → counter < session.most_messages → (p ≡ place.Fresh → counter ≡ 0)
      → ((n : ℕ) → ToCome p (suc n) → (serves : Serves (suc n) gives left' reader output' last clock' end k keeper' sum mid after e) × EndsAtOnce serves.session × (p ≢ place.Fresh → serves.gave_up ≡ true → HasBegunMessage serves.stream))
      → Serves session.most_messages gives left reader output last clock end k keeper sum s after e
  follows_end p reader last end sum after e lt first serves =
      f.whole (suc (999 - counter)) reader last end sum after e (omega (arith, lt)) (serves (999 - counter) (λ fresh. omega (arith, first fresh))).0

  pub follows_limit : (reader : Option (List ℕ)) → counter ≡ session.most_messages → Serves session.most_messages gives left reader output output' clock clock' k keeper keeper' s mid Limit
  follows_limit reader all = f.whole 0 reader output' clock' keeper' mid Limit (omega (arith, all)) (serves_none gives left' reader output' clock' k keeper' mid)

-- ---- the feed of a reader

-- a new feed has left exactly what its reader has
pub fresh_left : (waits : List ℕ) (known : Option (List ℕ)) → waits ≡ [] → prepend_known waits known ≡ known
fresh_left waits None empty = refl
fresh_left waits (Some xs) empty = ap (λ (t : List ℕ). Some (t ++ xs)) empty

pub not_fresh : (p : Place) → p ≡ place.Between → p ≡ place.Fresh → ⊥
not_fresh p between fresh = let both : place.Between ≡ place.Fresh = sym between ∙ fresh in absurd cc
