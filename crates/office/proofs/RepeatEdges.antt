-- What the promise on repeated uploads covers: which acts leave a file, that the acts of a run are exactly
-- its messages, and an upload whose answer was lost.
use Rattle.std.proofs.Common.{◌≡◌, ◌∙◌, ◌+◌, ℕ, suc, length, None, Bool, true, false, List, [], ◌∷◌, ◌++◌, codes, refl, sym, ap, subst}
use Rattle.std.specs.Prelude.{◌≢◌}
use Rattle.std.specs.FinMap.{get}
use Rattle.hex.specs.Hex.{encode_lower}
use Rattle.sigv4.specs.Hmac.{sha256}
use Rattle.sigtext.specs.Bytes.{IsBeginning, same_bytes}
use Rattle.sigtext.specs.Request.{Request}
use Rattle.sigtext.specs.declared.refusal.Refusal.{Refusal}
use Rattle.links.specs.WellFormed.{LinkValues}
use Rattle.links.proofs.Parts.{parts_once}
use Rattle.boxes.specs.State.{Place, State}
use Rattle.boxes.specs.Rules.{Upload}
use Rattle.boxes.specs.Steps.{CloseBox, Command, DropFile, UploadStep, again, taken}
use Rattle.boxes.specs.Steps as step
use Rattle.boxes.proofs.Lookups.{some_none}
use Rattle.wire.specs.Answers.{Said, Refused, Kept, Done, answer_text}
use Rattle.wire.specs.Framing.{Next}
use Rattle.wire.specs.Framing as frame
use Rattle.office.specs.Admitted.{ReachesBoxes}
use Rattle.office.specs.Answering.{AnswersRequest, Replies, accepts, fetch, post, put, refuses, shown}
use Rattle.sigtext.specs.Readable.{IsReadable}
use Rattle.office.specs.Repeats.{Act, Acts, text_of, AreSessionActs, AreActs, IsUploadOf, GotReceipt, DropsFile, LeavesFile}
use Rattle.office.specs.Repeats as act
use Rattle.office.specs.Rules.{IsPut, IsPost, IsFetch, Asks, place_of, upload_of}
use Rattle.office.specs.Sessions.{Session, Connection, Run, most_messages}
use Rattle.office.specs.Sessions as session
use Rattle.office.specs.WithoutTryAgain.{IsLastRefusal}
use Rattle.wire.specs.declared.session.SessionEnd.{SessionEnd}
use Rattle.wire.specs.declared.session.SessionEnd.TheVariants as ends
use Rattle.office.proofs.Deciding.{fetch_no_post, fetch_no_put, put_no_post}
use Rattle.office.proofs.Repeats.{command_asked, repeats_once}

-- ---- which acts leave a file

refused_kept : (q : Refusal) (number size : ℕ) (digits : List ℕ) → Refused q ≡ Kept number size digits → ⊥
refused_kept q number size digits e = cc

refused_done : (q : Refusal) → Refused q ≡ Done → ⊥
refused_done q e = cc

module _ (place : Place) (bytes : List ℕ) (a : Act) where
  -- an act that was refused
  pub refused_leaves : (q : Refusal) → a.reply ≡ Refused q → LeavesFile place bytes a
  refused_leaves q refused = record {
    same = λ other up got. absurd (refused_kept q got.number got.size got.digits (sym refused ∙ got.is));
    not_dropped = λ d. absurd (refused_done q (sym refused ∙ d.done));
  }

  -- a fetch
  pub fetch_leaves : IsFetch a.request → LeavesFile place bytes a
  fetch_leaves fetches = record {
    same = λ other up got. absurd (fetch_no_put a.request fetches up.put);
    not_dropped = λ d. absurd (fetch_no_post a.request fetches d.post);
  }

  -- an upload of the same bytes
  pub same_leaves : IsPut a.request → a.request.body ≡ bytes → LeavesFile place bytes a
  same_leaves puts brings = record {
    same = λ other up got. sym up.brings ∙ brings;
    not_dropped = λ d. absurd (put_no_post a.request puts d.post);
  }

  module _ (p : LinkValues) (reaches : ReachesBoxes a.before a.request a.now p) where
    -- an upload to another place
    pub elsewhere_leaves : IsPut a.request → place_of p.path ≢ place → LeavesFile place bytes a
    elsewhere_leaves puts other_place = record {
      same = λ other up got.
          let one : up.parts ≡ p = parts_once a.request p up.parts reaches.head up.reaches.head in
          absurd (other_place (ap (λ (x : LinkValues). place_of x.path) (sym one) ∙ up.at));
      not_dropped = λ d. absurd (put_no_post a.request puts d.post);
    }

    -- a desk command that does not drop this file
    pub command_leaves : IsPost a.request → (command : Command) → Asks p command → command ≢ DropFile place → LeavesFile place bytes a
    command_leaves posts command asks other_command = record {
      same = λ other up got. absurd (put_no_post a.request up.put posts);
      not_dropped = λ d.
          let one : d.parts ≡ p = parts_once a.request p d.parts reaches.head d.reaches.head in
          other_command (sym (command_asked p command (DropFile place) asks (subst (λ (x : LinkValues). Asks x (DropFile place)) one d.asks)));
    }

-- ---- the same reply to uploads has the same text

pub same_text : (a b : Act) → IsPut a.request → IsPut b.request → b.reply ≡ a.reply → text_of b ≡ text_of a
same_text a b puts puts' same =
    ap (λ (m : List ℕ). answer_text (same_bytes m (codes "HEAD")) b.reply) (puts' ∙ sym puts)
    ∙ ap (answer_text (same_bytes a.request.method (codes "HEAD"))) same

-- ---- the acts of a connection make its session, and those of several connections make their run

gave_up : (n : ℕ) (stream rest : List ℕ) (s : State) (r : Request) (now : ℕ) (out : List ℕ) (e : SessionEnd) → Next stream (frame.Message r) rest → IsReadable r
    → IsLastRefusal out e → Session (suc n) stream s (now ∷ []) out e true s
gave_up n stream rest s r now out (ends.Refused number) next readable last =
    subst (λ (k : ℕ). Session (suc n) stream s (now ∷ []) out (ends.Refused k) true s) (sym last.0)
    (subst (λ (t : List ℕ). Session (suc n) stream s (now ∷ []) t (ends.Refused 40) true s) (sym last.1) (session.gave_up_at n stream rest s r now next readable))
gave_up n stream rest s r now out ends.WriteFault next readable last = session.write_failed_giving_up_at n stream rest s r now out next readable last
gave_up n stream rest s r now out _ next readable last = absurd last

pub session_of : (n : ℕ) (stream : List ℕ) (s : State) (moments out : List ℕ) (e : SessionEnd) (given_up : Bool) (acts : List Act) (after : State)
    → AreSessionActs n stream s moments out e given_up acts after → Acts s acts after → Session n stream s moments out e given_up after
session_of _ _ _ _ _ _ _ _ _ (act.over n stream s out e given_up h) by_rules = h
session_of _ _ _ _ _ _ _ _ _ (act.given_up n stream rest s r now out e next readable last) by_rules = gave_up n stream rest s r now out e next readable last
session_of _ _ _ _ _ _ _ _ _ (act.answered n stream rest s after a acts moments out e given_up next from more) by_rules =
    let answers : AnswersRequest a.before a.request a.now (text_of a) a.after = record { reply = a.reply; replies = by_rules.1; is = refl } in
    session.served n stream rest s a.after after a.request a.now moments (text_of a) out e given_up next
    (subst (λ x. AnswersRequest x a.request a.now (text_of a) a.after) from answers) (session_of n rest a.after moments out e given_up acts after more by_rules.2)
session_of _ _ _ _ _ _ _ _ _ (act.lost n stream rest s a front next from begins) by_rules =
    let answers : AnswersRequest a.before a.request a.now (text_of a) a.after = record { reply = a.reply; replies = by_rules.1; is = refl } in
    session.write_failed n stream rest s a.after a.request a.now (text_of a) front next (subst (λ x. AnswersRequest x a.request a.now (text_of a) a.after) from answers) begins

-- the acts of a session, and those after it
acts_parted : (n : ℕ) (stream : List ℕ) (s : State) (moments out : List ℕ) (e : SessionEnd) (given_up : Bool) (here : List Act) (mid : State) (more : List Act) (after : State)
    → AreSessionActs n stream s moments out e given_up here mid → Acts s (here ++ more) after → Acts s here mid × Acts mid more after
acts_parted _ _ _ _ _ _ _ _ _ more after (act.over n stream s out e given_up h) acts = (refl, acts)
acts_parted _ _ _ _ _ _ _ _ _ more after (act.given_up n stream rest s r now out e next readable last) acts = (refl, acts)
acts_parted _ _ _ _ _ _ _ _ _ more after (act.answered n stream rest s mid a here moments out e given_up next from are) acts =
    let x = acts_parted n rest a.after moments out e given_up here mid more after are acts.2 in
    ((acts.0, acts.1, x.0), x.1)
acts_parted _ _ _ _ _ _ _ _ _ more after (act.lost n stream rest s a front next from begins) acts = ((acts.0, acts.1, refl), acts.2)

pub run_of : (s after : State) (cs : List Connection) (moments : List ℕ) (acts : List Act) → AreActs s cs moments acts after → Acts s acts after → Run s cs moments after
run_of s after [] moments acts are by_rules = (are.0, are.2)
run_of s after (c ∷ cs) moments acts (first, others, here, more, mid, joined, parted, are, rest) by_rules =
    let x = acts_parted most_messages c.stream s first c.answers c.end c.gave_up here mid more after are (subst (λ (t : List Act). Acts s t after) parted by_rules) in
    (first, others, mid, joined, session_of most_messages c.stream s first c.answers c.end c.gave_up here mid are x.0, run_of mid after cs others more rest x.1)

-- ---- an example: an upload's answer was lost, and the upload is repeated on the next connection

module _ (s mid after : State) (first second : List ℕ) (r q : Request) (now later : ℕ) (text front again : List ℕ) (next : Next first (frame.Message r) []) (next' : Next second (frame.Message q) [])
    (answers : AnswersRequest s r now text mid) (begins : IsBeginning front text) (answers' : AnswersRequest mid q later again after) where
  abbrev cut_off : Connection
  cut_off = record { stream = first; answers = front; end = ends.WriteFault; gave_up = false }

  abbrev whole : Connection
  whole = record { stream = second; answers = again ++ []; end = ends.Ended; gave_up = false }

  abbrev run_of_both : Run s (cut_off ∷ whole ∷ []) (now ∷ later ∷ []) after
  run_of_both = (
    now ∷ [],
    later ∷ [],
    mid,
    refl,
    session.write_failed 999 first [] s mid r now text front next answers begins,
    (later ∷ [], [], after, refl, session.served 999 second [] mid after after q later [] again [] ends.Ended false next' answers' (session.ended 998 [] after (frame.ended refl)), (refl, refl)),
  )

  abbrev lost_act : Act
  lost_act = record { before = s; request = r; now = now; reply = answers.reply; after = mid }

  abbrev second_act : Act
  second_act = record { before = mid; request = q; now = later; reply = answers'.reply; after = after }

  -- The text of the second answer is the one of which a prefix was written before, and nothing was changed.
  pub lost_then_again : (place : Place) (bytes : List ℕ) → IsUploadOf place bytes lost_act → GotReceipt lost_act → IsUploadOf place bytes second_act → (again ≡ text) × (after ≡ mid)
  lost_then_again place bytes up got up' =
      let once = repeats_once s (lost_act ∷ second_act ∷ []) after (refl, answers.replies, (refl, answers'.replies, refl)) [] [] [] lost_act second_act place bytes refl up got tt up' in
      (answers'.is ∙ same_text lost_act second_act up.put up'.put once.0 ∙ sym answers.is, once.1)

-- ---- further examples

no_drop : (name : List ℕ) (moment : ℕ) (place : Place) → CloseBox name moment ≢ DropFile place
no_drop name moment place e = cc

-- the box was closed, and the upload is repeated
pub closed_then_again : (s after : State) (first close second : Act) (place : Place) (bytes : List ℕ) (p : LinkValues) (moment : ℕ) → Acts s (first ∷ close ∷ second ∷ []) after
    → IsUploadOf place bytes first → GotReceipt first → ReachesBoxes close.before close.request close.now p → IsPost close.request → Asks p (CloseBox place.box moment)
    → IsUploadOf place bytes second → (second.reply ≡ first.reply) × (second.after ≡ second.before)
closed_then_again s after first close second place bytes p moment acts up got reaches posts asks up' =
    repeats_once s (first ∷ close ∷ second ∷ []) after acts [] (close ∷ []) [] first second place bytes refl up got
    (command_leaves place bytes close p reaches posts (CloseBox place.box moment) asks (no_drop place.box moment place), tt) up'

-- if there is no file, for example after it was dropped, an upload that gets a receipt gets a new one
new_step : (s : State) (u : Upload) (reply : step.StepReply) (after : State) → get s.files u.place ≡ None → UploadStep s u reply after
    → shown reply ≡ Kept (length s.receipts + 1) (length u.bytes) (encode_lower (sha256 u.bytes))
new_step s u _ _ none (again f r there holds listed) = absurd (some_none f (sym there ∙ none))
new_step s u _ _ none (taken new) = refl

new_receipt : (s : State) (r : Request) (now : ℕ) (p : LinkValues) (reply : Said) (after : State) → Replies s r now reply after
    → IsPut r → ReachesBoxes s r now p → get s.files (place_of p.path) ≡ None → (number size : ℕ) (digits : List ℕ) → reply ≡ Kept number size digits
    → reply ≡ Kept (length s.receipts + 1) (length r.body) (encode_lower (sha256 r.body))
new_receipt s r now p _ _ (refuses q first) puts reaches none number size digits is = absurd (refused_kept q number size digits is)
new_receipt s r now p _ _ (accepts _ _ (put q reply after all is_put does)) puts reaches none number size digits is =
    let same : q ≡ p = parts_once r p q reaches.head (λ x. (all x).head) in
    new_step s (upload_of r now p) reply after none (subst (λ (x : LinkValues). UploadStep s (upload_of r now x) reply after) same does)
new_receipt s r now p _ _ (accepts _ _ (fetch q reply after all is_fetch does)) puts reaches none number size digits is = absurd (fetch_no_put r is_fetch puts)
new_receipt s r now p _ _ (accepts _ _ (post q command after all is_post asks does)) puts reaches none number size digits is = absurd (put_no_post r puts is_post)

pub gets_new_receipt : (place : Place) (bytes : List ℕ) (a : Act) → Replies a.before a.request a.now a.reply a.after → IsUploadOf place bytes a → GotReceipt a
    → get a.before.files place ≡ None → a.reply ≡ Kept (length a.before.receipts + 1) (length bytes) (encode_lower (sha256 bytes))
gets_new_receipt place bytes a replies up got none =
    subst (λ (b : List ℕ). a.reply ≡ Kept (length a.before.receipts + 1) (length b) (encode_lower (sha256 b))) up.brings
    (new_receipt a.before a.request a.now up.parts a.reply a.after replies up.put up.reaches (ap (get a.before.files) up.at ∙ none) got.number got.size got.digits got.is)
