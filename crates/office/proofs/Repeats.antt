-- An upload acts once over a whole run.
use Rattle.std.proofs.Common.{◌≡◌, ◌∙◌, ℕ, suc, ◌+◌, Bool, true, List, [], ◌∷◌, ◌++◌, codes, length, refl, sym, ap, subst, append_assoc}
use Rattle.std.specs.Prelude.{⊤}
use Rattle.std.specs.List.{AllByRecursion}
use Rattle.hex.specs.Hex.{encode_lower}
use Rattle.sigv4.specs.Hmac.{sha256}
use Rattle.sigtext.specs.declared.refusal.Refusal.TheVariants as rule
use Rattle.sigtext.specs.Request.{Request}
use Rattle.sigtext.specs.Bytes.{IsBeginning}
use Rattle.sigtext.specs.Rules.{AllHold}
use Rattle.links.specs.WellFormed.{LinkValues}
use Rattle.links.proofs.Parts.{parts_once}
use Rattle.boxes.specs.State.{Place, State}
use Rattle.boxes.specs.Rules.{Upload}
use Rattle.boxes.specs.Steps.{Command, DropFile, CommandStep, FetchStep, UploadStep, again, found, taken}
use Rattle.boxes.specs.Steps as step
use Rattle.links.specs.CommandTexts.{IsCommand}
use Rattle.links.proofs.OneCommand.{command_once}
use Rattle.wire.specs.Answers.{Said}
use Rattle.office.specs.Admitted.{ReachesBoxes}
use Rattle.office.specs.Answering.{AcceptsRequest, put, fetch, post, Replies, refuses, accepts, shown}
use Rattle.office.specs.Repeats.{Act, Acts, text_of, AreSessionActs, AreActs, IsUploadOf, GotReceipt, DropsFile, LeavesFile, RepeatsOnce, ActsOnce}
use Rattle.office.specs.Repeats as act
use Rattle.office.specs.Rules.{IsPut, Asks, Rule, place_of, upload_of}
use Rattle.office.specs.Sessions.{EndsAtOnce, Session, Connection, Run, most_messages}
use Rattle.office.specs.Sessions as session
use Rattle.wire.specs.declared.session.SessionEnd.{SessionEnd}
use Rattle.office.proofs.Deciding.{holds_put, put_no_post, fetch_no_put}
use Rattle.office.proofs.Obeyed.{same_value}
use Rattle.office.proofs.Standing.{StandsWith, command_keeps, upload_keeps, upload_stands, upload_rules, upload_again}

-- ---- one request

abbrev the_act : State → Request → ℕ → Said → State → Act
the_act s r now reply after = record { before = s; request = r; now = now; reply = reply; after = after }

-- a request that obeys every rule reaches the boxes
reached : (s : State) (r : Request) (now : ℕ) (p : LinkValues) → AllHold (Rule s r now) p → ReachesBoxes s r now p
reached s r now p all = record { head = λ q. (all q).head; link = λ q. (all q).link; form = λ q. (all q).form }

-- an upload's reply is a receipt
kept_reply : (s t : State) (r : Request) (now : ℕ) (u : Upload) (reply : step.StepReply) (after : State) → UploadStep s u reply after
    → GotReceipt (the_act t r now (shown reply) after)
kept_reply s t r now u _ _ (again f x there holds listed) = record { number = f.receipt; size = x.size; digits = encode_lower x.digest; is = refl }
kept_reply s t r now u _ _ (taken new) = record { number = length s.receipts + 1; size = length u.bytes; digits = encode_lower (sha256 u.bytes); is = refl }

-- the parts of a request ask for at most one command
pub command_asked : (p : LinkValues) (a b : Command) → Asks p a → Asks p b → b ≡ a
command_asked p a b x y =
    let same = same_value p.params (codes "desk") y.text x.text y.given x.given in
    command_once y.text a b (subst (λ (t : List ℕ). IsCommand t a) same x.is_command) x.form y.is_command y.form

module _ (place : Place) (bytes : List ℕ) where
  -- a fetch changes nothing
  fetched_same : (s : State) (at : Place) (reply : step.StepReply) (after : State) → FetchStep s at reply after → after ≡ s
  fetched_same s at _ _ (found f r there listed) = refl

  accepted_keeps : (said : Said) (s : State) (r : Request) (now : ℕ) (reply : step.StepReply) (after : State) → AcceptsRequest s r now reply after
      → LeavesFile place bytes (the_act s r now (shown reply) after) → StandsWith place bytes said s → StandsWith place bytes said after
  accepted_keeps said s r now _ _ (put p reply after all is_put does) leaves h =
      upload_keeps place bytes said s (upload_of r now p) reply after
      (λ at. leaves.same r.body (record { parts = p; reaches = reached s r now p all; put = is_put; at = at; brings = refl }) (kept_reply s s r now (upload_of r now p) reply after does)) does h
  accepted_keeps said s r now _ _ (fetch p reply after all is_fetch does) leaves h =
      subst (StandsWith place bytes said) (sym (fetched_same s (place_of p.path) reply after does)) h
  accepted_keeps said s r now _ _ (post p command after all is_post asks does) leaves h =
      let other = (all rule.CommandNotPossible).post is_post in
      let same = command_asked p other.0 command other.1 asks in
      command_keeps place bytes said s command after (subst (step.IsPossible s) (sym same) other.2)
      (λ drops. leaves.not_dropped (record { parts = p; reaches = reached s r now p all; post = is_post; asks = subst (Asks p) drops asks; done = refl })) does h

  -- an act that leaves the file keeps it
  act_keeps : (said : Said) (s : State) (r : Request) (now : ℕ) (reply : Said) (after : State) → Replies s r now reply after
      → LeavesFile place bytes (the_act s r now reply after) → StandsWith place bytes said s → StandsWith place bytes said after
  act_keeps said s r now _ _ (refuses q first) leaves h = h
  act_keeps said s r now _ _ (accepts reply after accepted) leaves h = accepted_keeps said s r now reply after accepted leaves h

  accepted_stands : (s : State) (r : Request) (now : ℕ) (reply : step.StepReply) (after : State) → AcceptsRequest s r now reply after
      → IsUploadOf place bytes (the_act s r now (shown reply) after) → StandsWith place bytes (shown reply) after
  accepted_stands s r now _ _ (put p reply after all is_put does) up =
      let same : p ≡ up.parts = parts_once r up.parts p up.reaches.head (λ q. (all q).head) in
      let at : place_of p.path ≡ place = ap (λ (x : LinkValues). place_of x.path) same ∙ up.at in
      let stands = upload_stands s (upload_of r now p) reply after (λ q. (all q).put is_put) does in
      subst (λ (x : Place). StandsWith x bytes (shown reply) after) at (subst (λ (b : List ℕ). StandsWith (place_of p.path) b (shown reply) after) up.brings stands)
  accepted_stands s r now _ _ (fetch p reply after all is_fetch does) up = absurd (fetch_no_put r is_fetch up.put)
  accepted_stands s r now _ _ (post p command after all is_post asks does) up = absurd (put_no_post r up.put is_post)

  -- after an upload got a receipt the file is there with it
  act_stands : (s : State) (r : Request) (now : ℕ) (reply : Said) (after : State) → Replies s r now reply after
      → IsUploadOf place bytes (the_act s r now reply after) → GotReceipt (the_act s r now reply after) → StandsWith place bytes reply after
  act_stands s r now _ _ (refuses q first) up got = let is = got.is in absurd cc
  act_stands s r now _ _ (accepts reply after accepted) up got = accepted_stands s r now reply after accepted up

  module _ (said : Said) (s : State) (r : Request) (now : ℕ) (p : LinkValues) (is_put : IsPut r) (reaches : ReachesBoxes s r now p)
      (h : StandsWith (place_of p.path) r.body said s) where
    rules_hold : AllHold (Rule s r now) p
    rules_hold = holds_put s r now p reaches is_put (upload_rules said s (upload_of r now p) h)

    accepted_again : (reply : step.StepReply) (after : State) → AcceptsRequest s r now reply after → (shown reply ≡ said) × (after ≡ s)
    accepted_again _ _ (put q reply after all is does) =
        let same : q ≡ p = parts_once r p q reaches.head (λ x. (all x).head) in
        upload_again said s (upload_of r now p) reply after h (subst (λ (x : LinkValues). UploadStep s (upload_of r now x) reply after) same does)
    accepted_again _ _ (fetch q reply after all is_fetch does) = absurd (fetch_no_put r is_fetch is_put)
    accepted_again _ _ (post q command after all is_post asks does) = absurd (put_no_post r is_put is_post)

    -- if its bytes are there already, it gets their receipt
    replied_again : (reply : Said) (after : State) → Replies s r now reply after → (reply ≡ said) × (after ≡ s)
    replied_again _ _ (refuses q first) = absurd (first.fails p (λ x lt. rules_hold x) (rules_hold q))
    replied_again _ _ (accepts reply after accepted) = accepted_again reply after accepted

  act_again : (said : Said) (a : Act) → Replies a.before a.request a.now a.reply a.after → IsUploadOf place bytes a → StandsWith place bytes said a.before
      → (a.reply ≡ said) × (a.after ≡ a.before)
  act_again said a replies up h =
      let here = subst (λ (x : Place). StandsWith x bytes said a.before) (sym up.at) h in
      replied_again said a.before a.request a.now up.parts up.put up.reaches
      (subst (λ (b : List ℕ). StandsWith (place_of up.parts.path) b said a.before) (sym up.brings) here) a.reply a.after replies

  -- ---- acts in order

  -- the file is still there when the upload is repeated
  still_stands : (said : Said) (s : State) (between later : List Act) (a : Act) (after : State) → Acts s (between ++ a ∷ later) after
      → AllByRecursion (LeavesFile place bytes) between → StandsWith place bytes said s
      → StandsWith place bytes said a.before × Replies a.before a.request a.now a.reply a.after
  still_stands said s [] later a after acts leave h = (subst (StandsWith place bytes said) (sym acts.0) h, acts.1)
  still_stands said s (b ∷ between) later a after acts leave h =
      still_stands said b.after between later a after acts.2 leave.1
      (act_keeps said b.before b.request b.now b.reply b.after acts.1 leave.0 (subst (StandsWith place bytes said) (sym acts.0) h))

-- the acts after the first ones
acts_behind : (s : State) (front rest : List Act) (after : State) → Acts s (front ++ rest) after → (mid : State) × Acts mid rest after
acts_behind s [] rest after acts = (s, acts)
acts_behind s (a ∷ front) rest after acts = acts_behind a.after front rest after acts.2

pub repeats_once : (s : State) (acts : List Act) (after : State) → Acts s acts after → RepeatsOnce acts
repeats_once s acts after all earlier between later first second place bytes parts up got leave up_again =
    let joined = parts ∙ append_assoc earlier (first ∷ between) (second ∷ later) in
    let from = acts_behind s earlier (first ∷ (between ++ second ∷ later)) after (subst (λ (x : List Act). Acts s x after) joined all) in
    let here = from.1 in
    let stands = act_stands place bytes first.before first.request first.now first.reply first.after here.1 up got in
    let still = still_stands place bytes first.reply first.after between later second after here.2 leave stands in
    act_again place bytes first.reply second still.1 up_again still.0

-- ---- the acts of a session

pub record HasActs (n : ℕ) (stream : List ℕ) (s : State) (moments out : List ℕ) (e : SessionEnd) (gave_up : Bool) (after : State) : Type 0 where
  pub acts : List Act
  pub are : AreSessionActs n stream s moments out e gave_up acts after
  pub by_rules : Acts s acts after

-- no act has an answer that was written in full
abbrev pub NoneAnswered : {n : ℕ} {stream : List ℕ} {s : State} {moments out : List ℕ} {e : SessionEnd} {gave_up : Bool} {acts : List Act} {after : State}
    → AreSessionActs n stream s moments out e gave_up acts after → Type 0
NoneAnswered (act.answered n stream rest s after a acts moments out e gave_up next is more) = ⊥
NoneAnswered _ = ⊤

-- the acts of a session that ends in its first step
pub record LastActs (n : ℕ) (stream : List ℕ) (s : State) (moments out : List ℕ) (e : SessionEnd) (gave_up : Bool) (after : State) : Type 0 where
  pub acts : List Act
  pub are : AreSessionActs n stream s moments out e gave_up acts after
  pub none : NoneAnswered are
  pub by_rules : Acts s acts after

-- no acts
over : (n : ℕ) (stream : List ℕ) (s : State) (out : List ℕ) (e : SessionEnd) (gave_up : Bool) → Session n stream s [] out e gave_up s → LastActs n stream s [] out e gave_up s
over n stream s out e gave_up h = record { acts = []; are = act.over n stream s out e gave_up h; none = tt; by_rules = refl }

pub last_acts : (n : ℕ) (stream : List ℕ) (s : State) (moments out : List ℕ) (e : SessionEnd) (gave_up : Bool) (after : State)
    → (x : Session n stream s moments out e gave_up after) → EndsAtOnce x → LastActs n stream s moments out e gave_up after
last_acts _ _ _ _ _ _ _ _ (session.limit stream s) once = over _ stream s _ _ _ (session.limit stream s)
last_acts _ _ _ _ _ _ _ _ (session.ended n stream s next) once = over _ stream s _ _ _ (session.ended n stream s next)
last_acts _ _ _ _ _ _ _ _ (session.truncated n stream s next) once = over _ stream s _ _ _ (session.truncated n stream s next)
last_acts _ _ _ _ _ _ _ _ (session.unframed n stream s q next) once = over _ stream s _ _ _ (session.unframed n stream s q next)
last_acts _ _ _ _ _ _ _ _ (session.served n stream rest s mid after r now moments text out e gave_up next answers more) once = absurd once
last_acts _ _ _ _ _ _ _ _ (session.gave_up_at n stream rest s r now next readable) once =
    record { acts = []; are = act.given_up n stream rest s r now _ _ next readable (refl, refl); none = tt; by_rules = refl }
last_acts _ _ _ _ _ _ _ _ (session.gave_up_reading n stream s may) once = over _ stream s _ _ _ (session.gave_up_reading n stream s may)
last_acts _ _ _ _ _ _ _ _ (session.read_failed n stream s awaits) once = over _ stream s _ _ _ (session.read_failed n stream s awaits)
last_acts _ _ _ _ _ _ _ _ (session.read_failed_giving_up n stream s awaits begun) once = over _ stream s _ _ _ (session.read_failed_giving_up n stream s awaits begun)
last_acts _ _ _ _ _ _ _ _ (session.write_failed n stream rest s after r now text front next answers begins) once =
    let a : Act = the_act s r now answers.reply after in
    record {
      acts = a ∷ [];
      are = act.lost n stream rest s a front next refl (subst (IsBeginning front) answers.is begins);
      none = tt;
      by_rules = (refl, answers.replies, refl);
    }
last_acts _ _ _ _ _ _ _ _ (session.write_failed_unframed n stream s q front next begins) once =
    over _ stream s _ _ _ (session.write_failed_unframed n stream s q front next begins)
last_acts _ _ _ _ _ _ _ _ (session.write_failed_giving_up_at n stream rest s r now front next readable begins) once =
    record { acts = []; are = act.given_up n stream rest s r now _ _ next readable begins; none = tt; by_rules = refl }
last_acts _ _ _ _ _ _ _ _ (session.write_failed_giving_up_reading n stream s front may begins) once =
    over _ stream s _ _ _ (session.write_failed_giving_up_reading n stream s front may begins)

-- if the session gave up, there is no act
pub none_acted : (n : ℕ) (stream : List ℕ) (s : State) (moments out : List ℕ) (e : SessionEnd) (gave_up : Bool) (after : State)
    → (x : Session n stream s moments out e gave_up after) (once : EndsAtOnce x) → gave_up ≡ true → (last_acts n stream s moments out e gave_up after x once).acts ≡ []
unfolding last_acts over
none_acted _ _ _ _ _ _ _ _ (session.served n stream rest s mid after r now moments text out e gave_up next answers more) once given = absurd once
none_acted _ _ _ _ _ _ _ _ (session.write_failed n stream rest s after r now text front next answers begins) once given = absurd cc
none_acted _ _ _ _ _ _ _ _ _ once given = refl

all_of : {n : ℕ} {stream : List ℕ} {s : State} {moments out : List ℕ} {e : SessionEnd} {gave_up : Bool} {after : State} → LastActs n stream s moments out e gave_up after → HasActs n stream s moments out e gave_up after
all_of x = record { acts = x.acts; are = x.are; by_rules = x.by_rules }

pub session_acts : (n : ℕ) (stream : List ℕ) (s : State) (moments out : List ℕ) (e : SessionEnd) (gave_up : Bool) (after : State)
    → Session n stream s moments out e gave_up after → HasActs n stream s moments out e gave_up after
session_acts _ _ _ _ _ _ _ _ (session.limit stream s) = all_of (last_acts _ _ _ _ _ _ _ _ (session.limit stream s) tt)
session_acts _ _ _ _ _ _ _ _ (session.ended n stream s next) = all_of (last_acts _ _ _ _ _ _ _ _ (session.ended n stream s next) tt)
session_acts _ _ _ _ _ _ _ _ (session.truncated n stream s next) = all_of (last_acts _ _ _ _ _ _ _ _ (session.truncated n stream s next) tt)
session_acts _ _ _ _ _ _ _ _ (session.unframed n stream s q next) = all_of (last_acts _ _ _ _ _ _ _ _ (session.unframed n stream s q next) tt)
session_acts _ _ _ _ _ _ _ _ (session.served n stream rest s mid after r now moments text out e gave_up next answers more) =
    let rest_acts = session_acts n rest mid moments out e gave_up after more in
    let a : Act = the_act s r now answers.reply mid in
    record {
      acts = a ∷ rest_acts.acts;
      are = subst (λ (t : List ℕ). AreSessionActs (suc n) stream s (now ∷ moments) (t ++ out) e gave_up (a ∷ rest_acts.acts) after) (sym answers.is)
          (act.answered n stream rest s after a rest_acts.acts moments out e gave_up next refl rest_acts.are);
      by_rules = (refl, answers.replies, rest_acts.by_rules);
    }
session_acts _ _ _ _ _ _ _ _ (session.gave_up_at n stream rest s r now next readable) = all_of (last_acts _ _ _ _ _ _ _ _ (session.gave_up_at n stream rest s r now next readable) tt)
session_acts _ _ _ _ _ _ _ _ (session.gave_up_reading n stream s may) = all_of (last_acts _ _ _ _ _ _ _ _ (session.gave_up_reading n stream s may) tt)
session_acts _ _ _ _ _ _ _ _ (session.read_failed n stream s awaits) = all_of (last_acts _ _ _ _ _ _ _ _ (session.read_failed n stream s awaits) tt)
session_acts _ _ _ _ _ _ _ _ (session.read_failed_giving_up n stream s awaits begun) = all_of (last_acts _ _ _ _ _ _ _ _ (session.read_failed_giving_up n stream s awaits begun) tt)
session_acts _ _ _ _ _ _ _ _ (session.write_failed n stream rest s after r now text front next answers begins) = all_of (last_acts _ _ _ _ _ _ _ _ (session.write_failed n stream rest s after r now text front next answers begins) tt)
session_acts _ _ _ _ _ _ _ _ (session.write_failed_unframed n stream s q front next begins) = all_of (last_acts _ _ _ _ _ _ _ _ (session.write_failed_unframed n stream s q front next begins) tt)
session_acts _ _ _ _ _ _ _ _ (session.write_failed_giving_up_at n stream rest s r now front next readable begins) = all_of (last_acts _ _ _ _ _ _ _ _ (session.write_failed_giving_up_at n stream rest s r now front next readable begins) tt)
session_acts _ _ _ _ _ _ _ _ (session.write_failed_giving_up_reading n stream s front may begins) = all_of (last_acts _ _ _ _ _ _ _ _ (session.write_failed_giving_up_reading n stream s front may begins) tt)

-- ---- the acts of a run

acts_joined : (s mid after : State) (first more : List Act) → Acts s first mid → Acts mid more after → Acts s (first ++ more) after
acts_joined s mid after [] more h k = subst (λ x. Acts x more after) h k
acts_joined s mid after (a ∷ first) more h k = (h.0, h.1, acts_joined a.after mid after first more h.2 k)

pub run_acts : (s after : State) (cs : List Connection) (moments : List ℕ) → Run s cs moments after
    → (acts : List Act) × AreActs s cs moments acts after × Acts s acts after
run_acts s after [] moments h = ([], (h.0, refl, h.1), h.1)
run_acts s after (c ∷ cs) moments (first, others, mid, joined, here, more) =
    let x = session_acts most_messages c.stream s first c.answers c.end c.gave_up mid here in
    let y = run_acts mid after cs others more in
    (x.acts ++ y.0, (first, others, x.acts, y.0, mid, joined, refl, x.are, y.1), acts_joined s mid after x.acts y.0 x.by_rules y.2)

pub runs_act_once : (s after : State) (cs : List Connection) (moments : List ℕ) → Run s cs moments after → ActsOnce s cs moments after
runs_act_once s after cs moments h =
    let x = run_acts s after cs moments h in
    record { acts = x.0; are = x.1; by_rules = x.2; repeats = repeats_once s x.0 after x.2 }
