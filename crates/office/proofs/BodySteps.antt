-- One step of a session after a head was read.
use Rattle.std.proofs.Common.{◌≡◌, ◌≢◌, ◌↔◌, ◌∙◌, ◌≤◌, ◌<◌, ℕ, Bool, true, false, List, [], ◌++◌, length, replicate, Option, Some, Result, Ok, Err, inl, inr, refl, sym, subst}
use Rattle.std.specs.Prelude.{IfSome, IsFalse, IsTrue, OnErr}
use Rattle.std.proofs.lemmas.Bool.{false≢true}
use Rattle.std.specs.Io.KnownBytes.{Consumes}
use Rattle.std.proofs.KnownBytes.{Consumes-trans}
use Rattle.std.proofs.lemmas.List.{length-replicate}
use Rattle.sigtext.specs.Counts.{Rose}
use Rattle.sigtext.specs.declared.refusal.Refusal.{Refusal}
use Rattle.sigtext.specs.declared.refusal.Refusal.TheVariants as rule
use Rattle.sigtext.specs.Limits.{most_body}
use Rattle.sigtext.specs.Request.{Request}
use Rattle.httparse.specs.Grammar.{RequestHead}
use Rattle.links.specs.WellFormed.{LinkValues, IsWellFormed}
use Rattle.boxes.specs.State.{State}
use Rattle.wire.specs.Feeding.{Awaits, OfStream, Opens}
use Rattle.wire.specs.Framing.{Next, request_of}
use Rattle.wire.specs.Framing as frame
use Rattle.wire.specs.Judging.{HeadAnnounces}
use Rattle.wire.proofs.NextMessages.{IsNextMessage}
use Rattle.wire.specs.Whole.{IsOpening, LacksBody, TakesBody}
use Rattle.wire.specs.declared.feed.Feed.{Feed}
use Rattle.boxes.specs.declared.keep.Keeper.{Ghosts}
use Rattle.wire.proofs.BrokenOff.{awaits_body}
use Rattle.wire.proofs.Halves.{head_taken, lacking_joined, message_joined}
use Rattle.office.specs.declared.requests.foreseeing.Prospect.{Prospect}
use Rattle.office.specs.declared.requests.foreseeing.Body.{Body}
use Rattle.office.specs.Foreseeing.{AreStaged, Foresees, IsUpload}
use Rattle.office.specs.Receiving.{StagesBody}
use Rattle.sigtext.specs.Readable.{IsReadable}
use Rattle.office.specs.Sessions.{HasBegunMessage}
use Rattle.office.specs.Responding.{IsClosed}
use Rattle.office.specs.Stepping.{HandlesBy, IsExpected, LeavesOff, Steps, StepsBy}
use Rattle.office.specs.declared.connections.responding.Handled.{Handled}
use Rattle.office.specs.declared.connections.responding.Handled.TheVariants as handled
use Rattle.office.specs.declared.connections.responding.Response.TheVariants as response
use Rattle.wire.specs.declared.answer.Answer.{Answer}
use Rattle.wire.specs.declared.session.SessionEnd.{SessionEnd}
use Rattle.wire.specs.declared.session.SessionEnd.TheVariants.{ReadFault}
use Rattle.office.specs.Answering.{is_head}
use Rattle.office.specs.Handling.{Handles, end_of}
use Rattle.office.specs.Premise.{IsFault, WasKept}
use Rattle.boxes.specs.declared.keep.KeepFault.{KeepFault}
use Rattle.wire.specs.Feeds.{left, reader_of, waits_in, whole_left}
use Rattle.wire.specs.declared.feed.Place.{Place}
use Rattle.office.specs.Frames.{Quiet}
use Rattle.office.proofs.KeeperCalls.{quiet_then}
use Rattle.office.proofs.Stagings.{reader_taken}
use Rattle.office.proofs.SessionSteps.{Before, answered_step, broken_step, closed_step, gave_up_reading_step, gave_up_step, leaves_given_up, leaves_quiet, read_failed_giving_up_step, read_failed_step, steps_after}

-- the head announces as many bytes as the body has
abbrev pub opens_with : (text : List ℕ) (has_length : Bool) (size : ℕ) (o : Opens text has_length size) (body : List ℕ) → length body ≡ size → Opens text has_length (length body)
opens_with text has_length size o body len = record {
  is_front = o.is_front;
  small = subst (λ (n : ℕ). n ≤ most_body) (sym len) o.small;
  head = o.head;
  tells = subst (λ (n : ℕ). HeadAnnounces text o.head has_length n) (sym len) o.tells;
}

-- a well-formed request is readable with any body
pub readable_of : (head : RequestHead) (has_length : Bool) (body other : List ℕ) (p : LinkValues) → IsWellFormed (request_of head has_length body) p → IsReadable (request_of head has_length other)
readable_of head has_length body other p formed =
    record { served = formed rule.Method; path = p.path; params = p.params; target = formed rule.Target; named = (formed rule.NotSigned, (formed rule.Parameters).no_other) }

pub upload_readable : (s : State) (head : RequestHead) (has_length : Bool) (body other : List ℕ) (foreseen : Result Prospect Refusal) → Foresees s (request_of head has_length body) foreseen → IsUpload foreseen
    → IsReadable (request_of head has_length other)
upload_readable s head has_length body other (Ok f) foresees upload = readable_of head has_length body other foresees.parts foresees.link.well_formed
upload_readable s head has_length body other (Err q) foresees upload = absurd upload

-- a head was read, which is at the front of what was left
module _ (known mid : Option (List ℕ)) {text : List ℕ} {has_length : Bool} {size : ℕ} (x : IsOpening text has_length size known mid) where
  -- the whole body came
  abbrev pub next_message : (new : Option (List ℕ)) (body : List ℕ) → length body ≡ size → Consumes mid new body → IsNextMessage text has_length body known new
  next_message new body len taken = message_joined known mid new text body has_length (opens_with text has_length size x.opens body len) x.front taken

  -- the body ended early
  pub lacks : 0 < size → IfSome mid (λ rest. length rest < size) → OfStream known (λ stream. Next stream (frame.Refused rule.BodyIncomplete) [])
  lacks some few = lacking_joined known mid text has_length size x.opens x.front some few

  pub read_on : (reader : Option (List ℕ)) (given : List ℕ) → Consumes mid reader given → Consumes known reader (text ++ given)
  read_on reader given taken = Consumes-trans known mid reader text given (head_taken known mid text x.front) taken

  pub awaits : (given : List ℕ) → length given < size → Awaits (text ++ given)
  awaits given few = awaits_body text given has_length size x.opens few

  pub has_begun : (given : List ℕ) → IsReadable (request_of x.opens.head has_length []) → HasBegunMessage (text ++ given)
  has_begun given readable = record { text = text; given = given; has_length = has_length; size = size; whole = refl; opens = x.opens; readable = readable }

-- an upload was foreseen
upload_begun : (s : State) (size : ℕ) (known mid : Option (List ℕ)) (foreseen : Result Prospect Refusal) (to_head : Bool) {text : List ℕ} (x : IsExpected s size known mid foreseen to_head text) (given : List ℕ) → IsUpload foreseen
    → HasBegunMessage (text ++ given)
upload_begun s size known mid foreseen to_head x given upload =
    let body = replicate size 0 in
    has_begun known mid x.opening given (upload_readable s x.opening.opens.head x.has_length body [] foreseen (x.foresees body (length-replicate size 0)) upload)

-- ---- a whole body

-- the body that came; if it was to be staged, it is
pub record HasCome {R K : Type 0} (remaining : R → Option (List ℕ)) (size : ℕ) (old new : Feed R) (k : Ghosts K) (keeper : K) (is_staged : Bool) (b : Body) : Type 0 where
  pub body : List ℕ
  pub taken : TakesBody remaining size old new body
  pub staged : IsTrue is_staged → AreStaged k keeper body b

pub has_come : {R K : Type 0} (remaining : R → Option (List ℕ)) (size : ℕ) (old new : Feed R) (k : Ghosts K) (keeper : K) (is_staged : Bool) (b : Body) → size ≤ most_body
    → (IsFalse is_staged → (body : List ℕ) × TakesBody remaining size old new body) → (IsTrue is_staged → StagesBody remaining size old new k keeper b.digest) → b.length ≡ size
    → HasCome remaining size old new k keeper is_staged b
has_come remaining size old new k keeper true b small came stages len =
    let x = stages refl in
    record {
      body = x.body;
      taken = x.taken;
      staged = λ _. record {
        staged = x.staged;
        octets = x.octets;
        short = subst (λ (n : ℕ). n ≤ most_body) (sym x.taken.0) small;
        length_is = len ∙ sym x.taken.0;
        digest = x.digest_is;
      };
    }
has_come remaining size old new k keeper false b small came stages len = record { body = (came refl).0; taken = (came refl).1; staged = λ is. absurd (false≢true is) }

-- the same for what was foreseen of its message
pub record CameWhole {R K : Type 0} (remaining : R → Option (List ℕ)) (size : ℕ) (old new : Feed R) (k : Ghosts K) (keeper : K) (foreseen : Result Prospect Refusal) (b : Body) : Type 0 where
  pub body : List ℕ
  pub taken : TakesBody remaining size old new body
  pub staged : IsUpload foreseen → AreStaged k keeper body b

pub came_whole : {R K : Type 0} (remaining : R → Option (List ℕ)) (size : ℕ) (old new : Feed R) (k : Ghosts K) (keeper : K) (foreseen : Result Prospect Refusal) (upload : Bool) (b : Body) → size ≤ most_body
    → (IsTrue upload ↔ IsUpload foreseen) → (IsFalse upload → (body : List ℕ) × TakesBody remaining size old new body) → (IsTrue upload → StagesBody remaining size old new k keeper b.digest) → b.length ≡ size
    → CameWhole remaining size old new k keeper foreseen b
came_whole remaining size old new k keeper foreseen upload b small is came stages len =
    let x = has_come remaining size old new k keeper upload b small came stages len in
    record { body = x.body; taken = x.taken; staged = λ up. x.staged (is.1 up) }

-- ---- steps after a head

-- the whole body came, and the message was handled
pub handled_step : {R C K : Type 0} (remaining : R → Option (List ℕ)) (new : Feed R) (gives : C → ℕ → C → Type 0) (p : Place) (known output output' : Option (List ℕ)) (clock clock' : C) (k : Ghosts K) (b c : K) (s : State)
    (text : List ℕ) (has_length : Bool) (body : List ℕ) (m : IsNextMessage text has_length body known (left remaining new)) (h : Handled) → Handles gives clock clock' output output' k b c s (request_of m.opens.head has_length body) h
    → Steps gives p known (left remaining new) (remaining (reader_of new).inner) output output' clock clock' k b c s (end_of h)
handled_step remaining new gives p known output output' clock clock' k b c s text has_length body m handled.Answered handles =
    answered_step gives p known (remaining (reader_of new).inner) output output' clock clock' k b c s text has_length body (waits_in new) m handles
handled_step remaining new gives p known output output' clock clock' k b c s text has_length body m handled.GaveUp handles =
    gave_up_step gives p known (remaining (reader_of new).inner) output output' clock clock' k b c s text has_length body (waits_in new) m handles
handled_step remaining new gives p known output output' clock clock' k b c s text has_length body m handled.Broken handles =
    broken_step gives p known (remaining (reader_of new).inner) output output' clock clock' k b c s text has_length body (waits_in new) m handles

module _ {R C K : Type 0} (remaining : R → Option (List ℕ)) (size : ℕ) (old new : Feed R) (gives : C → ℕ → C → Type 0) (p : Place) (known : Option (List ℕ)) (clock clock' : C) (k : Ghosts K) (a b c : K) (s : State)
    (foreseen : Result Prospect Refusal) (to_head : Bool) {text : List ℕ} (x : IsExpected s size known (whole_left remaining old) foreseen to_head text) where
  -- the whole body came, and this answers the message
  pub whole_step : (y : Answer) (told : Body) → CameWhole remaining size old new k b foreseen told → Before k a b s
      → ((r : Request) → Foresees s r foreseen → (foreseen ≢ Err rule.TryAgain) → to_head ≡ is_head r → (IsUpload foreseen → AreStaged k b r.body told) → HandlesBy gives clock clock' k b c s r y)
      → StepsBy gives p known (left remaining new) (remaining (reader_of new).inner) clock clock' k a c s (response.Answer y)
  whole_step y told came before handles = λ output output' h sent.
      let m = next_message known (whole_left remaining old) x.opening (left remaining new) came.body came.taken.0 came.taken.3 in
      steps_after gives p known (left remaining new) (remaining (reader_of new).inner) output output' clock clock' k a b c s (end_of h) before
      (handled_step remaining new gives p known output output' clock clock' k b c s text x.has_length came.body m h
      (handles (request_of x.opening.opens.head x.has_length came.body) (x.foresees came.body came.taken.0) x.tells (x.head came.body) came.staged output output' h sent))

module _ {R C K : Type 0} (remaining : R → Option (List ℕ)) (size : ℕ) (old new : Feed R) (gives : C → ℕ → C → Type 0) (p : Place) (known output output' : Option (List ℕ)) (clock : C) (k : Ghosts K) (a b : K) (s : State)
    (foreseen : Result Prospect Refusal) (to_head : Bool) {text : List ℕ} (x : IsExpected s size known (whole_left remaining old) foreseen to_head text) where
  -- refusal 40 closed the connection within the body of an upload
  pub given_up_step : (e : SessionEnd) (given : List ℕ) (gave_up : Type 0) → Quiet k a b gave_up → WasKept k a b s → Consumes (whole_left remaining old) (remaining (reader_of new).inner) given → IsUpload foreseen
      → IsClosed output output' rule.TryAgain e → Steps gives p known (left remaining new) (remaining (reader_of new).inner) output output' clock clock k a b s (Some e)
  given_up_step e given gave_up quiet kept taken upload closed =
      gave_up_reading_step gives p known (left remaining new) (remaining (reader_of new).inner) output output' clock k a b s e (text ++ given) (leaves_given_up k a b s gave_up quiet kept)
      (read_on known (whole_left remaining old) x.opening (remaining (reader_of new).inner) given taken) (inr (upload_begun s size known (whole_left remaining old) foreseen to_head x given upload)) closed

  -- the stream ended within the body
  pub lacking_step : (q : Refusal) (e : SessionEnd) (mid : K) (upload : Bool) → Quiet k a mid ⊥ → Quiet k mid b (q ≡ rule.TryAgain) → WasKept k a b s → LacksBody remaining size old new → (IsTrue upload → IsUpload foreseen)
      → LeavesOff k mid b upload q → IsClosed output output' q e → Steps gives p known (left remaining new) (remaining (reader_of new).inner) output output' clock clock k a b s (Some e)
  lacking_step q e mid upload first second kept lacking up_is (inl (is, rest)) closed =
      closed_step gives p known (left remaining new) (remaining (reader_of new).inner) output output' clock k a b s rule.BodyIncomplete e
      (leaves_quiet k a b s ⊥ (quiet_then first (record { same = second.same; crash = second.crash; rest = rest })) kept (λ none. none))
      (lacks known (whole_left remaining old) x.opening lacking.1 lacking.2) (subst (λ (r : Refusal). IsClosed output output' r e) is closed)
  lacking_step q e mid upload first second kept lacking up_is (inr (is, up)) closed =
      given_up_step e lacking.3 (q ≡ rule.TryAgain) (quiet_then first second) kept lacking.4 (up_is up) (subst (λ (r : Refusal). IsClosed output output' r e) is closed)

module _ {R C K T : Type 0} (remaining : R → Option (List ℕ)) (size : ℕ) (old new : Feed R) (gives : C → ℕ → C → Type 0) (p : Place) (known output : Option (List ℕ)) (clock : C) (k : Ghosts K) (a b : K) (s : State)
    (foreseen : Result Prospect Refusal) (to_head : Bool) {text : List ℕ} (x : IsExpected s size known (whole_left remaining old) foreseen to_head text) where
  -- a read failed within the body, and what was staged of it was dropped
  pub broken_off_step : (result : Result T KeepFault) (upload : Bool) (given : List ℕ) → Quiet k a b (IsFault result) → OnErr result (Rose (k.faults a) (k.faults b)) → WasKept k a b s → OnErr result (IsTrue upload) → (IsTrue upload → IsUpload foreseen)
      → Consumes (whole_left remaining old) (remaining (reader_of new).inner) given → length given < size → Steps gives p known (left remaining new) (remaining (reader_of new).inner) output output clock clock k a b s (Some ReadFault)
  broken_off_step (Ok done) upload given quiet rose kept asked is taken few =
      read_failed_step gives p known (left remaining new) (remaining (reader_of new).inner) output clock k a b s (text ++ given) (leaves_quiet k a b s ⊥ quiet kept (λ none. none))
      (read_on known (whole_left remaining old) x.opening (remaining (reader_of new).inner) given taken) (awaits known (whole_left remaining old) x.opening given few)
  broken_off_step (Err f) upload given quiet rose kept asked is taken few =
      read_failed_giving_up_step gives p known (left remaining new) (remaining (reader_of new).inner) output clock k a b s (text ++ given) (leaves_given_up k a b s (IsFault {T = T} (Err f)) quiet kept) rose
      (read_on known (whole_left remaining old) x.opening (remaining (reader_of new).inner) given taken) (awaits known (whole_left remaining old) x.opening given few)
      (upload_begun s size known (whole_left remaining old) foreseen to_head x given (is asked))

-- a head was read, and refusal 40 closed the connection before the body was
pub head_given_up_step : {R C K : Type 0} (remaining : R → Option (List ℕ)) (feed : Feed R) (gives : C → ℕ → C → Type 0) (p : Place) (known output output' : Option (List ℕ)) (clock : C) (k : Ghosts K) (a b : K) (s : State)
    (text : List ℕ) (has_length : Bool) (size : ℕ) (x : IsOpening text has_length size known (left remaining feed)) (e : SessionEnd) (gave_up : Type 0) → Quiet k a b gave_up → WasKept k a b s
    → IsReadable (request_of x.opens.head has_length []) → IsClosed output output' rule.TryAgain e
    → Steps gives p known (left remaining feed) (remaining (reader_of feed).inner) output output' clock clock k a b s (Some e)
head_given_up_step remaining feed gives p known output output' clock k a b s text has_length size x e gave_up quiet kept readable closed =
    let reader = remaining (reader_of feed).inner in
    let begun : HasBegunMessage (text ++ waits_in feed) = record { text = text; given = waits_in feed; has_length = has_length; size = size; whole = refl; opens = x.opens; readable = readable } in
    gave_up_reading_step gives p known (left remaining feed) reader output output' clock k a b s e (text ++ waits_in feed) (leaves_given_up k a b s gave_up quiet kept)
    (reader_taken known reader text (waits_in feed) (head_taken known (left remaining feed) text x.front)) (inr begun) closed
