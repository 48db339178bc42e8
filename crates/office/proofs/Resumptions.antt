-- Steps that go on with a message whose body has not come whole.
use Rattle.std.proofs.Common.{◌≡◌, ◌≤◌, ◌-◌, ℕ, Bool, true, false, List, [], ◌++◌, Option, None, Some, Result, ◌⊎◌, inl, inr, ap, arith, refl, sym, subst, ◌∙◌}
use denote.Struct.Props.{props}
use Rattle.std.proofs.Math.Logic.{∥∥₁_elim}
use Rattle.std.specs.Prelude.{IfSome, IsFalse, IsSome, IsTrue, is_some}
use Rattle.std.specs.Option.{ForSome}
use Rattle.std.specs.Io.KnownBytes.{Consumes, Keeps, prepend_known}
use Rattle.std.proofs.KnownBytes.{Consumes-trans, Keeps-trans}
use Rattle.sigtext.specs.Bytes.{AreBytes}
use Rattle.httparse.specs.Grammar.{RequestHead}
use Rattle.httparse.proofs.GrammarLemmas.{request_unique}
use Rattle.sigtext.specs.Limits.{most_body}
use Rattle.sigtext.specs.Readable.{IsReadable}
use Rattle.sigtext.specs.Request.{Request}
use Rattle.sigtext.specs.declared.field.Field.{Field}
use Rattle.sigtext.specs.declared.refusal.Refusal.{Refusal}
use Rattle.sigtext.specs.declared.refusal.Refusal.TheVariants as rule
use Rattle.sigv4.specs.Hashers.{ShaHolds}
use Rattle.sigv4.specs.declared.hash.Sha.{Sha}
use Rattle.boxes.specs.Keeping.{KeepsStaged}
use Rattle.boxes.specs.State.{State}
use Rattle.boxes.specs.declared.keep.Keeper.{Ghosts}
use Rattle.wire.specs.Feeding.{Opens}
use Rattle.wire.specs.Feeds.{given_of, left, place_of, reader_of, waits_in, whole_left}
use Rattle.wire.specs.Framing.{IsFront, request_of}
use Rattle.wire.specs.Openings.{ArePartsOf}
use Rattle.wire.specs.Underways.{IsBegun, IsKept, IsWholeHead}
use Rattle.wire.specs.Whole.{BreaksOffWithin, IsOpening, LacksBody, TakesBody, WaitsWithin}
use Rattle.wire.specs.declared.feed.Feed.{Feed}
use Rattle.wire.specs.declared.feed.Place.{Place}
use Rattle.wire.specs.declared.head.Head.{Head}
use Rattle.wire.specs.declared.session.SessionEnd.{SessionEnd}
use Rattle.wire.specs.declared.session.SessionEnd.TheVariants.{ReadFault}
use Rattle.wire.specs.declared.underway.Kept.{Kept}
use Rattle.wire.proofs.Backlogs.{consumes_waiting, prepend-kept}
use Rattle.wire.proofs.WaitingFronts.{front_further}
use Rattle.office.specs.Foreseeing.{IsReadOf, IsUpload}
use Rattle.office.specs.Frames.{Quiet}
use Rattle.office.specs.Handling.{end_of}
use Rattle.office.specs.Premise.{EndsUnstaged, IsGivenUp, WasKept}
use Rattle.office.specs.Receiving.{HoldsPart}
use Rattle.office.specs.Responding.{IsClosed}
use Rattle.office.specs.Resuming.{EndsWhole, given_up, handled}
use Rattle.office.specs.Sessions.{HasBegunMessage}
use Rattle.office.specs.Stepping.{Steps, StepsBy}
use Rattle.office.specs.declared.connections.responding.Response.{Response}
use Rattle.office.specs.declared.requests.foreseeing.Prospect.{Prospect}
use Rattle.office.proofs.BodySteps.{awaits, handled_step, has_begun, lacks, next_message, read_on}
use Rattle.office.proofs.Foreseen.{upload_readable}
use Rattle.office.proofs.Handlings.{read_given_up}
use Rattle.office.proofs.SessionSteps.{Before, closed_step, gave_up_reading_step, leaves_given_up, leaves_quiet, read_failed_step, steps_after}
use Rattle.office.proofs.Stagings.{reader_taken}
use Rattle.office.proofs.Unstaged.{ends_later}

-- ---- the head

module _ {text : List ℕ} {has_length : Bool} {size : ℕ} (o : Opens text has_length size) where
  pub front_left : (known mid : Option (List ℕ)) → Keeps known (prepend_known text mid) → IfSome known (λ stream. (rest : List ℕ) × IsFront stream text rest × (mid ≡ Some rest))
  front_left None mid kept = tt
  front_left (Some stream) None kept = absurd kept
  front_left (Some stream) (Some rest) kept = (rest, subst (λ (t : List ℕ). IsFront t text rest) kept (front_further text rest o.is_front), refl)

  -- the head is at the front of what was left
  abbrev pub opening_left : (known mid : Option (List ℕ)) → Keeps known (prepend_known text mid) → IsOpening text has_length size known mid
  opening_left known mid kept = record { opens = o; front = front_left known mid kept }

-- the body that a whole head announces is not too large
pub small_body : (text : List ℕ) (n : ℕ) → IsWholeHead text n → n ≤ most_body
small_body text n whole =
    let none : n - most_body ≡ 0 = ∥∥₁_elim whole (hlevel props) (λ (x : (has_length : Bool) × Opens text has_length n). let small = x.1.small in omega (arith, small)) in
    omega (arith, none)

-- the parts that were read of a head are those of the head that it opens with
pub same_parts : (text : List ℕ) (parts : Head) (fields : List Field) (has_length : Bool) (n : ℕ) (o : Opens text has_length n) → ArePartsOf text parts fields
    → (o.head.method ≡ parts.method.now) × (o.head.target ≡ parts.target.now)
same_parts text parts fields has_length n o f =
    let once : o.head ≡ f.0 = (request_unique text o.head f.0 [] [] o.tells.is_head.reads f.1.reads).0 in
    (ap (λ (h : RequestHead). h.method) once ∙ sym f.2, ap (λ (h : RequestHead). h.target) once ∙ sym f.3)

-- ---- steps that are done

module _ {R C K : Type 0} (remaining : R → Option (List ℕ)) (size : ℕ) (old new : Feed R) (gives : C → ℕ → C → Type 0) (p : Place) (known : Option (List ℕ)) (clock clock' : C) (k : Ghosts K) (a b c : K) (s : State)
    (text : List ℕ) (kept : Keeps known (prepend_known text (whole_left remaining old))) where
  -- the whole body came
  pub resumed_whole : (has_length : Bool) (o : Opens text has_length size) (body : List ℕ) (x : Response) → TakesBody remaining size old new body → Before k a b s
      → EndsWhole gives clock clock' k b c s (request_of o.head has_length body) x → StepsBy gives p known (left remaining new) (remaining (reader_of new).inner) clock clock' k a c s x
  resumed_whole has_length o body _ taken before (handled mid y held adds handles) = λ output output' h sent.
      let reader = remaining (reader_of new).inner in
      let m = next_message known (whole_left remaining old) (opening_left o known (whole_left remaining old) kept) (left remaining new) body taken.0 taken.3 in
      steps_after gives p known (left remaining new) reader output output' clock clock' k a b c s (end_of h) before
      (steps_after gives p known (left remaining new) reader output output' clock clock' k b mid c s (end_of h) (record { faults = held.0; open_still = held.1; adds = adds })
      (handled_step remaining new gives p known output output' clock clock' k mid c s text has_length body m h (handles output output' h sent)))
  resumed_whole has_length o body _ taken before (given_up same held adds keeps r) = λ output output' e closed.
      let reader = remaining (reader_of new).inner in
      let x = opening_left o known (whole_left remaining old) kept in
      let given = body ++ waits_in new in
      let readable : IsReadable (request_of o.head has_length []) = record { served = r.served; path = r.path; params = r.params; target = r.target; named = r.named } in
      steps_after gives p known (left remaining new) reader output output' clock clock' k a b c s (Some e) before
      (subst (λ (d : C). Steps gives p known (left remaining new) reader output output' clock d k b c s (Some e)) (sym same)
      (gave_up_reading_step gives p known (left remaining new) reader output output' clock k b c s e (text ++ given) (record { keeps = keeps; held = held; adds = adds })
      (read_on known (whole_left remaining old) x reader given (reader_taken (whole_left remaining old) reader body (waits_in new) taken.3)) (inr (has_begun known (whole_left remaining old) x given readable)) closed))

module _ {R C K : Type 0} (remaining : R → Option (List ℕ)) (size : ℕ) (old new : Feed R) (gives : C → ℕ → C → Type 0) (p : Place) (known output output' : Option (List ℕ)) (clock : C) (k : Ghosts K) (a b : K) (s : State)
    (text : List ℕ) (kept : Keeps known (prepend_known text (whole_left remaining old))) where
  -- the stream ended within the body
  pub resumed_lacking : (has_length : Bool) → Opens text has_length size → (e : SessionEnd) → Quiet k a b ⊥ → WasKept k a b s → LacksBody remaining size old new → IsClosed output output' rule.BodyIncomplete e
      → Steps gives p known (left remaining new) (remaining (reader_of new).inner) output output' clock clock k a b s (Some e)
  resumed_lacking has_length o e quiet was lacking closed =
      closed_step gives p known (left remaining new) (remaining (reader_of new).inner) output output' clock k a b s rule.BodyIncomplete e (leaves_quiet k a b s ⊥ quiet was (λ none. none))
      (lacks known (whole_left remaining old) (opening_left o known (whole_left remaining old) kept) lacking.1 lacking.2) closed

  -- a read failed within the body
  pub resumed_broken : (has_length : Bool) → Opens text has_length size → Quiet k a b ⊥ → WasKept k a b s → BreaksOffWithin size (whole_left remaining old) (remaining (reader_of new).inner)
      → Steps gives p known (left remaining new) (remaining (reader_of new).inner) output output clock clock k a b s (Some ReadFault)
  resumed_broken has_length o quiet was broke =
      let reader = remaining (reader_of new).inner in
      let x = opening_left o known (whole_left remaining old) kept in
      read_failed_step gives p known (left remaining new) reader output clock k a b s (text ++ broke.0) (leaves_quiet k a b s ⊥ quiet was (λ none. none))
      (read_on known (whole_left remaining old) x reader broke.0 broke.1) (awaits known (whole_left remaining old) x broke.0 broke.2)

  -- refusal 40 closed the connection within the body
  pub resumed_given_up : ((given : List ℕ) → HasBegunMessage (text ++ given)) → (e : SessionEnd) (given : List ℕ) (gave_up : Type 0) → Quiet k a b gave_up → WasKept k a b s
      → Consumes (whole_left remaining old) (remaining (reader_of new).inner) given → IsClosed output output' rule.TryAgain e
      → Steps gives p known (left remaining new) (remaining (reader_of new).inner) output output' clock clock k a b s (Some e)
  resumed_given_up begun e given gave_up quiet was taken closed =
      let reader = remaining (reader_of new).inner in
      gave_up_reading_step gives p known (left remaining new) reader output output' clock k a b s e (text ++ given) (leaves_given_up k a b s gave_up quiet was)
      (Consumes-trans known (whole_left remaining old) reader text given (consumes_waiting known (whole_left remaining old) text kept) taken) (inr (begun given)) closed

-- ---- what is kept of the body

module _ {R K : Type 0} (k : Ghosts K) (head : List ℕ) (feed : Feed R) where
  -- it was put back, and the hasher was fed with it
  pub part_put : (kept : Option Kept) (keeper : K) (sha : Sha) → IsSome kept → ForSome kept (IsKept head (given_of feed)) → ForSome kept (λ x. k.stages keeper x.bytes.items) → ForSome kept (λ x. AreBytes x.bytes.items)
      → ForSome kept (λ x. sha ≡ x.sha) → HoldsPart k feed keeper sha
  part_put None keeper sha some are staged octets hashed = absurd cc
  part_put (Some x) keeper sha some are staged octets hashed =
      let is = are x refl in
      record {
        staged = subst (k.stages keeper) is.bytes (staged x refl);
        fed = subst (λ (h : Sha). ∥ ShaHolds h (given_of feed) ∥₁) (sym (hashed x refl)) is.fed;
        octets = subst AreBytes is.bytes (octets x refl);
      }

  -- it was put back if there was any
  pub part_of : (kept : Option Kept) (is_kept : Bool) (keeper : K) (sha : Sha) → is_kept ≡ is_some kept → ForSome kept (IsKept head (given_of feed)) → ForSome kept (λ x. k.stages keeper x.bytes.items) → ForSome kept (λ x. AreBytes x.bytes.items)
      → ForSome kept (λ x. sha ≡ x.sha) → IsTrue is_kept → HoldsPart k feed keeper sha
  part_of kept is_kept keeper sha is are staged octets hashed some = part_put kept keeper sha (sym is ∙ some) are staged octets hashed

-- the message is readable
pub kept_readable : (head given : List ℕ) (kept : Option Kept) → IsSome kept → ForSome kept (IsKept head given) → (has_length : Bool) (n : ℕ) (o : Opens head has_length n) → ∥ IsReadable (request_of o.head has_length []) ∥₁
kept_readable head given None some are has_length n o = absurd cc
kept_readable head given (Some x) some are has_length n o = (are x refl).readable has_length n o

module _ {R K : Type 0} (remaining : R → Option (List ℕ)) (k : Ghosts K) (size : ℕ) (old new : Feed R) (head : List ℕ) (kept : Option Kept) (begun : IsBegun head size kept (place_of old) (given_of old)) where
  -- more of the body came, and no more may be read now
  pub still_begun : (after : Option Kept) (keeper : K) (sha : Sha) → WaitsWithin remaining size old new → ForSome after (λ _. IsSome kept) → (IsSome kept → HoldsPart k new keeper sha)
      → ForSome after (λ x. (given : List ℕ) → k.stages keeper given → (x.bytes.items ≡ given) × (x.sha ≡ sha)) → IsBegun head size after (place_of new) (given_of new)
  still_begun after keeper sha w some part told = record {
    whole = begun.whole;
    fits = w.stands.fits;
    stands = w.stands.open_still;
    holds = λ y at.
        let held = part (some y at) in
        let t = told y at (given_of new) held.staged in
        record {
          bytes = t.0;
          fed = subst (λ (h : Sha). ∥ ShaHolds h (given_of new) ∥₁) (sym t.1) held.fed;
          readable = kept_readable head (given_of old) kept (some y at) begun.holds;
        };
  }

pub still_kept : (known mid new : Option (List ℕ)) (text : List ℕ) → Keeps known (prepend_known text mid) → Keeps mid new → Keeps known (prepend_known text new)
still_kept known mid new text kept more = Keeps-trans known (prepend_known text mid) (prepend_known text new) kept (prepend-kept mid new text more)

-- ---- a message whose body came

-- one that is given up is readable
pub lost_readable : (r : Request) (foreseen : Result Prospect Refusal) → IsGivenUp foreseen ⊎ IsUpload foreseen → IsReadOf r foreseen → IsReadable r
lost_readable r foreseen (inl is) read = read_given_up r foreseen is read
lost_readable r foreseen (inr upload) read = upload_readable r foreseen upload read

module _ {K : Type 0} (k : Ghosts K) where
  -- what was not staged is not staged after a call that keeps what is staged
  pub had_later : {P : Type 0} (a b : K) → KeepsStaged k.stages a b → P ⊎ k.stages a [] → P ⊎ k.stages b []
  had_later a b keeps (inl is) = inl is
  had_later a b keeps (inr none) = inr (keeps [] none)

  -- an upload was staged, or what was kept was let go
  pub unstaged_whole : {P Upload : Type 0} (a b c d : K) (upload : Bool) → k.faults a ≤ k.faults c → KeepsStaged k.stages a b → (IsFalse upload → P ⊎ k.stages b [] → k.stages c []) → (IsTrue upload → Upload)
      → (Upload ⊎ k.stages c [] → EndsUnstaged k c d) → P ⊎ k.stages a [] → EndsUnstaged k a d
  unstaged_whole a b c d true least keeps free is ends had = ends_later k a c d least (ends (inl (is refl)))
  unstaged_whole a b c d false least keeps free is ends had = ends_later k a c d least (ends (inr (free refl (had_later a b keeps had))))

pub same_kept : (o : Option Kept) (a b : Kept) → o ≡ Some a → o ≡ Some b → a ≡ b
same_kept o a b is at = cc

-- nothing was kept
pub unkept : {P : Type 0} (kept : Option Kept) (is_kept : Bool) → is_kept ≡ is_some kept → IsFalse is_kept → (kept ≡ None → P) → P
unkept None is_kept is not holds = holds refl
unkept (Some x) is_kept is not holds = absurd cc
