-- Steps that wait within a body.
use Rattle.std.proofs.Common.{◌≡◌, ◌∙◌, ◌≤◌, ◌-◌, ℕ, Bool, true, false, List, [], ◌++◌, length, replicate, take, Option, None, Some, Result, ap, arith, refl, sym, subst}
use Rattle.std.specs.Prelude.{IfSome, IsFalse, IsSome, IsTrue}
use Rattle.std.specs.Option.{ForSome}
use Rattle.std.specs.Io.KnownBytes.{Keeps, prepend_known}
use Rattle.std.proofs.KnownBytes.{Keeps-trans, prepend_known-nil}
use Rattle.std.proofs.Math.Logic.{∥∥₁_map}
use Rattle.std.proofs.lemmas.List.{append-nil, length-replicate, take_all}
use Rattle.httparse.proofs.GrammarLemmas.{request_unique}
use Rattle.httparse.specs.Grammar.{RequestHead}
use Rattle.sigtext.specs.Bytes.{AreBytes}
use Rattle.sigtext.specs.Readable.{IsReadable}
use Rattle.sigtext.specs.declared.refusal.Refusal.{Refusal}
use Rattle.sigv4.specs.Hashers.{ShaHolds}
use Rattle.sigv4.specs.declared.hash.Sha.{Sha}
use Rattle.boxes.specs.State.{State}
use Rattle.boxes.specs.declared.keep.Keeper.{Ghosts}
use Rattle.wire.specs.Feeding.{Awaits, Opens}
use Rattle.wire.specs.Feeds.{given_of, left, place_of, waits_in, whole_left}
use Rattle.wire.specs.Framing.{IsFront, request_of}
use Rattle.wire.specs.Underways.{IsBegun, IsKept, IsWholeHead}
use Rattle.wire.specs.Whole.{StandsIn, WaitsWithin}
use Rattle.wire.specs.declared.feed.Feed.{Feed}
use Rattle.wire.specs.declared.feed.Place.TheVariants as place
use Rattle.wire.specs.declared.underway.Kept.{Kept}
use Rattle.wire.proofs.Backlogs.{prepend-kept}
use Rattle.wire.proofs.BrokenOff.{awaits_body}
use Rattle.office.specs.Foreseeing.{IsUpload}
use Rattle.office.specs.Receiving.{HoldsPart}
use Rattle.office.specs.Crashes.{never_changed}
use Rattle.office.specs.Frames.{Quiet}
use Rattle.office.specs.Premise.{WasKept}
use Rattle.office.specs.Stepping.{AwaitsMore, IsExpected, StandsBy}
use Rattle.office.specs.declared.connections.receiving.Received.TheVariants as received
use Rattle.office.specs.declared.requests.foreseeing.Prospect.{Prospect}
use Rattle.office.proofs.BodySteps.{upload_readable}

-- ---- where a body begins

module _ {R : Type 0} (feed : Feed R) (none : given_of feed ≡ []) where
  -- nothing was given of the body yet
  pub stands_first : (size : ℕ) → place_of feed ≡ place.Body size → StandsIn size feed
  stands_first size at =
      let long = ap length none in
      let all : size ≡ size - length (given_of feed) = omega (arith, long) in
      record { fits = omega (arith, long); open_still = at ∙ ap place.Body all }

  pub whole_left_first : (remaining : R → Option (List ℕ)) → whole_left remaining feed ≡ left remaining feed
  whole_left_first remaining = ap (λ (given : List ℕ). prepend_known given (left remaining feed)) none ∙ prepend_known-nil (left remaining feed)

  pub expected_first : (remaining : R → Option (List ℕ)) (s : State) (size : ℕ) (known : Option (List ℕ)) (foreseen : Result Prospect Refusal) (to_head : Bool) (text : List ℕ)
      → IsExpected s size known (left remaining feed) foreseen to_head text → IsExpected s size known (whole_left remaining feed) foreseen to_head text
  expected_first remaining s size known foreseen to_head text x = subst (λ (mid : Option (List ℕ)). IsExpected s size known mid foreseen to_head text) (sym (whole_left_first remaining)) x

  pub part_first : {K : Type 0} (k : Ghosts K) (keeper : K) (sha : Sha) → k.stages keeper [] → ShaHolds sha [] → HoldsPart k feed keeper sha
  part_first k keeper sha staged fed =
      let same = sym none in
      record {
        staged = subst (k.stages keeper) same staged;
        fed = ∣ subst (ShaHolds sha) same fed ∣₁;
        octets = subst AreBytes same tt;
      }

-- ---- what holds either way

pub either_way : {P : Type 0} (b : Bool) → (IsFalse b → P) → (IsTrue b → P) → P
either_way true f t = t refl
either_way false f t = f refl

-- ---- the body waits

-- the head and what follows it is what was left
pub front_kept : (known mid : Option (List ℕ)) (text : List ℕ) → IfSome known (λ stream. (rest : List ℕ) × IsFront stream text rest × (mid ≡ Some rest)) → Keeps known (prepend_known text mid)
front_kept None mid text f = tt
front_kept (Some stream) mid text (rest, front, is) = subst (λ (m : Option (List ℕ)). Keeps (Some stream) (prepend_known text m)) (sym is) (sym front.whole)

pub waits_kept : (known mid new : Option (List ℕ)) (text : List ℕ) → IfSome known (λ stream. (rest : List ℕ) × IsFront stream text rest × (mid ≡ Some rest)) → Keeps mid new → Keeps known (prepend_known text new)
waits_kept known mid new text f kept = Keeps-trans known (prepend_known text mid) (prepend_known text new) (front_kept known mid text f) (prepend-kept mid new text kept)

-- the request with this head is readable, whatever head the text is read as
pub readable_head : (text : List ℕ) (a b : RequestHead) (x y : Bool) (n : ℕ) (o : Opens text x n) (m : ℕ) (p : Opens text y m) → IsReadable (request_of o.head x []) → IsReadable (request_of p.head y [])
readable_head text a b x y n o m p r =
    let same : o.head ≡ p.head = (request_unique text o.head p.head [] [] o.tells.is_head.reads p.tells.is_head.reads).0 in
    let r : IsReadable (request_of p.head x []) = subst (λ (h : RequestHead). IsReadable (request_of h x [])) same r in
    record { served = r.served; path = r.path; params = r.params; target = r.target; named = r.named }

module _ {R K : Type 0} (remaining : R → Option (List ℕ)) (k : Ghosts K) (size : ℕ) (old new : Feed R) (foreseen : Result Prospect Refusal) {text : List ℕ} {has_length : Bool} (o : Opens text has_length size)
    (read : IsUpload foreseen → IsReadable (request_of o.head has_length [])) where
  -- what is kept of the body
  kept_so : (kept : Kept) (keeper : K) (sha : Sha) → IsUpload foreseen → HoldsPart k new keeper sha → kept.bytes.items ≡ given_of new → kept.sha ≡ sha → IsKept text (given_of new) kept
  kept_so kept keeper sha upload part bytes is = record {
    bytes = bytes;
    fed = subst (λ (h : Sha). ∥ ShaHolds h (given_of new) ∥₁) (sym is) part.fed;
    readable = λ other n p. ∣ readable_head text o.head p.head has_length other size o n p (read upload) ∣₁;
  }

  -- a message has begun, and its body waits
  pub begun_from : (kept : Option Kept) (upload : Bool) (keeper : K) (sha : Sha) → WaitsWithin remaining size old new → (IsTrue upload → IsUpload foreseen) → (ForSome kept (λ _. IsTrue upload))
      → (IsTrue upload → HoldsPart k new keeper sha) → ForSome kept (λ x. (given : List ℕ) → k.stages keeper given → (x.bytes.items ≡ given) × (x.sha ≡ sha))
      → IsBegun text size kept (place_of new) (given_of new)
  begun_from kept upload keeper sha w is some part told = record {
    whole = ∣ (has_length, o) ∣₁;
    fits = w.stands.fits;
    stands = w.stands.open_still;
    holds = λ y at.
        let up = some y at in
        let held = part up in
        let t = told y at (given_of new) held.staged in
        kept_so y keeper sha (is up) held t.0 t.1;
  }

module _ {R K : Type 0} (remaining : R → Option (List ℕ)) (k : Ghosts K) (size : ℕ) (old new : Feed R) (s : State) (known : Option (List ℕ)) (foreseen : Result Prospect Refusal) (to_head : Bool) {text : List ℕ}
    (x : IsExpected s size known (whole_left remaining old) foreseen to_head text) where
  -- the same for a message that was foreseen in a state
  pub begun_so : (kept : Option Kept) (upload : Bool) (keeper : K) (sha : Sha) → WaitsWithin remaining size old new → (IsTrue upload → IsUpload foreseen) → (ForSome kept (λ _. IsTrue upload))
      → (IsTrue upload → HoldsPart k new keeper sha) → ForSome kept (λ x. (given : List ℕ) → k.stages keeper given → (x.bytes.items ≡ given) × (x.sha ≡ sha))
      → IsBegun text size kept (place_of new) (given_of new)
  begun_so =
      let body = replicate size 0 in
      begun_from remaining k size old new foreseen x.opening.opens
      (upload_readable s x.opening.opens.head x.has_length body [] foreseen (x.foresees body (length-replicate size 0)))

-- ---- what came is no whole message

module _ {R : Type 0} (remaining : R → Option (List ℕ)) (size : ℕ) (old new : Feed R) (text : List ℕ) where
  -- the body that the head announces has not come whole
  awaits_a_body : (has_length : Bool) → Opens text has_length size → WaitsWithin remaining size old new → Awaits (text ++ (given_of new ++ waits_in new))
  awaits_a_body has_length o w =
      let given = given_of new in
      let all : given ≡ given ++ waits_in new = sym (append-nil given) ∙ ap (λ (waits : List ℕ). given ++ waits) (sym w.none) in
      subst (λ (came : List ℕ). Awaits (text ++ came)) all (awaits_body text given has_length size o w.few)

  pub awaits_more : (has_length : Bool) → Opens text has_length size → WaitsWithin remaining size old new → AwaitsMore text new
  awaits_more has_length o w = (w.none, ∣ awaits_a_body has_length o w ∣₁)

  -- the same for a head that is whole
  pub still_awaits : IsWholeHead text size → WaitsWithin remaining size old new → AwaitsMore text new
  still_awaits whole w = (w.none, ∥∥₁_map whole (λ (x : (has_length : Bool) × Opens text has_length size). awaits_a_body x.0 x.1 w))

-- ---- small facts

pub waits_not_gave_up : received.Waits ≡ received.GaveUp → ⊥
waits_not_gave_up e = cc

pub some_is : {T : Type 0} (o : Option T) (x : T) → o ≡ Some x → IsSome o
some_is {T} o x is = subst (λ (t : Option T). IsSome t) (sym is) refl

pub short_head : {text : List ℕ} {has_length : Bool} {n len : ℕ} → Opens text has_length n → len ≡ length text → len ≤ 8192
short_head o is = subst (λ (l : ℕ). l ≤ 8192) (sym is) o.is_front.short

pub taken_all : (text : List ℕ) {len : ℕ} → len ≡ length text → take len text ≡ text
taken_all text is = ap (λ (n : ℕ). take n text) is ∙ take_all (length text) text (omega arith)

-- a call that changed nothing, in which nothing was told
pub stands_by : {C K : Type 0} {clock : C} {k : Ghosts K} {a b : K} {s : State} → Quiet k a b ⊥ → WasKept k a b s → StandsBy clock clock k a b s
stands_by {k = k} {a = a} {b = b} {s = s} quiet kept = record {
  told = refl;
  left = record { means = quiet.same s kept.means; sound = kept.sound };
  held = (quiet.rest.counted (λ none. none), λ was. quiet.rest.opened kept.is_honest was (λ none. none));
  lasts = never_changed refl (quiet.crash s kept.means kept.is_honest);
}
