-- How a message ended, by what was sent.
use Rattle.std.proofs.Common.{◌≡◌, ◌≢◌, ℕ, Bool, false, List, [], Option, Result, Ok, Err, refl, ap, subst, ◌∙◌, ⊎_elim, inl, inr}
use Rattle.std.specs.Io.KnownBytes.{Appends}
use Rattle.sigtext.specs.declared.refusal.Refusal.TheVariants as rule
use Rattle.httparse.specs.Grammar.{RequestHead}
use Rattle.httparse.proofs.GrammarLemmas.{request_unique}
use Rattle.sigtext.specs.Request.{Request}
use Rattle.sigtext.specs.SignedHeaders.{Header}
use Rattle.wire.specs.Framing.{IsHead, headers_of, request_of}
use Rattle.boxes.specs.State.{State}
use Rattle.boxes.specs.declared.keep.Keeper.{Ghosts}
use Rattle.wire.specs.declared.answer.Answer.{Answer}
use Rattle.sigtext.specs.Bytes.{IsBeginning}
use Rattle.wire.specs.Answers.{answer_text}
use Rattle.wire.specs.Answers as said
use Rattle.wire.specs.Shown.{said_of, whole_text}
use Rattle.office.specs.declared.connections.responding.Handled.{Handled}
use Rattle.office.specs.declared.connections.responding.Handled.TheVariants.{Answered, GaveUp, Broken}
use Rattle.office.specs.Crashes.{AddsAsked, Endures, IsAsked}
use Rattle.office.specs.Foreseeing.{Foresees, IsReadOf}
use Rattle.office.specs.declared.requests.foreseeing.Prospect.{Prospect}
use Rattle.sigtext.specs.declared.refusal.Refusal.{Refusal}
use Rattle.office.specs.Connections.{MayGiveUp}
use Rattle.office.specs.Handling.{Handles, answered, gave_up_at, broke, broke_giving_up_at}
use Rattle.office.specs.Offices.{IsTryAgain, IsAnswered}
use Rattle.office.specs.Premise.{HoldsUnless, HoldsUp, IsLeft}
use Rattle.sigtext.specs.Readable.{IsReadable}
use Rattle.office.specs.Responding.{IsClosed, IsSent}
use Rattle.office.specs.Sessions.{closing}
use Rattle.wire.specs.declared.session.SessionEnd.{SessionEnd}
use Rattle.wire.specs.declared.session.SessionEnd.TheVariants.{Ended, Truncated, Refused, Limit, ReadFault, WriteFault}
use Rattle.office.proofs.Endurance.{through}

closes_always : (is_head : Bool) → answer_text is_head (said.Refused rule.TryAgain) ≡ closing rule.TryAgain
unfolding answer_text
closes_always is_head = refl

-- refusal 40 has the same text for every method
again_written : (a : Answer) → IsTryAgain a → whole_text a ≡ closing rule.TryAgain
again_written a e = ap (λ r. answer_text a.is_head (said_of r)) e ∙ closes_always a.is_head

held_up : {K : Type 0} {k : Ghosts K} {keeper keeper' : K} {gave_up : Type 0} → HoldsUnless k keeper keeper' gave_up → k.is_honest keeper' → (gave_up → ⊥) → HoldsUp k false keeper keeper'
held_up rest honest other = (rest.counted other, λ was. rest.opened honest was other)

-- a connection that refusal 40 closed
pub closed_again : {K : Type 0} (k : Ghosts K) (a b : K) (old new : Option (List ℕ)) (e : SessionEnd) → IsClosed old new rule.TryAgain e → MayGiveUp k a b e
closed_again k a b old new (Refused number) closed = inl (ap Refused closed.0)
closed_again k a b old new WriteFault closed = inr (inl refl)
closed_again k a b old new Ended closed = absurd closed
closed_again k a b old new Truncated closed = absurd closed
closed_again k a b old new Limit closed = absurd closed
closed_again k a b old new ReadFault closed = absurd closed

-- a message whose moment was taken
pub handled_at : {C K : Type 0} (gives : C → ℕ → C → Type 0) (clock clock' : C) (old new : Option (List ℕ)) (k : Ghosts K) (keeper keeper' : K) (s : State) (r : Request) (now : ℕ) (a : Answer) (h : Handled)
    → gives clock now clock' → (IsTryAgain a → IsLeft (k.means keeper') s) → (IsTryAgain a → AddsAsked k keeper keeper' s (IsAsked s r now)) → HoldsUnless k keeper keeper' (IsTryAgain a) → k.is_honest keeper' → (IsTryAgain a → IsReadable r) → IsAnswered (Endures k keeper keeper' s) s r now a → IsSent old new a h
    → Handles gives clock clock' old new k keeper keeper' s r h
handled_at gives clock clock' old new k keeper keeper' s r now a Answered told same asked rest honest readable answers sent =
    let x = answers sent.0 in answered now (whole_text a) x.0 told sent.1 (held_up rest honest sent.0) (through x.1.means.lasts) (record { means = x.1.means.meant; sound = x.1.sound }) x.2
handled_at gives clock clock' old new k keeper keeper' s r now a GaveUp told same asked rest honest readable answers sent =
    gave_up_at now told (subst (Appends old new) (again_written a sent.0) sent.1) rest.never_less (asked sent.0) (readable sent.0) (same sent.0)
handled_at gives clock clock' old new k keeper keeper' s r now a Broken told same asked rest honest readable answers sent =
    ⊎_elim
    (λ again. broke_giving_up_at now sent.1 told sent.2 (subst (IsBeginning sent.1) (again_written a again) sent.3) rest.never_less (asked again) (readable again) (same again))
    (λ other. let x = answers other in broke now (whole_text a) sent.1 x.0 told sent.2 sent.3 (held_up rest honest other) (through x.1.means.lasts) (record { means = x.1.means.meant; sound = x.1.sound }) x.2)
    sent.0

-- the request of the parts that were read of a head is the request of that head
pub same_request : (text : List ℕ) (found head : RequestHead) (method target : List ℕ) (headers : List Header) (has_length : Bool) (body : List ℕ)
    → IsHead text found → IsHead text head → method ≡ found.method → target ≡ found.target → headers ≡ headers_of found
    → record { method = method; target = target; headers = headers; has_length = has_length; body = body } ≡ request_of head has_length body
same_request text found head method target headers has_length body is_found is_head a b c =
    let once : found ≡ head = (request_unique text found head [] [] is_found.reads is_head.reads).0 in
    ap (λ (x : List ℕ). record { method = x; target = target; headers = headers; has_length = has_length; body = body }) a
    ∙ ap (λ (x : List ℕ). record { method = found.method; target = x; headers = headers; has_length = has_length; body = body }) b
    ∙ ap (λ (x : List Header). record { method = found.method; target = found.target; headers = x; has_length = has_length; body = body }) c
    ∙ ap (λ (x : RequestHead). request_of x has_length body) once

-- what was foreseen of a request shows that the request is readable, unless it was refused
pub read_of : (s : State) (r : Request) (foreseen : Result Prospect Refusal) → Foresees s r foreseen → foreseen ≢ Err rule.TryAgain → IsReadOf r foreseen
read_of s r (Ok f) foresees other = (foresees.parts, foresees.link)
read_of s r (Err q) foresees other = λ is. absurd (other (ap Err is))

pub read_given_up : (r : Request) (foreseen : Result Prospect Refusal) → foreseen ≡ Err rule.TryAgain → IsReadOf r foreseen → IsReadable r
read_given_up r foreseen is read = subst (IsReadOf r) is read refl
