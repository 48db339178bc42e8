-- A head, its pieces in order and their end make one step of the stream.
use Rattle.std.proofs.Common.{◌≡◌, ◌<◌, ◌≤◌, ◌-◌, ℕ, Bool, true, List, [], ◌++◌, length, take, drop, arith, refl, sym, subst, ◌∙◌, append_assoc, length-append, take-append-drop, Option, None, Some}
use Rattle.std.specs.Prelude.{IfSome}
use Rattle.std.specs.Io.KnownBytes.{Consumes}
use Rattle.std.proofs.KnownBytes.{Consumes-trans}
use Rattle.wire.proofs.NextMessages.{IsNextMessage}
use Rattle.std.proofs.lemmas.List.{length-take-le}
use Rattle.httparse.specs.Grammar.{RequestHead}
use Rattle.sigtext.specs.declared.refusal.Refusal.TheVariants as rule
use Rattle.wire.specs.Framing.{IsFront, HasHead, Announces, Next, Message, Refused, request_of, headers_of}
use Rattle.sigtext.specs.Limits.{most_body}
use Rattle.wire.specs.Framing as next
use Rattle.wire.specs.Judging.{HeadAnnounces}
use Rattle.wire.specs.Feeding.{Halfway, OfStream, Opens}
use Rattle.wire.proofs.WaitingFronts.{front_further, has_head}

pub begins : (stream text rest : List ℕ) (head : RequestHead) (has_length : Bool) (n : ℕ) → IsFront stream text rest → HeadAnnounces text head has_length n → n ≤ most_body
    → Halfway stream head has_length n [] n rest
begins stream text rest head has_length n f t small = record { has_head = has_head stream text rest head has_length n f t; small = small; count = omega arith }

pub goes_on : (stream : List ℕ) (head : RequestHead) (has_length : Bool) (size : ℕ) (given : List ℕ) (n : ℕ) (bytes rest : List ℕ)
    → Halfway stream head has_length size given n (bytes ++ rest) → length bytes ≤ n → Halfway stream head has_length size (given ++ bytes) (n - length bytes) rest
goes_on stream head has_length size given n bytes rest h fits = record {
  has_head = subst (HasHead stream head has_length size) (sym (append_assoc given bytes rest)) h.has_head;
  small = h.small;
  count = omega (arith, h.count, length-append given bytes);
}

pub whole : (stream : List ℕ) (head : RequestHead) (has_length : Bool) (size : ℕ) (given rest : List ℕ)
    → Halfway stream head has_length size given 0 rest → Next stream (Message (request_of head has_length given)) rest
whole stream head has_length size given rest h = next.whole head has_length size given rest h.has_head h.small (omega (arith, h.count))

-- the announced body is not empty
given_length : (head : RequestHead) (has_length : Bool) (n : ℕ) → Announces (headers_of head) has_length n → 0 < n → has_length ≡ true
given_length head has_length n (next.nothing none) some = absurd (omega (arith, some))
given_length head has_length n (next.given h _ one is) some = refl

pub lacking : (stream : List ℕ) (head : RequestHead) (has_length : Bool) (size : ℕ) (given : List ℕ) (n : ℕ) (rest : List ℕ)
    → Halfway stream head has_length size given n rest → length rest < n → Next stream (Refused rule.BodyIncomplete) []
lacking stream head has_length size given n rest h few =
    let some : 0 < size = omega (arith, h.count) in
    let is : has_length ≡ true = given_length head has_length size h.has_head.announces some in
    next.incomplete head size (given ++ rest) (subst (λ (b : Bool). HasHead stream head b size (given ++ rest)) is h.has_head) h.small
    (omega (arith, h.count, length-append given rest))

pub enough : (stream : List ℕ) (head : RequestHead) (has_length : Bool) (size : ℕ) (given : List ℕ) (n : ℕ) (rest : List ℕ)
    → Halfway stream head has_length size given n rest → n ≤ length rest → Next stream (Message (request_of head has_length (given ++ take n rest))) (drop n rest)
enough stream head has_length size given n rest h long =
    let split = subst (λ (t : List ℕ). Halfway stream head has_length size given n t) (sym (take-append-drop n rest)) h in
    let size_of = length-take-le n rest long in
    let more = goes_on stream head has_length size given n (take n rest) (drop n rest) split (omega (arith, size_of)) in
    let none : n - length (take n rest) ≡ 0 = omega (arith, size_of) in
    whole stream head has_length size (given ++ take n rest) (drop n rest) (subst (λ (k : ℕ). Halfway stream head has_length size (given ++ take n rest) k (drop n rest)) none more)

-- ---- whole messages

-- a head and the body that it announces are the next message of every stream that begins with them
pub message_stands : (text body rest : List ℕ) (has_length : Bool) (o : Opens text has_length (length body))
    → Next (text ++ (body ++ rest)) (Message (request_of o.head has_length body)) rest
message_stands text body rest has_length o =
    let stream = text ++ (body ++ rest) in
    let n = length body in
    let start = begins stream text (body ++ rest) o.head has_length n (front_further text (body ++ rest) o.is_front) o.tells o.small in
    let half = goes_on stream o.head has_length n [] n body rest start (omega arith) in
    let none : n - n ≡ 0 = omega arith in
    whole stream o.head has_length n body rest (subst (λ (k : ℕ). Halfway stream o.head has_length n body k rest) none half)

-- the head was taken from what was left of the stream
pub head_taken : (known mid : Option (List ℕ)) (text : List ℕ)
    → IfSome known (λ stream. (rest : List ℕ) × IsFront stream text rest × (mid ≡ Some rest)) → Consumes known mid text
head_taken None mid text f = tt
head_taken (Some stream) mid text (rest, front, e) = subst (λ (m : Option (List ℕ)). Consumes (Some stream) m text) (sym e) front.whole

pub stands : (known new : Option (List ℕ)) (text body : List ℕ) (has_length : Bool) (o : Opens text has_length (length body)) → Consumes known new (text ++ body)
    → IfSome known (λ stream. (rest : List ℕ) × Next stream (Message (request_of o.head has_length body)) rest × (new ≡ Some rest))
stands None new text body has_length o c = tt
stands (Some stream) None text body has_length o c = absurd c
stands (Some stream) (Some rest) text body has_length o c =
    let same : text ++ (body ++ rest) ≡ stream = sym (append_assoc text body rest) ∙ sym c in
    (rest, subst (λ (s : List ℕ). Next s (Message (request_of o.head has_length body)) rest) same (message_stands text body rest has_length o), refl)

abbrev pub message_joined : (known mid new : Option (List ℕ)) (text body : List ℕ) (has_length : Bool) → Opens text has_length (length body)
    → IfSome known (λ stream. (rest : List ℕ) × IsFront stream text rest × (mid ≡ Some rest)) → Consumes mid new body → IsNextMessage text has_length body known new
message_joined known mid new text body has_length o f c =
    let taken = Consumes-trans known mid new text body (head_taken known mid text f) c in
    record { opens = o; taken = taken; next = stands known new text body has_length o taken }

pub lacking_joined : (known mid : Option (List ℕ)) (text : List ℕ) (has_length : Bool) (n : ℕ) → Opens text has_length n
    → IfSome known (λ stream. (rest : List ℕ) × IsFront stream text rest × (mid ≡ Some rest)) → 0 < n → IfSome mid (λ rest. length rest < n)
    → OfStream known (λ stream. Next stream (Refused rule.BodyIncomplete) [])
lacking_joined None mid text has_length n o f some few =
    let start = begins (text ++ []) text [] o.head has_length n (front_further text [] o.is_front) o.tells o.small in
    record { stream = text ++ []; is = tt; holds = lacking (text ++ []) o.head has_length n [] n [] start some }
lacking_joined (Some stream) mid text has_length n o (rest, front, e) some few =
    let start = begins stream text rest o.head has_length n front o.tells o.small in
    record {
      stream = stream;
      is = refl;
      holds = lacking stream o.head has_length n [] n rest start (subst (λ (m : Option (List ℕ)). IfSome m (λ rest. length rest < n)) e few);
    }
