-- The steps that are possible when a message has begun.
use Rattle.std.proofs.Common.{◌≡◌, ◌++◌, ℕ, List, [], false, true, arith, lit<, refl, sym, subst, codes}
use Rattle.httparse.specs.Grammar.{RequestHead, ReadsRequest}
use Rattle.httparse.proofs.GrammarLemmas.{request_unique}
use Rattle.std.proofs.lemmas.List.{append-nil}
use Rattle.sigtext.specs.Request.{Request}
use Rattle.sigtext.specs.declared.refusal.Refusal.TheVariants as rule
use Rattle.sigtext.specs.SignedHeaders.{named}
use Rattle.wire.specs.Framing.{Announces, IsFront, IsHead, headers_of, HasHead, Next, Step, Message, Refused, Ended, Truncated, request_of}
use Rattle.wire.specs.Framing as next
use Rattle.wire.proofs.Fronts.{same_front, same_length}
use Rattle.wire.proofs.Heads.{no_end_in_nothing}
use Rattle.wire.proofs.WaitingFronts.{front_further, has_head, no_front_short}
use Rattle.sigtext.specs.Readable.{IsReadable}
use Rattle.office.specs.Sessions.{HasBegunMessage}

front_of : (bytes : List ℕ) (a : HasBegunMessage bytes) → IsFront bytes a.text a.given
front_of bytes a = subst (λ (t : List ℕ). IsFront t a.text a.given) (sym a.whole) (front_further a.text a.given a.opens.is_front)

has_of : (bytes : List ℕ) (a : HasBegunMessage bytes) → HasHead bytes a.opens.head a.has_length a.size a.given
has_of bytes a = has_head bytes a.text a.given a.opens.head a.has_length a.size (front_of bytes a) a.opens.tells

same_head : (bytes front rest : List ℕ) (head : RequestHead) (a : HasBegunMessage bytes) → IsFront bytes front rest → IsHead front head → a.opens.head ≡ head
same_head bytes front rest head a f is_head =
    let fronts = same_front bytes a.text a.given front rest (front_of bytes a) f in
    (request_unique front a.opens.head head [] [] (subst (λ (x : List ℕ). ReadsRequest x a.opens.head []) fronts a.opens.tells.is_head.reads) is_head.reads).0

-- a readable message, or refusal 6
abbrev pub IsBegunStep : Step → Type 0
IsBegunStep (Message r) = IsReadable r
IsBegunStep (Refused q) = q ≡ rule.BodyIncomplete
IsBegunStep Ended = ⊥
IsBegunStep Truncated = ⊥

pub begun_step : (bytes rest : List ℕ) (step : Step) → HasBegunMessage bytes → Next bytes step rest → IsBegunStep step
begun_step bytes _ _ a (next.ended none) = no_front_short [] (lit< tt) no_end_in_nothing a.text a.given (subst (λ (t : List ℕ). IsFront t a.text a.given) none (front_of bytes a))
begun_step bytes _ _ a (next.truncated some short none) = none a.text a.given (front_of bytes a)
begun_step bytes _ _ a (next.too_long long none) = absurd (none a.text a.given (front_of bytes a))
begun_step bytes _ _ a (next.malformed front rest f none) =
    absurd (none a.opens.head (subst (λ (x : List ℕ). IsHead x a.opens.head) (same_front bytes a.text a.given front rest (front_of bytes a) f) a.opens.tells.is_head))
begun_step bytes _ _ a (next.coded front rest head f is_head coded) =
    absurd (coded (subst (λ (h : RequestHead). named (codes "transfer-encoding") (headers_of h) ≡ []) (same_head bytes front rest head a f is_head) a.opens.tells.uncoded))
begun_step bytes _ _ a (next.no_length front rest head f is_head uncoded none) =
    absurd (none a.has_length a.size (subst (λ (h : RequestHead). Announces (headers_of h) a.has_length a.size) (same_head bytes front rest head a f is_head) a.opens.tells.announces))
begun_step bytes _ _ a (next.too_large head n rest h large) =
    absurd (omega (arith, large, a.opens.small, same_length bytes a.opens.head head a.has_length true a.size n a.given rest (has_of bytes a) h))
begun_step bytes _ _ a (next.incomplete head n rest h small few) = refl
begun_step bytes _ _ a (next.whole head b n body rest h small size) =
    let r = subst (λ (x : RequestHead). IsReadable (request_of x a.has_length [])) (same_head bytes h.front (body ++ rest) head a h.is_front h.is_head) a.readable in
    record { served = r.served; path = r.path; params = r.params; target = r.target; named = r.named }

-- a readable message that came whole has begun
pub message_begun : (stream rest : List ℕ) (r : Request) → Next stream (Message r) rest → IsReadable r → HasBegunMessage stream
message_begun stream rest _ (next.whole head has_length n body _ h small size) readable = record {
  text = h.front;
  given = body ++ rest;
  has_length = has_length;
  size = n;
  whole = h.is_front.whole;
  opens = record {
    is_front = record { whole = sym (append-nil h.front); ends = h.is_front.ends; short = h.is_front.short; shortest = h.is_front.shortest };
    small = small;
    head = head;
    tells = record { is_head = h.is_head; uncoded = h.uncoded; announces = h.announces };
  };
  readable = record { served = readable.served; path = readable.path; params = readable.params; target = readable.target; named = readable.named };
}

-- a session that did not give up
pub none_begun : {P : Type 0} → false ≡ true → P
none_begun given = absurd cc
