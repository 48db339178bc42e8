-- The steps that are still possible when the bytes await more, and those of a head that announces a body.
use Rattle.std.proofs.Common.{◌≡◌, ◌≢◌, ◌<◌, ℕ, List, [], ◌++◌, length, arith, lit<, sym, ap, subst, refl, length-append, append_assoc, ◌∙◌, replicate, true, codes}
use Rattle.std.proofs.lemmas.List.{append-nil, length-replicate}
use Rattle.httparse.specs.Grammar.{RequestHead, ReadsRequest}
use Rattle.httparse.proofs.GrammarLemmas.{request_unique}
use Rattle.sigtext.specs.declared.refusal.Refusal.{Refusal}
use Rattle.sigtext.specs.declared.refusal.Refusal.TheVariants as rule
use Rattle.sigtext.specs.SignedHeaders.{named}
use Rattle.std.specs.Prelude.{⊤}
use Rattle.wire.specs.Framing.{Announces, IsFront, IsHead, headers_of, HasHead, Next, Step, Message, Refused, Ended, Truncated}
use Rattle.wire.specs.Framing as next
use Rattle.wire.specs.Feeding.{AnnouncesBody, Awaits, AwaitsHead, a_head, a_body}
use Rattle.wire.proofs.Fronts.{same_front, same_length, same_rest}
use Rattle.examples.proofs.Framing.{incomplete_lacks}
use Rattle.wire.proofs.Heads.{no_end_in_nothing}
use Rattle.wire.proofs.WaitingFronts.{front_further, has_head, no_front_short}

-- the head that announces the body is the front of the bytes
front_of : (bytes : List ℕ) (a : AnnouncesBody bytes) → IsFront bytes a.text a.given
front_of bytes a = subst (λ (t : List ℕ). IsFront t a.text a.given) (sym a.whole) (front_further a.text a.given a.opens.is_front)

has_of : (bytes : List ℕ) (a : AnnouncesBody bytes) → HasHead bytes a.opens.head a.has_length a.size a.given
has_of bytes a = has_head bytes a.text a.given a.opens.head a.has_length a.size (front_of bytes a) a.opens.tells

same_head : (bytes front rest : List ℕ) (head : RequestHead) (a : AnnouncesBody bytes) → IsFront bytes front rest → IsHead front head → a.opens.head ≡ head
same_head bytes front rest head a f is_head =
    let fronts = same_front bytes a.text a.given front rest (front_of bytes a) f in
    (request_unique front a.opens.head head [] [] (subst (λ (x : List ℕ). ReadsRequest x a.opens.head []) fronts a.opens.tells.is_head.reads) is_head.reads).0

-- a step of a stream whose head announces a body: a message with a body, or refusal 6
abbrev pub IsAnnounced : Step → Type 0
IsAnnounced (Message r) = r.body ≢ []
IsAnnounced (Refused q) = q ≡ rule.BodyIncomplete
IsAnnounced Ended = ⊥
IsAnnounced Truncated = ⊥

pub announced : (bytes rest : List ℕ) (step : Step) → AnnouncesBody bytes → Next bytes step rest → IsAnnounced step
announced bytes _ _ a (next.ended none) = no_front_short [] (lit< tt) no_end_in_nothing a.text a.given (subst (λ (t : List ℕ). IsFront t a.text a.given) none (front_of bytes a))
announced bytes _ _ a (next.truncated some short none) = none a.text a.given (front_of bytes a)
announced bytes _ _ a (next.too_long long none) = absurd (none a.text a.given (front_of bytes a))
announced bytes _ _ a (next.malformed front rest f none) =
    absurd (none a.opens.head (subst (λ (x : List ℕ). IsHead x a.opens.head) (same_front bytes a.text a.given front rest (front_of bytes a) f) a.opens.tells.is_head))
announced bytes _ _ a (next.coded front rest head f is_head coded) =
    absurd (coded (subst (λ (h : RequestHead). named (codes "transfer-encoding") (headers_of h) ≡ []) (same_head bytes front rest head a f is_head) a.opens.tells.uncoded))
announced bytes _ _ a (next.no_length front rest head f is_head uncoded none) =
    absurd (none a.has_length a.size (subst (λ (h : RequestHead). Announces (headers_of h) a.has_length a.size) (same_head bytes front rest head a f is_head) a.opens.tells.announces))
announced bytes _ _ a (next.too_large head n rest h large) =
    absurd (omega (arith, large, a.opens.small, same_length bytes a.opens.head head a.has_length true a.size n a.given rest (has_of bytes a) h))
announced bytes _ _ a (next.incomplete head n rest h small few) = refl
announced bytes _ _ a (next.whole head b n body rest h small size) = λ none.
    omega (arith, a.some, size, ap length none, same_length bytes a.opens.head head a.has_length b a.size n a.given (body ++ rest) (has_of bytes a) h)

-- a step of a stream that ends where more bytes were needed: no message, and no refusal but number 6
abbrev pub IsAwaited : Step → Type 0
IsAwaited (Message r) = ⊥
IsAwaited (Refused q) = q ≡ rule.BodyIncomplete
IsAwaited Ended = ⊤
IsAwaited Truncated = ⊤

of_body : (bytes rest : List ℕ) (step : Step) (a : AnnouncesBody bytes) → length a.given < a.size → Next bytes step rest → IsAwaited step
of_body bytes _ _ a few (next.whole head b n body rest h small size) =
    let all = same_rest bytes a.text a.given h.front (body ++ rest) (front_of bytes a) h.is_front in
    omega (arith, few, size, ap length all, length-append body rest, same_length bytes a.opens.head head a.has_length b a.size n a.given (body ++ rest) (has_of bytes a) h)
of_body bytes rest (Refused q) a few s = announced bytes rest (Refused q) a s
of_body bytes rest Ended a few s = tt
of_body bytes rest Truncated a few s = tt

pub awaited : (bytes rest : List ℕ) (step : Step) → Awaits bytes → Next bytes step rest → IsAwaited step
awaited bytes rest step (a_body a few) s = of_body bytes rest step a few s
awaited bytes _ _ (a_head h) (next.ended none) = tt
awaited bytes _ _ (a_head h) (next.truncated some short none) = tt
awaited bytes _ _ (a_head h) (next.too_long long none) = absurd (omega (arith, long, h.0))
awaited bytes _ _ (a_head h) (next.malformed front rest f none) = absurd (h.1 front rest f)
awaited bytes _ _ (a_head h) (next.coded front rest head f is_head coded) = absurd (h.1 front rest f)
awaited bytes _ _ (a_head h) (next.no_length front rest head f is_head uncoded none) = absurd (h.1 front rest f)
awaited bytes _ _ (a_head h) (next.too_large head n rest k large) = absurd (h.1 k.front rest k.is_front)
awaited bytes _ _ (a_head h) (next.incomplete head n rest k small few) = refl
awaited bytes _ _ (a_head h) (next.whole head b n body rest k small size) = h.1 k.front (body ++ rest) k.is_front

-- no single refusal holds for all streams that begin with these bytes
pub undecided : (bytes : List ℕ) (q : Refusal) → Awaits bytes → ((more : List ℕ) → Next (bytes ++ more) (Refused q) []) → ⊥
undecided bytes q (a_head h) all = no_refusal bytes q h (subst (λ (t : List ℕ). Next t (Refused q) []) (append-nil bytes) (all []))
  where
    no_refusal : (bytes : List ℕ) (q : Refusal) → AwaitsHead bytes → Next bytes (Refused q) [] → ⊥
    no_refusal bytes _ h (next.too_long long none) = omega (arith, long, h.0)
    no_refusal bytes _ h (next.malformed front rest f none) = h.1 front rest f
    no_refusal bytes _ h (next.coded front rest head f is_head coded) = h.1 front rest f
    no_refusal bytes _ h (next.no_length front rest head f is_head uncoded none) = h.1 front rest f
    no_refusal bytes _ h (next.too_large head n rest k large) = h.1 k.front rest k.is_front
    no_refusal bytes _ h (next.incomplete head n rest k small few) = h.1 k.front rest k.is_front
undecided bytes q (a_body a few) all =
    let more = replicate a.size 0 in
    let grown : AnnouncesBody (bytes ++ more) = record {
      text = a.text;
      given = a.given ++ more;
      has_length = a.has_length;
      size = a.size;
      whole = ap (λ (t : List ℕ). t ++ more) a.whole ∙ append_assoc a.text a.given more;
      opens = a.opens;
      some = a.some;
    } in
    let step = all more in
    let lacks = incomplete_lacks (bytes ++ more) [] (subst (λ (r : Refusal). Next (bytes ++ more) (Refused r) []) (announced (bytes ++ more) [] (Refused q) grown step) step) in
    let sizes = same_length (bytes ++ more) a.opens.head lacks.0 a.has_length true a.size lacks.1 (a.given ++ more) lacks.2 (has_of (bytes ++ more) grown) lacks.3 in
    let rests = same_rest (bytes ++ more) a.text (a.given ++ more) lacks.3.front lacks.2 (front_of (bytes ++ more) grown) lacks.3.is_front in
    omega (arith, sizes, ap length rests, length-append a.given more, length-replicate {A = ℕ} a.size 0, lacks.4)
