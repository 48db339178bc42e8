-- The front of a stream, as the waiting bytes show it.
use Rattle.std.proofs.Common.{◌≡◌, ◌<◌, ◌≤◌, ◌+◌, ◌-◌, ℕ, List, [], ◌++◌, length, take, drop, Option, None, Some, arith, refl, sym, ap, subst, ◌∙◌, append_assoc, length-append, take-append-drop, lit<, lit≤}
use Rattle.std.specs.Prelude.{IfSome}
use Rattle.std.specs.Io.KnownBytes.{IsAtEnd, Keeps, prepend_known}
use Rattle.std.proofs.lemmas.List.{length-take, length-take-le, take-take, take_all, take-append-le, append-nil}
use Rattle.std.proofs.Math.Seq.{take-append-add, take-append_seam}
use Rattle.sigtext.specs.Refusals.{number_of}
use Rattle.sigtext.specs.declared.refusal.Refusal.{Refusal}
use Rattle.sigtext.specs.declared.refusal.Refusal.TheVariants as rule
use Rattle.wire.specs.Framing.{EndsHead, IsFront, HasNoFront, HasHead, Next, Message, Refused, Ended, Truncated}
use Rattle.wire.specs.Framing as next
use Rattle.wire.specs.Heads.{IsHeadEnd, HasNoHeadEnd}
use Rattle.wire.specs.Judging.{HeadAnnounces, Breaks}
use Rattle.wire.specs.Judging as breaks
use Rattle.wire.specs.Feeding.{AwaitsHead, OfStream}

-- ---- what is left is what waits, followed by what the reader has

pub known_whole : (known reader : Option (List ℕ)) (waits : List ℕ) (P : List ℕ → Type 0) → Keeps known (prepend_known waits reader)
    → ((rest : List ℕ) → reader ≡ Some rest → P (waits ++ rest)) → IfSome known P
known_whole None reader waits P h f = tt
known_whole (Some stream) None waits P h f = absurd h
known_whole (Some stream) (Some rest) waits P h f = subst P h (f rest refl)

pub of_whole : (known reader : Option (List ℕ)) (waits : List ℕ) (P : List ℕ → Type 0) → Keeps known (prepend_known waits reader)
    → ((rest : List ℕ) → P (waits ++ rest)) → OfStream known P
of_whole None reader waits P h f = record { stream = waits ++ []; is = tt; holds = f [] }
of_whole (Some stream) None waits P h f = absurd h
of_whole (Some stream) (Some rest) waits P h f = record { stream = waits ++ rest; is = sym h; holds = f rest }

pub of_end : (known reader : Option (List ℕ)) (waits : List ℕ) (P : List ℕ → Type 0) → Keeps known (prepend_known waits reader)
    → IsAtEnd reader → P waits → OfStream known P
of_end None reader waits P h e p = record { stream = waits; is = tt; holds = p }
of_end (Some stream) None waits P h e p = absurd h
of_end (Some stream) (Some rest) waits P h e p = record { stream = waits; is = sym h ∙ ap (λ (t : List ℕ). waits ++ t) e ∙ append-nil waits; holds = p }

-- ---- fronts

pub front_whole : (waits rest : List ℕ) (n : ℕ) → IsHeadEnd (take 8192 waits) n → IsFront (waits ++ rest) (take n waits) (drop n waits ++ rest)
front_whole waits rest n h =
    let small : n ≤ 8192 = omega (arith, h.within, length-take 8192 waits) in
    let within : n ≤ length waits = omega (arith, h.within, length-take 8192 waits) in
    let same : take n (take 8192 waits) ≡ take n waits = take-take n 8192 waits small in
    record {
      whole = ap (λ (t : List ℕ). t ++ rest) (sym (take-append-drop n waits)) ∙ append_assoc (take n waits) (drop n waits) rest;
      ends = subst EndsHead same h.ends;
      short = omega (arith, small, length-take-le n waits within);
      shortest = λ front more e ends. h.shortest front more (same ∙ e) ends;
    }

pub no_front : (stream : List ℕ) → HasNoHeadEnd (take 8192 stream) → HasNoFront stream
no_front stream none head rest f =
    let size : length head + (8192 - length head) ≡ 8192 = omega (arith, f.short) in
    none head (take (8192 - length head) rest)
    (ap (take 8192) f.whole ∙ ap (λ (k : ℕ). take k (head ++ rest)) (sym size) ∙ take-append-add head rest (8192 - length head)) f.ends

pub no_front_short : (stream : List ℕ) → length stream < 8192 → HasNoHeadEnd stream → HasNoFront stream
no_front_short stream short none = no_front stream (subst HasNoHeadEnd (sym (take_all 8192 stream (omega (arith, short)))) none)

pub awaits_head : (stream : List ℕ) → length stream < 8192 → HasNoHeadEnd stream → AwaitsHead stream
awaits_head stream short none = (short, no_front_short stream short none)

-- ---- steps

pub next_too_long : (waits rest : List ℕ) → 8192 ≤ length waits → HasNoHeadEnd (take 8192 waits) → Next (waits ++ rest) (Refused rule.HeadTooLong) []
next_too_long waits rest long none =
    next.too_long (omega (arith, length-append waits rest)) (no_front (waits ++ rest) (subst HasNoHeadEnd (sym (take-append-le 8192 waits rest long)) none))

pub next_truncated : (stream : List ℕ) → 0 < length stream → length stream < 8192 → HasNoHeadEnd stream → Next stream Truncated []
next_truncated stream some short none = next.truncated some short (no_front_short stream short none)

pub has_head : (stream text rest : List ℕ) (head : _) (has_length : _) (n : ℕ) → IsFront stream text rest → HeadAnnounces text head has_length n → HasHead stream head has_length n rest
has_head stream text rest head has_length n f t = record { front = text; is_front = f; is_head = t.is_head; uncoded = t.uncoded; announces = t.announces }

pub next_refused : (stream text rest : List ℕ) (r : Refusal) → IsFront stream text rest → Breaks text r → Next stream (Refused r) []
next_refused stream text rest r f (breaks.malformed none) = next.malformed text rest f none
next_refused stream text rest r f (breaks.coded head is_head coded) = next.coded text rest head f is_head coded
next_refused stream text rest r f (breaks.no_length head is_head uncoded none) = next.no_length text rest head f is_head uncoded none
next_refused stream text rest r f (breaks.too_large head n tells large) = next.too_large head n rest (has_head stream text rest head _ n f tells) large

pub breaks_early : (text : List ℕ) (r : Refusal) → Breaks text r → (0 < number_of r) × (number_of r ≤ 5)
breaks_early text r (breaks.malformed none) = (lit< tt, lit≤ tt)
breaks_early text r (breaks.coded head is_head coded) = (lit< tt, lit≤ tt)
breaks_early text r (breaks.no_length head is_head uncoded none) = (lit< tt, lit≤ tt)
breaks_early text r (breaks.too_large head n tells large) = (lit< tt, lit≤ tt)

-- ---- a head's end was found among the bytes that wait

pub front_of : (waits rest text after : List ℕ) (n : ℕ) → IsHeadEnd (take 8192 waits) n → text ≡ take n waits → after ≡ drop n waits → IsFront (waits ++ rest) text (after ++ rest)
front_of waits rest text after n h t a = rw (t, a) (front_whole waits rest n h)

-- a front is the front of itself and of every stream that begins with it
pub front_alone : (stream text rest : List ℕ) → IsFront stream text rest → IsFront text text []
front_alone stream text rest f = record { whole = sym (append-nil text); ends = f.ends; short = f.short; shortest = f.shortest }

pub front_further : (text more : List ℕ) → IsFront text text [] → IsFront (text ++ more) text more
front_further text more f = record { whole = refl; ends = f.ends; short = f.short; shortest = f.shortest }

pub text_alone : (waits text : List ℕ) (n : ℕ) → IsHeadEnd (take 8192 waits) n → text ≡ take n waits → IsFront text text []
text_alone waits text n h t = front_alone (waits ++ []) text (drop n waits ++ []) (front_of waits [] text (drop n waits) n h t refl)

-- the text was copied to the front of an array
pub text_copied : (waits text new behind : List ℕ) (n : ℕ) → IsHeadEnd (take 8192 waits) n → new ≡ text → text ≡ take n waits → take n (new ++ behind) ≡ take n waits
text_copied waits text new behind n h e t =
    let within : n ≤ length waits = omega (arith, h.within, length-take 8192 waits) in
    let is : new ≡ take n waits = e ∙ t in
    let size : length new ≡ n = ap length is ∙ length-take-le n waits within in
    ap (λ (k : ℕ). take k (new ++ behind)) (sym size) ∙ take-append_seam new behind ∙ is

pub opened : (known reader : Option (List ℕ)) (waits text after : List ℕ) (n : ℕ) → IsHeadEnd (take 8192 waits) n → text ≡ take n waits → after ≡ drop n waits
    → Keeps known (prepend_known waits reader) → IfSome known (λ stream. (rest : List ℕ) × IsFront stream text rest × (prepend_known after reader ≡ Some rest))
opened known reader waits text after n h t a kept =
    known_whole known reader waits (λ stream. (rest : List ℕ) × IsFront stream text rest × (prepend_known after reader ≡ Some rest)) kept
    (λ rest e. (after ++ rest, front_of waits rest text after n h t a, ap (prepend_known after) e))

pub barred : (known reader : Option (List ℕ)) (waits text after : List ℕ) (n : ℕ) (r : Refusal) → IsHeadEnd (take 8192 waits) n → text ≡ take n waits → after ≡ drop n waits
    → Keeps known (prepend_known waits reader) → Breaks text r → OfStream known (λ stream. Next stream (Refused r) [])
barred known reader waits text after n r h t a kept b =
    of_whole known reader waits (λ stream. Next stream (Refused r) []) kept (λ rest. next_refused (waits ++ rest) text (after ++ rest) r (front_of waits rest text after n h t a) b)
