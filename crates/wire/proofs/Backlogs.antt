-- Ranges of a buffer: taking from their front, moving them to the buffer's front, and appending to them.
use Rattle.std.proofs.Common.{◌≡◌, ◌≤◌, ◌<◌, ◌+◌, ◌-◌, ℕ, List, [], ◌∷◌, ◌++◌, length, take, drop, min, Option, None, Some, arith, refl, sym, ap, ◌∙◌, append_assoc, subst, length-append, length-drop}
use Rattle.std.specs.Io.KnownBytes.{Consumes, Keeps, prepend_known}
use Rattle.std.proofs.KnownBytes.{Keeps-trans}
use Rattle.std.proofs.lemmas.List.{length-take-le, take_min, take_all, take-append-le, take-take, drop-take, drop-drop}
use Rattle.std.proofs.lemmas.List.Edits.{take-paste}
use Rattle.std.proofs.Math.Seq.{paste, take-append_seam}
use Rattle.wire.specs.Heads.{HasNoHeadEnd}
use Rattle.wire.specs.Waiting.{waiting}
use Rattle.wire.specs.declared.backlog.Backlog.{Backlog}

pub range_length : (xs : List ℕ) (s e : ℕ) → s ≤ e → e ≤ length xs → length (take (e - s) (drop s xs)) ≡ e - s
range_length xs s e o w = length-take-le (e - s) (drop s xs) (omega (arith, length-drop s xs))

pub range_within : (xs : List ℕ) (s e n : ℕ) → s ≤ e → e ≤ length xs → n ≤ length (take (e - s) (drop s xs)) → s + n ≤ e
range_within xs s e n o w h = omega (arith, range_length xs s e o w)

pub range_taken : (xs : List ℕ) (s e n : ℕ) → s + n ≤ e → take ((s + n) - ((s + n) - n)) (drop ((s + n) - n) xs) ≡ take n (take (e - s) (drop s xs))
range_taken xs s e n h =
    let start : (s + n) - n ≡ s = omega arith in
    let size : (s + n) - s ≡ n = omega arith in
    ap (λ (k : ℕ). take ((s + n) - k) (drop k xs)) start ∙ ap (λ (k : ℕ). take k (drop s xs)) size ∙ sym (take-take n (e - s) (drop s xs) (omega arith))

pub range_rest : (xs : List ℕ) (s e n : ℕ) → s + n ≤ e → take (e - (s + n)) (drop (s + n) xs) ≡ drop n (take (e - s) (drop s xs))
range_rest xs s e n h =
    let long : n + (e - (s + n)) ≡ e - s = omega arith in
    ap (take (e - (s + n))) (sym (drop-drop n s xs)) ∙ sym (drop-take n (e - (s + n)) (drop s xs)) ∙ ap (λ (k : ℕ). drop n (take k (drop s xs))) long

pub range_moved : (xs : List ℕ) (s e : ℕ) → s ≤ e → e ≤ length xs → take ((e - s) - 0) (drop 0 (paste xs 0 (drop s xs) (e - s))) ≡ take (e - s) (drop s xs)
range_moved xs s e o w =
    let size : (e - s) - 0 ≡ 0 + (e - s) = omega arith in
    ap (λ (k : ℕ). take k (paste xs 0 (drop s xs) (e - s))) size ∙ take-paste xs 0 (drop s xs) (e - s) (omega arith) (omega (arith, length-drop s xs))

-- the length of the vector is the length of its items
pub fits : (b : Backlog) → b.end ≤ length b.bytes.items
fits b = omega (arith, b.within, b.bytes.ok.0)

pub waits : (b : Backlog) → length (waiting b) ≡ b.end - b.start
unfolding waiting
waits b = range_length b.bytes.items b.start b.end b.ordered (fits b)

pub take_some : (n : ℕ) (ys : List ℕ) → 0 < n → n ≤ length ys → take n ys ≡ [] → ⊥
take_some n ys some within e = omega (arith, ap length e, length-take-le n ys within)

pub same_front : (a : ℕ) (xs ys rest : List ℕ) → a ≤ length xs → take a (take a xs ++ (ys ++ rest)) ≡ take a xs
same_front a xs ys rest within = take-append-le a (take a xs) (ys ++ rest) (omega (arith, length-take-le a xs within)) ∙ take-take a a xs (omega arith)

-- appending to a range at the front
pub range_more : (xs ys came : List ℕ) (s e n : ℕ) → s ≡ 0 → take (e + n) ys ≡ take e xs ++ came → take ((e + n) - s) (drop s ys) ≡ take (e - s) (drop s xs) ++ came
range_more xs ys came s e n front h =
    let first : (e + n) - 0 ≡ e + n = omega arith in
    let second : e ≡ e - 0 = omega arith in
    ap (λ (k : ℕ). take ((e + n) - k) (drop k ys)) front ∙ ap (λ (k : ℕ). take k ys) first
    ∙ h ∙ ap (λ (k : ℕ). take k xs ++ came) second ∙ ap (λ (k : ℕ). take (e - k) (drop k xs) ++ came) (sym front)

pub range_kept : (xs ys : List ℕ) (s e : ℕ) → s ≡ 0 → take e ys ≡ take e xs → take (e - s) (drop s ys) ≡ take (e - s) (drop s xs)
range_kept xs ys s e front h =
    let all : e - 0 ≡ e = omega arith in
    ap (λ (k : ℕ). take (e - k) (drop k ys)) front ∙ ap (λ (k : ℕ). take k ys) all ∙ h ∙ ap (λ (k : ℕ). take k xs) (sym all) ∙ ap (λ (k : ℕ). take (e - k) (drop k xs)) (sym front)

pub take_least : (n : ℕ) (xs : List ℕ) → take (min (length xs) n) xs ≡ take n xs
take_least n xs = let swapped : min (length xs) n ≡ min n (length xs) = omega arith in ap (λ (k : ℕ). take k xs) swapped ∙ take_min n xs

-- the window without a head's end was all that waited
pub still_none : (window old new : List ℕ) → window ≡ take 8192 old → length old < 8192 → new ≡ old → HasNoHeadEnd window → (length new < 8192) × HasNoHeadEnd new
still_none window old new seen short same none =
    (omega (arith, ap length same), subst HasNoHeadEnd (seen ∙ take_all 8192 old (omega arith) ∙ sym same) none)

pub grown : (before came : List ℕ) → (came ≡ [] → ⊥) → length before < length (before ++ came)
grown before [] some = absurd (some refl)
grown before (x ∷ came) some = omega (arith, length-append before (x ∷ came))

-- the bytes that a reader gave wait after those that waited
pub prepend-more : (r s : Option (List ℕ)) (before came : List ℕ) → Consumes r s came → Keeps (prepend_known before r) (prepend_known (before ++ came) s)
prepend-more None s before came h = tt
prepend-more (Some x) None before came h = absurd h
prepend-more (Some x) (Some y) before came h = append_assoc before came y ∙ ap (λ (t : List ℕ). before ++ t) (sym h)

pub prepend-kept : (r s : Option (List ℕ)) (before : List ℕ) → Keeps r s → Keeps (prepend_known before r) (prepend_known before s)
prepend-kept None s before h = tt
prepend-kept (Some x) None before h = absurd h
prepend-kept (Some x) (Some y) before h = ap (λ (t : List ℕ). before ++ t) h

-- what was left first is still left after a read that gave bytes, or none
pub kept_grown : (first here there : Option (List ℕ)) (old bytes new : List ℕ) → Keeps first (prepend_known old here) → Consumes here there bytes → new ≡ old ++ bytes
    → Keeps first (prepend_known new there)
kept_grown first here there old bytes new kept consumed more =
    subst (λ (w : List ℕ). Keeps first (prepend_known w there)) (sym more)
    (Keeps-trans first (prepend_known old here) (prepend_known (old ++ bytes) there) kept (prepend-more here there old bytes consumed))

pub kept_failed : (first here there : Option (List ℕ)) (old new : List ℕ) → Keeps first (prepend_known old here) → Keeps here there → new ≡ old
    → Keeps first (prepend_known new there)
kept_failed first here there old new kept same more =
    subst (λ (w : List ℕ). Keeps first (prepend_known w there)) (sym more)
    (Keeps-trans first (prepend_known old here) (prepend_known old there) kept (prepend-kept here there old same))

-- ---- the bytes that were searched for a head's end

pub in_window : (window waits : List ℕ) (searched : ℕ) → window ≡ take 8192 waits → searched ≤ 8192 → HasNoHeadEnd (take searched waits) → HasNoHeadEnd (take searched window)
in_window window waits searched e small none = subst HasNoHeadEnd (sym (ap (take searched) e ∙ take-take searched 8192 waits small)) none

pub still_searched : (window old new came : List ℕ) → window ≡ take 8192 old → length old < 8192 → new ≡ old ++ came → HasNoHeadEnd window → HasNoHeadEnd (take (length old) new)
still_searched window old new came seen short more none =
    subst HasNoHeadEnd (seen ∙ take_all 8192 old (omega arith) ∙ sym (ap (take (length old)) more ∙ take-append_seam old came)) none

-- the waiting bytes are those that were taken from the reader
pub consumes_waiting : (known reader : Option (List ℕ)) (waits : List ℕ) → Keeps known (prepend_known waits reader) → Consumes known reader waits
consumes_waiting None reader waits k = tt
consumes_waiting (Some x) None waits k = absurd k
consumes_waiting (Some x) (Some y) waits k = sym k
