-- What a turn that only reads on has read, and needs.
use Rattle.std.proofs.Common.{◌≡◌, ◌∙◌, ◌++◌, ◌+◌, ◌-◌, ◌≤◌, ℕ, List, [], length, Option, None, Some, refl, sym, ap, subst, append_assoc, arith, inl, inr, ◌⊎◌}
use Rattle.std.specs.Io.KnownBytes.{Consumes, Keeps}
use Rattle.std.proofs.lemmas.List.{length-append}
use Rattle.wire.specs.Feeding.{AwaitsHead}
use Rattle.wire.specs.Feeds.{ahead_of, given_before, stood_at}
use Rattle.wire.specs.Seats.{Gathers, Sends, came_behind, came_of, left_behind, left_of}
use Rattle.wire.specs.Underways.{IsUnderway, begun_by}
use Rattle.wire.specs.declared.feed.Place.TheVariants as place
use Rattle.wire.specs.declared.seat.Seat.{Seat}
use Rattle.wire.specs.declared.standing.Standing.{Standing}
use Rattle.wire.specs.declared.underway.Underway.{Underway}
use Rattle.office.specs.Interleaved.{NeedsMore}
use Rattle.office.specs.Seats.{LacksRest, ReadsInFull, waits_of}

-- ---- how much of the next message was taken

unfoldable pub part_behind : Option Underway → Standing → ℕ
part_behind u s = length (begun_by u) + length (given_before s)

abbrev pub part_of : {R W : Type 0} → Seat R W → ℕ
part_of seat = part_behind seat.underway seat.standing

-- a body that stands at the same place was given as much of
same_given : (u : Underway) (s t : Standing) → stood_at t ≡ stood_at s → IsUnderway u s → IsUnderway u t → length (given_before t) ≡ length (given_before s)
same_given u s t at x y =
    let same : place.Body (u.size - length (given_before t)) ≡ place.Body (u.size - length (given_before s)) = sym y.stands ∙ at ∙ x.stands in
    let rest : u.size - length (given_before t) ≡ u.size - length (given_before s) = cc in
    omega (arith, rest, x.fits, y.fits)

module _ {R W : Type 0} (remaining : R → Option (List ℕ)) (old new : Seat R W) where
  part_gathered_of : (u : Option Underway) → old.underway ≡ u → old.end ≡ None → Gathers remaining old new → part_of new ≡ part_of old
  unfolding part_behind
  part_gathered_of None none is_open g =
      let before : length (given_before old.standing) ≡ 0 = ap length (old.forgot is_open none) in
      let now : length (given_before new.standing) ≡ 0 = ap length (new.forgot (g.end ∙ is_open) (g.underway ∙ none)) in
      let same : length (begun_by new.underway) ≡ length (begun_by old.underway) = ap (λ (u : Option Underway). length (begun_by u)) g.underway in
      omega (arith, before, now, same)
  part_gathered_of (Some u) is is_open g =
      let given = same_given u old.standing new.standing g.place (old.goes_on u is) (new.goes_on u (g.underway ∙ is)) in
      let same : length (begun_by new.underway) ≡ length (begun_by old.underway) = ap (λ (u : Option Underway). length (begun_by u)) g.underway in
      omega (arith, given, same)

  -- bytes that are read ahead or put back are not taken
  pub part_gathered : old.end ≡ None → Gathers remaining old new → part_of new ≡ part_of old
  part_gathered is_open g = part_gathered_of old.underway refl is_open g

pub part_sent : {R W : Type 0} (contents : W → Option (List ℕ)) (old new : Seat R W) → Sends contents old new → part_of new ≡ part_of old
part_sent contents old new g =
    ap (λ (u : Option Underway). part_behind u new.standing) g.underway ∙ ap (λ (s : Standing). part_behind old.underway s) g.standing

-- ---- what came of it

-- what was taken came
part_came : (u : Option Underway) (s : Standing) → part_behind u s ≤ length (came_behind u s)
unfolding part_behind
part_came u s = omega (arith, length-append (begun_by u) (given_before s ++ ahead_of s), length-append (given_before s) (ahead_of s))

-- what came of a body was taken
came_part : (u : Option Underway) (s : Standing) → ahead_of s ≡ [] → length (came_behind u s) ≤ part_behind u s
unfolding part_behind
came_part u s none =
    let long : length (ahead_of s) ≡ 0 = ap length none in
    omega (arith, long, length-append (begun_by u) (given_before s ++ ahead_of s), length-append (given_before s) (ahead_of s))

some_bytes : (a b : List ℕ) → Some a ≡ Some b → a ≡ b
some_bytes a b h = cc

kept_bytes : (a b : Option (List ℕ)) (bytes : List ℕ) → Keeps a b → a ≡ Some bytes → b ≡ Some bytes
kept_bytes None b bytes keeps is = absurd cc
kept_bytes (Some xs) None bytes keeps is = absurd keeps
kept_bytes (Some xs) (Some ys) bytes keeps is = ap Some keeps ∙ is

-- the known bytes of a stream are those that came of the next message, and those that its reader has
came_first : (u : Option Underway) (s : Standing) (reader : Option (List ℕ)) (bytes : List ℕ) → left_behind u s reader ≡ Some bytes
    → (rest : List ℕ) × (reader ≡ Some rest) × (bytes ≡ came_behind u s ++ rest)
came_first u s None bytes is = absurd cc
came_first u s (Some rest) bytes is = (
  rest,
  refl,
  sym (some_bytes (begun_by u ++ (given_before s ++ (ahead_of s ++ rest))) bytes is)
      ∙ ap (λ (l : List ℕ). begun_by u ++ l) (sym (append_assoc (given_before s) (ahead_of s) rest))
      ∙ sym (append_assoc (begun_by u) (given_before s ++ ahead_of s) rest),
)

-- at least as many bytes of the message came as were taken before and read now
enough_came : (part m : ℕ) (bytes before came now rest rest' : List ℕ) → part ≤ length before → bytes ≡ before ++ rest → bytes ≡ now ++ rest' → rest ≡ came ++ rest' → m ≤ length came → part + m ≤ length now
enough_came part m bytes before came now rest rest' had old new taken le =
    omega (arith, had, ap length old ∙ length-append before rest, ap length new ∙ length-append now rest', ap length taken ∙ length-append came rest', le)

-- what is kept for the next turn
kept_next : (u : Option Underway) (s : Standing) → LacksRest u s → (kept : ℕ) × (kept ≤ part_behind u s) × (((kept ≡ 0) × AwaitsHead (came_behind u s)) ⊎ (kept ≡ length (came_behind u s)))
kept_next None s lacks = (0, omega arith, inl (refl, lacks.head refl))
kept_next (Some u) s lacks = (length (came_behind (Some u) s), came_part (Some u) s (lacks.body u refl), inr refl)

module _ {R W : Type 0} (remaining : R → Option (List ℕ)) (old new : Seat R W) (longer : waits_of new ≡ waits_of old + 1) (keeps : Keeps (left_of remaining old) (left_of remaining new)) where
  differs : new.waited ≡ old.waited → ⊥
  differs is =
      let same : waits_of new ≡ waits_of old = rw is refl in
      absurd (omega (arith, longer, same))

  -- There was a bound. If the stream is known, at least so many bytes came behind those that were kept.
  pub more_needed : (most : Option ℕ) → ReadsInFull remaining most old new
      → (m : ℕ) × (most ≡ Some m) × ((rest : List ℕ) (kept : ℕ) → left_of remaining old ≡ Some rest → kept ≤ part_of old → (kept' : ℕ) × (kept' ≤ part_of new) × NeedsMore (kept + m) kept' rest)
  more_needed None r = absurd (r.all differs)
  more_needed (Some m) r =
      let (came, taken, enough) = r.all differs in
      let lacks = r.lacks differs in (
        m,
        refl,
        λ bytes kept is le.
            let (rest, before, whole) = came_first old.underway old.standing (remaining old.reader.inner) bytes is in
            let (rest', now, whole') = came_first new.underway new.standing (remaining new.reader.inner) bytes (kept_bytes (left_of remaining old) (left_of remaining new) bytes keeps is) in
            let part : rest ≡ came ++ rest' = subst (λ o. Consumes (Some rest) o came) now (subst (λ o. Consumes o (remaining new.reader.inner) came) before taken) in
            let (next, within, so) = kept_next new.underway new.standing lacks in (
              next,
              within,
              record {
                came = came_of new;
                begins = record { rest = rest'; joined = whole' };
                enough = enough_came kept m bytes (came_of old) came (came_of new) rest rest' (omega (arith, le, part_came old.underway old.standing)) whole whole' part enough;
                awaits = lacks.awaits;
                keeps = so;
              },
            ),
      )
