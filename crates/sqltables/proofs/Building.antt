-- A file's pieces, inserted one by one.
use Rattle.std.proofs.Common.{◌≡◌, inl, inr, ℕ, ◌+◌, ◌*◌, ◌<◌, ◌≤◌, List, take, drop, length, min, false, Option, Some, None, arith, refl, sym, ap, subst, ◌∙◌}
use Rattle.std.specs.Prelude.{nat_lt, if◌then◌else◌}
use Rattle.std.proofs.lemmas.Bool.{cases_Bool, ltb-true, ltb-false, lt-ltb}
use Rattle.std.proofs.lemmas.List.{drop-drop, take_min, drop_min, length-drop}
use Rattle.sqlite.specs.State.{State, HasCleanDisk, KeepsCommit, Survives}
use Rattle.boxes.specs.State.{Place}
use Rattle.sqltables.specs.Schema.{Version, IsVersion}
use Rattle.sqltables.specs.Tables.{Tables, Part, same_place, piece_of}
use Rattle.sqltables.specs.Changes.{with_pieces, with_bytes, NoPieces, AddsPiece}
use Rattle.sqltables.specs.Means.{Pends, IsRunning}
use Rattle.sqltables.proofs.Keys.{tells_places}

pub survives_then : (a b c : State) → Survives a b (λ db. ⊥) → Survives b c (λ db. ⊥) → Survives a c (λ db. ⊥)
survives_then a b c one two = record {
  clean = omega (arith, one.clean, two.clean);
  counts = omega (arith, one.counts, two.counts);
  limit = two.limit ∙ one.limit;
  closes = λ clean h. elim (one.closes (omega (arith, two.clean)) h) [
    | inl still ↦ elim (two.closes clean still) [ inl last ↦ inl last | inr fault ↦ inr (omega (arith, one.counts, fault)) ]
    | inr fault ↦ inr (omega (arith, two.counts, fault))
  ];
  shield = λ h. two.shield (one.shield h);
  crash = λ clean db h. elim (two.crash clean db h) [
    | inl earlier ↦ elim (one.crash (omega (arith, two.clean)) db earlier) [ inl first ↦ inl first | inr made ↦ absurd made ]
    | inr made ↦ absurd made
  ];
}

pub survives_itself : (a : State) → Survives a a (λ db. ⊥)
survives_itself a = record { clean = omega arith; counts = omega arith; limit = refl; closes = λ clean h. inl h; shield = λ h. h; crash = λ clean db h. inl h }

pub keeps_then : (a b c : State) → KeepsCommit a b → KeepsCommit b c → KeepsCommit a c
keeps_then a b c one two = record { was_open = λ h. one.was_open (two.was_open h); committed = λ h. two.committed h ∙ one.committed (two.was_open h) }

-- `count` pieces are inserted, and nothing was committed
pub record Built (entry now : State) (place : Place) (bytes : List ℕ) (count : ℕ) : Type 0 where
  pub uncommitted : HasCleanDisk now → KeepsCommit entry now
  pub survives : Survives entry now (λ db. ⊥)
  pub running : HasCleanDisk now → IsRunning entry → IsRunning now
  pub done : (v : Version) (tables : Tables) → IsVersion v → Pends v entry tables → NoPieces tables place → Pends v now (with_pieces tables place bytes count)

module _ (tables : Tables) (place : Place) (bytes : List ℕ) where
  abbrev cut : ℕ → Part → Option (List ℕ)
  cut count part = if same_place part.place place then (if nat_lt part.at count then piece_of bytes part.at else None) else tables.piece part

  none_cut : NoPieces tables place → (part : Part) → cut 0 part ≡ tables.piece part
  none_cut none part = elim (cases_Bool (same_place part.place place)) [
    | inl here ↦ elim (cases_Bool (nat_lt part.at 0)) [
      | inl early ↦ absurd (let e = ltb-true part.at 0 early in omega (arith, e))
      | inr late ↦ rw (here, late) (sym (ap (λ p. tables.piece (record { place = p; at = part.at })) (tells_places.only part.place place here) ∙ none part.at))
    ]
    | inr other ↦ rw other
  ]

  pub no_pieces : NoPieces tables place → with_pieces tables place bytes 0 ≡ tables
  no_pieces none = λ i. record tables { piece = λ part. none_cut none part i }

  past : (count at : ℕ) → length bytes ≤ 65536 * count → nat_lt at count ≡ false → piece_of bytes at ≡ None
  past count at all late = elim (cases_Bool (nat_lt (65536 * at) (length bytes))) [
    | inl within ↦ absurd (let e = lt-ltb at count (let low = ltb-true (65536 * at) (length bytes) within in omega (arith, low, all)) in let f = sym late ∙ e in cc)
    | inr beyond ↦ rw beyond
  ]

  all_cut : (count : ℕ) → length bytes ≤ 65536 * count → (part : Part) → cut count part ≡ (with_bytes tables place bytes).piece part
  all_cut count all part = elim (cases_Bool (same_place part.place place)) [
    | inl here ↦ elim (cases_Bool (nat_lt part.at count)) [
      | inl early ↦ rw (here, early)
      | inr late ↦ rw (here, late) (sym (past count part.at all late))
    ]
    | inr other ↦ rw other
  ]

  pub all_pieces : (count : ℕ) → length bytes ≤ 65536 * count → with_pieces tables place bytes count ≡ with_bytes tables place bytes
  all_pieces count all = λ i. record tables { piece = λ part. all_cut count all part i }

  cut_here : (count : ℕ) (piece : List ℕ) → piece_of bytes count ≡ Some piece → cut (count + 1) (record { place = place; at = count }) ≡ Some piece
  cut_here count piece is = rw (tells_places.itself place, lt-ltb count (count + 1) (omega arith), is)

  pub one_more : (count : ℕ) (piece : List ℕ) → piece_of bytes count ≡ Some piece
      → AddsPiece (with_pieces tables place bytes count) (with_pieces tables place bytes (count + 1)) (record { place = place; at = count }) piece
  one_more count piece is = (
    record {
      here = cut_here count piece is;
      still = λ q w some. elim (cases_Bool (same_place q.place place)) [
        | inl here ↦ elim (cases_Bool (nat_lt q.at count)) [
          | inl early ↦ let more = lt-ltb q.at (count + 1) (let low = ltb-true q.at count early in omega (arith, low)) in let e = rw (here, early) at some in rw (here, more) e
          | inr late ↦ absurd (let e = rw (here, late) at some in cc)
        ]
        | inr other ↦ let e = rw other at some in rw other e
      ];
      either = λ q w some. elim (cases_Bool (same_place q.place place)) [
        | inl here ↦ elim (cases_Bool (nat_lt q.at count)) [
          | inl early ↦ let more = lt-ltb q.at (count + 1) (let low = ltb-true q.at count early in omega (arith, low)) in let e = rw (here, more) at some in inr (rw (here, early) e)
          | inr late ↦ elim (cases_Bool (nat_lt q.at (count + 1))) [
            | inl last ↦
                let at : q.at ≡ count = let high = ltb-true q.at (count + 1) last in let low = ltb-false q.at count late in omega (arith, high, low) in
                let lies = tells_places.only q.place place here in
                let same : q ≡ record { place = place; at = count } = λ i. record { place = lies i; at = at i } in
                inl (same, let e : cut (count + 1) (record { place = place; at = count }) ≡ Some w = subst (λ x. cut (count + 1) x ≡ Some w) same some in let f = sym e ∙ cut_here count piece is in cc)
            | inr never ↦ absurd (let e = rw (here, never) at some in cc)
          ]
        ]
        | inr other ↦ let e = rw other at some in inr (rw other e)
      ];
    },
    refl,
  )

-- the next piece of the remaining bytes
pub next_piece : (bytes rest : List ℕ) (count : ℕ) → rest ≡ drop (65536 * count) bytes → 0 < length rest
    → (piece_of bytes count ≡ Some (take (min 65536 (length rest)) rest)) × (drop (min 65536 (length rest)) rest ≡ drop (65536 * (count + 1)) bytes)
next_piece bytes rest count is some =
    let long : 65536 * count < length bytes = let e : length rest ≡ _ = ap length is ∙ length-drop (65536 * count) bytes in omega (arith, e, some) in (
      rw (lt-ltb (65536 * count) (length bytes) long, take_min 65536 rest, is),
      drop_min 65536 rest ∙ ap (drop 65536) is ∙ drop-drop 65536 (65536 * count) bytes ∙ ap (λ n. drop n bytes) (omega arith),
    )
