-- A file's bytes, collected piece by piece.
use Rattle.std.proofs.Common.{◌≡◌, ◌⊎◌, inl, inr, ℕ, ◌+◌, ◌-◌, ◌*◌, ◌<◌, ◌≤◌, List, [], ◌++◌, take, drop, length, min, true, Some, None, IsTrue, length-append, arith, refl, sym, ap, subst, ◌∙◌}
use Rattle.std.specs.Prelude.{nat_lt}
use Rattle.std.proofs.lemmas.Bool.{cases_Bool, ltb-true, ltb-false, lt-ltb}
use Rattle.std.proofs.Math.Seq.{drop-append_seam}
use Rattle.std.proofs.lemmas.List.{take-append-le, drop-append-le, length-drop, take_all}
use Rattle.sqlite.specs.State.{State, HasCleanDisk, KeepsCommit, Survives}
use Rattle.boxes.specs.State.{Place}
use Rattle.sqltables.specs.Schema.{Version, IsVersion}
use Rattle.sqltables.specs.Tables.{piece_of}
use Rattle.sqltables.specs.Means.{IsWhole, IsRunning}
use Rattle.sqltables.specs.Pieces.{HasPiece, AreBytesOf}
use Rattle.sqltables.proofs.Building.{survives_then, survives_itself, keeps_then}
use Rattle.sqltables.proofs.Runs.{itself_keeps}

-- ---- pieces of bytes that are extended

front_piece : (bytes more : List ℕ) (at : ℕ) → 65536 * at + 65536 ≤ length bytes → piece_of (bytes ++ more) at ≡ piece_of bytes at
front_piece bytes more at within =
    let short : nat_lt (65536 * at) (length bytes) ≡ true = lt-ltb (65536 * at) (length bytes) (omega (arith, within)) in
    let long : nat_lt (65536 * at) (length (bytes ++ more)) ≡ true = lt-ltb (65536 * at) (length (bytes ++ more)) (let e = length-append bytes more in omega (arith, within, e)) in
    let left : 65536 ≤ length (drop (65536 * at) bytes) = let e = length-drop (65536 * at) bytes in omega (arith, e, within) in
    rw (short, long) (ap (λ l. Some (take 65536 l)) (drop-append-le (65536 * at) bytes more (omega (arith, within))) ∙ ap Some (take-append-le 65536 (drop (65536 * at) bytes) more left))

last_piece : (bytes more : List ℕ) (at : ℕ) → length bytes ≡ 65536 * at → 0 < length more → length more ≤ 65536 → piece_of (bytes ++ more) at ≡ Some more
last_piece bytes more at ends some short =
    let long : nat_lt (65536 * at) (length (bytes ++ more)) ≡ true = lt-ltb (65536 * at) (length (bytes ++ more)) (let e = length-append bytes more in omega (arith, ends, some, e)) in
    rw long (ap (λ l. Some (take 65536 l)) (ap (λ n. drop n (bytes ++ more)) (sym ends) ∙ drop-append_seam bytes more) ∙ ap Some (take_all 65536 more short))

pub no_piece : (bytes : List ℕ) (at : ℕ) → length bytes ≤ 65536 * at → piece_of bytes at ≡ None
no_piece bytes at all = elim (cases_Bool (nat_lt (65536 * at) (length bytes))) [
  | inl within ↦ absurd (let e = ltb-true (65536 * at) (length bytes) within in omega (arith, e, all))
  | inr beyond ↦ rw beyond
]

-- ---- what was read

-- the file opens with our schema
pub record OpensOurs (v : Version) (s : State) : Type 0 where
  pub version : IsVersion v
  pub schema : IsTrue s.is_open → s.now.schema ≡ v.schema
  pub inside : IsTrue s.in_transaction

-- `count` pieces were read, and together they are these bytes
pub record Gathered (entry now : State) (place : Place) (size : ℕ) (bytes : List ℕ) (count : ℕ) : Type 0 where
  pub uncommitted : HasCleanDisk now → IsTrue entry.in_transaction → KeepsCommit entry now
  pub survives : Survives entry now (λ db. ⊥)
  pub inside : HasCleanDisk now → IsTrue entry.in_transaction → IsTrue now.in_transaction
  pub running : HasCleanDisk now → IsRunning entry → IsRunning now
  pub mode : HasCleanDisk now → now.in_transaction ≡ entry.in_transaction
  pub opened : HasCleanDisk now → IsTrue entry.in_transaction → (length bytes ≡ 0) ⊎ IsTrue entry.is_open
  pub same : (v : Version) → OpensOurs v entry → HasCleanDisk now → now.now ≡ entry.now
  pub within : length bytes ≤ size
  pub long : (length bytes ≡ 65536 * count) ⊎ (length bytes ≡ size)
  pub pieces : (v : Version) → OpensOurs v entry → (IsTrue entry.is_open → IsWhole entry.now) → HasCleanDisk now → (at : ℕ) (piece : List ℕ) → piece_of bytes at ≡ Some piece → HasPiece (entry.now.trees 9) place at piece

pub none_gathered : (s : State) (place : Place) (size : ℕ) → Gathered s s place size [] 0
none_gathered s place size = record {
  uncommitted = λ clean inside. itself_keeps s;
  survives = survives_itself s;
  inside = λ clean inside. inside;
  running = λ clean running. running;
  mode = λ clean. refl;
  opened = λ clean inside. inl refl;
  same = λ v ours clean. refl;
  within = omega arith;
  long = inl refl;
  pieces = λ v ours whole clean at piece is. absurd (let e = sym (no_piece [] at (omega arith)) ∙ is in cc);
}

module _ (entry mid : State) (place : Place) (size : ℕ) (bytes : List ℕ) (count : ℕ) (g : Gathered entry mid place size bytes count) (v : Version) (ours : OpensOurs v entry) (clean : HasCleanDisk mid) where
  was_open : IsTrue mid.is_open → IsTrue entry.is_open
  was_open is_open = (g.uncommitted clean ours.inside).was_open is_open

  pub ours_at : OpensOurs v mid
  ours_at = record {
    version = ours.version;
    schema = λ is_open. ap (λ db. db.schema) (g.same v ours clean) ∙ ours.schema (was_open is_open);
    inside = g.inside clean ours.inside;
  }

  pub whole_at : (IsTrue entry.is_open → IsWhole entry.now) → IsTrue mid.is_open → IsWhole mid.now
  whole_at whole is_open = subst IsWhole (sym (g.same v ours clean)) (whole (was_open is_open))

  -- without the next piece there are no bytes of this size
  pub no_bytes : length bytes < size → ((piece : List ℕ) → HasPiece (mid.now.trees 9) place count piece → ⊥) → (other : List ℕ) → AreBytesOf (entry.now.trees 9) place size other → ⊥
  no_bytes less none other are =
      let ends : length bytes ≡ 65536 * count = elim g.long [ inl e ↦ e | inr e ↦ absurd (omega (arith, e, less)) ] in
      let long : nat_lt (65536 * count) (length other) ≡ true = let e = are.size_is in lt-ltb (65536 * count) (length other) (omega (arith, ends, less, e)) in
      none (take 65536 (drop (65536 * count) other))
      (subst (λ db. HasPiece (db.trees 9) place count (take 65536 (drop (65536 * count) other))) (sym (g.same v ours clean)) (are.pieces count (take 65536 (drop (65536 * count) other)) (rw long refl)))

-- the answer to the query for the next piece
pub record ReadsNext (mid now : State) (place : Place) (at : ℕ) (piece : List ℕ) : Type 0 where
  pub read : (v : Version) → OpensOurs v mid → (IsTrue mid.is_open → IsWhole mid.now) → HasCleanDisk now → HasPiece (mid.now.trees 9) place at piece
  pub same : (v : Version) → OpensOurs v mid → HasCleanDisk now → now.now ≡ mid.now
  pub mode : HasCleanDisk now → now.in_transaction ≡ mid.in_transaction
  pub running : HasCleanDisk now → IsTrue mid.in_transaction → IsRunning now
  pub uncommitted : HasCleanDisk now → IsTrue mid.in_transaction → KeepsCommit mid now
  pub survives : Survives mid now (λ db. ⊥)

module _ (entry mid now : State) (place : Place) (size : ℕ) (bytes piece : List ℕ) (count : ℕ) (g : Gathered entry mid place size bytes count) (next : ReadsNext mid now place count piece)
    (less : length bytes < size) (fits : length piece ≡ min (size - length bytes) 65536) where
  early : HasCleanDisk now → HasCleanDisk mid
  early clean = omega (arith, clean, next.survives.clean)

  ends : length bytes ≡ 65536 * count
  ends = elim g.long [ inl e ↦ e | inr e ↦ absurd (omega (arith, e, less)) ]

  ours_still : (v : Version) → OpensOurs v entry → HasCleanDisk now → OpensOurs v mid
  ours_still v ours clean = ours_at entry mid place size bytes count g v ours (early clean)

  total : length (bytes ++ piece) ≡ length bytes + min (size - length bytes) 65536
  total = length-append bytes piece ∙ ap (◌+◌ (length bytes)) fits

  long : (length (bytes ++ piece) ≡ 65536 * (count + 1)) ⊎ (length (bytes ++ piece) ≡ size)
  long = elim (cases_Bool (nat_lt (size - length bytes) 65536)) [
    | inl few ↦ inr (let e = ltb-true (size - length bytes) 65536 few in omega (arith, total, e, less))
    | inr many ↦ inl (let e = ltb-false (size - length bytes) 65536 many in omega (arith, total, e, ends))
  ]

  module _ (v : Version) (ours : OpensOurs v entry) (whole : IsTrue entry.is_open → IsWhole entry.now) (clean : HasCleanDisk now) where
    still : mid.now ≡ entry.now
    still = g.same v ours (early clean)

    last : HasPiece (entry.now.trees 9) place count piece
    last = subst (λ db. HasPiece (db.trees 9) place count piece) still
        (next.read v (ours_still v ours clean) (whole_at entry mid place size bytes count g v ours (early clean) whole) clean)

    pieces : (at : ℕ) (q : List ℕ) → piece_of (bytes ++ piece) at ≡ Some q → HasPiece (entry.now.trees 9) place at q
    pieces at q is = elim (cases_Bool (nat_lt at count)) [
      | inl before ↦ g.pieces v ours whole (early clean) at q (sym (front_piece bytes piece at (let e = ltb-true at count before in omega (arith, e, ends))) ∙ is)
      | inr from ↦ elim (cases_Bool (nat_lt count at)) [
        | inl after ↦ absurd (let e = ltb-true count at after in let none = no_piece (bytes ++ piece) at (omega (arith, e, ends, total)) in let f = sym none ∙ is in cc)
        | inr upto ↦
            let here : count ≡ at = let a = ltb-false at count from in let b = ltb-false count at upto in omega (arith, a, b) in
            let whole_piece : piece_of (bytes ++ piece) count ≡ Some piece = last_piece bytes piece count ends (omega (arith, fits, less)) (omega (arith, fits)) in
            let e : Some piece ≡ Some q = sym whole_piece ∙ ap (piece_of (bytes ++ piece)) here ∙ is in
            let same : piece ≡ q = cc in
            subst (λ n. HasPiece (entry.now.trees 9) place n q) here (subst (HasPiece (entry.now.trees 9) place count) same last)
      ]
    ]

  pub gathers : Gathered entry now place size (bytes ++ piece) (count + 1)
  gathers = record {
    uncommitted = λ clean inside. keeps_then entry mid now (g.uncommitted (early clean) inside) (next.uncommitted clean (g.inside (early clean) inside));
    survives = survives_then entry mid now g.survives next.survives;
    inside = λ clean inside. (next.running clean (g.inside (early clean) inside)).0;
    running = λ clean running. next.running clean (g.running (early clean) running).0;
    mode = λ clean. next.mode clean ∙ g.mode (early clean);
    opened = λ clean inside.
        let was_in = g.inside (early clean) inside in
        inr ((g.uncommitted (early clean) inside).was_open ((next.uncommitted clean was_in).was_open (next.running clean was_in).1));
    same = λ v ours clean. next.same v (ours_still v ours clean) clean ∙ g.same v ours (early clean);
    within = let e = length-append bytes piece in omega (arith, e, fits, less);
    long = long;
    pieces = pieces;
  }
