-- A file's pieces, compared one by one.
use Rattle.std.proofs.Common.{◌≡◌, inl, inr, ℕ, ◌+◌, ◌*◌, ◌<◌, ◌≤◌, List, length, Some, IsTrue, arith, sym, ap, subst, ◌∙◌}
use Rattle.std.specs.Prelude.{nat_lt}
use Rattle.std.proofs.lemmas.Bool.{cases_Bool, ltb-true, ltb-false}
use Rattle.sqlite_value.specs.Order.{Row}
use Rattle.sqlite.specs.State.{State, HasCleanDisk, KeepsCommit, Survives}
use Rattle.boxes.specs.State.{Place}
use Rattle.sqltables.specs.Schema.{Version, IsVersion}
use Rattle.sqltables.specs.Tables.{Tables, RowsMean, IsPieceRow, piece_of}
use Rattle.sqltables.specs.Means.{Pends, IsRunning}
use Rattle.sqltables.specs.OneState.{same_pieces, one_piece}
use Rattle.sqltables.specs.Pieces.{HasPiece}
use Rattle.sqlquestions.proofs.ManyQuestions.{Unmoved}
use Rattle.sqltables.proofs.Building.{survives_then, survives_itself, keeps_then}
use Rattle.sqltables.proofs.Gathering.{no_piece}
use Rattle.sqltables.proofs.Runs.{itself_keeps}

-- ---- one piece, by its rows

module _ (tables : Tables) (rows : List Row) (means : RowsMean IsPieceRow tables.piece rows) (place : Place) (at : ℕ) where
  pub piece_there : (piece : List ℕ) → HasPiece rows place at piece → tables.piece (record { place = place; at = at }) ≡ Some piece
  piece_there piece has =
      let entry = means.each has.row has.there in
      let same = one_piece has.row entry.0 (record { place = place; at = at }) entry.1 piece entry.2 has.is tt tt in
      sym (ap tables.piece same.0) ∙ entry.3 ∙ ap Some same.1

  pub no_piece_there : ((piece : List ℕ) → HasPiece rows place at piece → ⊥) → (piece : List ℕ) → tables.piece (record { place = place; at = at }) ≡ Some piece → ⊥
  no_piece_there none piece is = let r = means.all (record { place = place; at = at }) piece is in none piece (record { row = r.0; there = r.1; is = r.2 })

-- ---- the first `count` pieces are those of these bytes

pub record Compared (entry now : State) (place : Place) (bytes : List ℕ) (count : ℕ) : Type 0 where
  pub uncommitted : HasCleanDisk now → IsTrue entry.in_transaction → KeepsCommit entry now
  pub survives : Survives entry now (λ db. ⊥)
  pub inside : HasCleanDisk now → IsTrue entry.in_transaction → IsTrue now.in_transaction
  pub running : HasCleanDisk now → IsRunning entry → IsRunning now
  pub still : (v : Version) (tables : Tables) → IsVersion v → Pends v entry tables → Pends v now tables
  pub same : (v : Version) (tables : Tables) → IsVersion v → Pends v entry tables → IsTrue entry.in_transaction → HasCleanDisk now → (at : ℕ) → at < count
      → tables.piece (record { place = place; at = at }) ≡ piece_of bytes at

pub unmoved : {entry now : State} {place : Place} {bytes : List ℕ} {count : ℕ} → Compared entry now place bytes count → Unmoved entry now
unmoved c = record { uncommitted = c.uncommitted; survives = c.survives; inside = c.inside; running = c.running; still = c.still }

pub none_compared : (s : State) (place : Place) (bytes : List ℕ) → Compared s s place bytes 0
none_compared s place bytes = record {
  uncommitted = λ clean inside. itself_keeps s;
  survives = survives_itself s;
  inside = λ clean inside. inside;
  running = λ clean running. running;
  still = λ v tables ours pends. pends;
  same = λ v tables ours pends inside clean at low. absurd (omega (arith, low));
}

-- the next piece has these bytes
pub record IsNext (mid now : State) (place : Place) (at : ℕ) (piece : List ℕ) : Type 0 where
  pub is : (v : Version) (tables : Tables) → IsVersion v → Pends v mid tables → IsTrue mid.in_transaction → HasCleanDisk now → tables.piece (record { place = place; at = at }) ≡ Some piece
  pub still : (v : Version) (tables : Tables) → IsVersion v → Pends v mid tables → Pends v now tables
  pub running : HasCleanDisk now → IsTrue mid.in_transaction → IsRunning now
  pub uncommitted : HasCleanDisk now → IsTrue mid.in_transaction → KeepsCommit mid now
  pub survives : Survives mid now (λ db. ⊥)

module _ (entry mid now : State) (place : Place) (bytes piece : List ℕ) (count : ℕ) (so_far : Compared entry mid place bytes count) (next : IsNext mid now place count piece) (cut : piece_of bytes count ≡ Some piece) where
  early : HasCleanDisk now → HasCleanDisk mid
  early clean = omega (arith, clean, next.survives.clean)

  pub one_more : Compared entry now place bytes (count + 1)
  one_more = record {
    uncommitted = λ clean inside. keeps_then entry mid now (so_far.uncommitted (early clean) inside) (next.uncommitted clean (so_far.inside (early clean) inside));
    survives = survives_then entry mid now so_far.survives next.survives;
    inside = λ clean inside. (next.running clean (so_far.inside (early clean) inside)).0;
    running = λ clean running. next.running clean (so_far.running (early clean) running).0;
    still = λ v tables ours pends. next.still v tables ours (so_far.still v tables ours pends);
    same = λ v tables ours pends inside clean at low. elim (cases_Bool (nat_lt at count)) [
      | inl before ↦ so_far.same v tables ours pends inside (early clean) at (ltb-true at count before)
      | inr last ↦
          let here : count ≡ at = let e = ltb-false at count last in omega (arith, e, low) in
          let is = next.is v tables ours (so_far.still v tables ours pends) (so_far.inside (early clean) inside) clean ∙ sym cut in
          subst (λ n. tables.piece (record { place = place; at = n }) ≡ piece_of bytes n) here is
    ];
  }

-- ---- all of them

module _ (tables : Tables) (place : Place) (there bytes : List ℕ) (count : ℕ) (size : length there ≡ length bytes)
    (pieces : (at : ℕ) → tables.piece (record { place = place; at = at }) ≡ piece_of there at) where
  pub all_same : length bytes ≤ 65536 * count → ((at : ℕ) → at < count → tables.piece (record { place = place; at = at }) ≡ piece_of bytes at) → there ≡ bytes
  all_same all same = same_pieces there bytes (λ at. elim (cases_Bool (nat_lt at count)) [
    | inl before ↦ sym (pieces at) ∙ same at (ltb-true at count before)
    | inr past ↦ let e = ltb-false at count past in no_piece there at (omega (arith, e, all, size)) ∙ sym (no_piece bytes at (omega (arith, e, all)))
  ])

  -- a different piece is stored
  pub not_same : (piece : List ℕ) → piece_of bytes count ≡ Some piece → (tables.piece (record { place = place; at = count }) ≡ Some piece → ⊥) → there ≡ bytes → ⊥
  not_same piece cut other is = other (pieces count ∙ ap (λ l. piece_of l count) is ∙ cut)
