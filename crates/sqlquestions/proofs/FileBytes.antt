-- The bytes of a file, given by the rows of its pieces.
use Rattle.std.proofs.Common.{◌≡◌, inl, inr, ℕ, [], ◌∷◌, ◌*◌, List, length, Option, None, Some, arith, refl, sym, ap, ◌∙◌, take, drop}
use Rattle.std.specs.Prelude.{nat_lt}
use Rattle.std.proofs.lemmas.Bool.{cases_Bool, ltb-false}
use Rattle.sqlite_value.specs.Order.{Row}
use Rattle.boxes.specs.State.{Place}
use Rattle.boxes.proofs.Lookups.{some_none}
use Rattle.sqltables.specs.Tables.{Tables, RowsMean, IsPieceRow, piece_of}
use Rattle.sqltables.specs.Pieces.{AreBytesOf}
use Rattle.sqltables.specs.OneState.{same_pieces, one_piece}
use Rattle.sqltables.proofs.Gathering.{no_piece}

module _ (tables : Tables) (rows : List Row) (place : Place) (bytes found : List ℕ) (means : RowsMean IsPieceRow tables.piece rows)
    (has : (at : ℕ) → tables.piece (record { place = place; at = at }) ≡ piece_of bytes at) (are : AreBytesOf rows place (length bytes) found) where
  some_piece : (at : ℕ) (piece : List ℕ) → piece_of found at ≡ Some piece → piece_of found at ≡ piece_of bytes at
  some_piece at piece is =
      let here = are.pieces at piece is in
      let entry = means.each here.row here.there in
      let same = one_piece here.row entry.0 (record { place = place; at = at }) entry.1 piece entry.2 here.is tt tt in
      is ∙ ap Some (sym same.1) ∙ sym entry.3 ∙ ap tables.piece same.0 ∙ has at

  no_more : (at : ℕ) → piece_of found at ≡ None → piece_of found at ≡ piece_of bytes at
  no_more at is = elim (cases_Bool (nat_lt (65536 * at) (length found))) [
    | inl within ↦ absurd (some_none (take 65536 (drop (65536 * at) found)) (rw within at is))
    | inr beyond ↦ is ∙ sym (no_piece bytes at (let e = ltb-false (65536 * at) (length found) beyond in let size = are.size_is in omega (arith, e, size)))
  ]

  same_piece : (at : ℕ) → piece_of found at ≡ piece_of bytes at
  same_piece at = go (piece_of found at) refl
    where
      go : (o : Option (List ℕ)) → piece_of found at ≡ o → piece_of found at ≡ piece_of bytes at
      go (Some piece) is = some_piece at piece is
      go None is = no_more at is

  pub are_bytes : found ≡ bytes
  are_bytes = same_pieces found bytes same_piece

-- if there are no bytes to read
pub no_bytes : (bytes found : List ℕ) (size : ℕ) → length bytes ≡ size → length found ≡ size → size ≡ 0 → found ≡ bytes
no_bytes [] [] size one two none = refl
no_bytes [] (x ∷ xs) size one two none = absurd (omega (arith, two, none))
no_bytes (x ∷ xs) found size one two none = absurd (omega (arith, one, none))
