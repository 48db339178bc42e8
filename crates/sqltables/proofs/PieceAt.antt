-- What the query for a piece shows, whatever the database means.
use Rattle.std.proofs.Common.{◌≡◌, ◌&&◌, ℕ, ℤ, pos, List, [], ◌∷◌, true, Option, None, Some, option_map, slice_get, int_cmp, refl, sym, ap, subst, ◌∙◌}
use denote.Bor.{Bor}
use Rattle.std.specs.List.{list_all}
use Rattle.std.specs.Ordering.{is_eq}
use Rattle.std.specs.Cmp.{tied_itself, int_cmp_total}
use Rattle.std.specs.FinMap.{int_cmp-IsAntisymmetric}
use Rattle.std.proofs.lemmas.Bool.{and_parts}
use Rattle.sigtext.specs.Bytes.{same_bytes}
use Rattle.sqlite_value.specs.declared.value.Value.TheVariants.{Null, Int, Text, Blob}
use Rattle.sqlite_value.specs.Order.{Row, column}
use Rattle.sqlite_sql.specs.Term.{Term, col, holds, eval_all}
use Rattle.sqlite_sql.specs.Program.{overlay}
use Rattle.sqlite_rules.specs.Lists.{Has}
use Rattle.sqlite.specs.State.{State, Shown}
use Rattle.sqlite.proofs.Callers.{reads_as}
use Rattle.sqltables.specs.Schema.{Version, IsVersion}
use Rattle.sqltables.specs.Tables.{IsPieceRow}
use Rattle.sqltables.specs.Means.{IsWhole}
use Rattle.sqltables.specs.Pieces.{HasPiece}
use Rattle.sqltables.proofs.Forms.{is}
use Rattle.sqltables.proofs.Ours.{asks_of}
use Rattle.sqltables.proofs.Texts.{select_piece, select_piece_command, select_piece_is}
use Rattle.sqltables.proofs.Queries.{answered}
use Rattle.sqltables.proofs.Rows.{equal_texts, equal_integers}
use Rattle.sqltables.proofs.Keys.{tells_bytes, by_order, is_equal}
use Rattle.sqltables.proofs.PieceColumns.{PieceColumns, piece_columns}

-- a list without a first item is empty
pub nothing_first : {X : Type 0} (first : Option (Bor X)) (xs : List X) → option_map (λ x. x.now) first ≡ slice_get xs 0 → ((x : Bor X) → first ≡ Some x → ⊥) → xs ≡ []
nothing_first None [] e none = refl
nothing_first None (x ∷ xs) e none = cc
nothing_first (Some x) xs e none = absurd (none x refl)

same_integer : (a b : ℤ) → is_eq (int_cmp a b) ≡ true → a ≡ b
same_integer a b h = int_cmp-IsAntisymmetric a b (is_equal (int_cmp a b) h)

abbrev filter : List Term
filter = is 1 0 ∷ is 2 1 ∷ is 3 2 ∷ []

abbrev pub given : List ℕ → List ℕ → ℕ → Row
given box name at = Text box ∷ Text name ∷ Int (pos at) ∷ []

-- WHERE passes only the row of this piece
passes_part : (box name : List ℕ) (at : ℕ) (row : Row) (c : PieceColumns row)
    → list_all (holds (given box name at ∷ row ∷ [])) filter ≡ (same_bytes c.box.0 box && (same_bytes c.name.0 name && (is_eq (int_cmp c.part.0 (pos at)) && true)))
passes_part box name at row c = rw (c.box.1, c.name.1, c.part.1, equal_texts c.box.0 box, equal_texts c.name.0 name, equal_integers c.part.0 (pos at), ← by_order c.box.0 box, ← by_order c.name.0 name)

piece_row : (box name : List ℕ) (at : ℕ) (row : Row) (c : PieceColumns row) → list_all (holds (given box name at ∷ row ∷ [])) filter ≡ true
    → IsPieceRow row (record { place = record { box = box; name = name }; at = at }) c.bytes.0
piece_row box name at row c passes =
    let a = and_parts (same_bytes c.box.0 box) (same_bytes c.name.0 name && (is_eq (int_cmp c.part.0 (pos at)) && true)) (sym (passes_part box name at row c) ∙ passes) in
    let b = and_parts (same_bytes c.name.0 name) (is_eq (int_cmp c.part.0 (pos at)) && true) a.1 in
    let d = and_parts (is_eq (int_cmp c.part.0 (pos at))) true b.1 in
    record {
      box_is = c.box.1 ∙ ap Text (tells_bytes.only c.box.0 box a.0);
      name_is = c.name.1 ∙ ap Text (tells_bytes.only c.name.0 name b.0);
      part_is = c.part.1 ∙ ap Int (same_integer c.part.0 (pos at) d.0);
      bytes_is = c.bytes.1;
    }

row_passes : (box name : List ℕ) (at : ℕ) (row : Row) (bytes : List ℕ) → IsPieceRow row (record { place = record { box = box; name = name }; at = at }) bytes
    → list_all (holds (given box name at ∷ row ∷ [])) filter ≡ true
row_passes box name at row bytes is =
    passes_part box name at row (record { box = (box, is.box_is); name = (name, is.name_is); part = (pos at, is.part_is); bytes = (bytes, is.bytes_is) })
    ∙ rw (tells_bytes.itself box, tells_bytes.itself name, tied_itself int_cmp_total (pos at)) refl

module _ (v : Version) (ours : IsVersion v) (old new : State) (has : old.now.schema ≡ v.schema) (whole : IsWhole old.now) (box name : List ℕ) (at : ℕ) (rows : List Row)
    (shown : Shown select_piece (given box name at) old new rows) where
  pub piece_shown : (row : Row) (bytes : List ℕ) → Has rows row → column row 0 ≡ Blob bytes → HasPiece (old.now.trees 9) (record { box = box; name = name }) at bytes
  piece_shown row bytes first is =
      let asks = asks_of v ours select_piece select_piece_command select_piece_is in
      let read = reads_as select_piece (given box name at) old new v.schema has select_piece_command asks.says.is asks.says.plain asks.unlisted rows shown in
      let found = answered 9 filter (col 1 4 ∷ []) (overlay old.now.trees []) (given box name at) rows (read.answer Null) in
      let r = found.sound row first in
      let c = piece_columns v ours old.now has whole r.0 r.1 in
      let both : Blob c.bytes.0 ≡ Blob bytes = sym c.bytes.1 ∙ sym (ap (λ (x : Row). column x 0) r.3) ∙ is in
      let same : c.bytes.0 ≡ bytes = cc in
      record { row = r.0; there = r.1; is = subst (IsPieceRow r.0 (record { place = record { box = box; name = name }; at = at })) same (piece_row box name at r.0 c r.2) }

  pub no_piece_shown : rows ≡ [] → (bytes : List ℕ) → HasPiece (old.now.trees 9) (record { box = box; name = name }) at bytes → ⊥
  no_piece_shown none bytes has_piece =
      let asks = asks_of v ours select_piece select_piece_command select_piece_is in
      let read = reads_as select_piece (given box name at) old new v.schema has select_piece_command asks.says.is asks.says.plain asks.unlisted rows shown in
      let found = answered 9 filter (col 1 4 ∷ []) (overlay old.now.trees []) (given box name at) rows (read.answer Null) in
      subst (λ l. Has l (eval_all (col 1 4 ∷ []) (given box name at ∷ has_piece.row ∷ []))) none (found.complete has_piece.row has_piece.there (row_passes box name at has_piece.row bytes has_piece.is))
