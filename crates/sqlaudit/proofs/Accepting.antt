-- Tables whose lines obey every rule are those of an office.
use Rattle.std.proofs.Common.{◌≡◌, ◌∙◌, inl, inr, ℕ, zero, suc, ◌*◌, ◌<◌, ℤ, pos, negsuc, List, true, take, drop, length, Option, Some, None, option_map, option_and_then, arith, refl, sym, ap, subst}
use Rattle.std.specs.Prelude.{Contains, nat_lt}
use Rattle.std.specs.FinMap.{get}
use Rattle.std.proofs.lemmas.Bool.{cases_Bool, lt-ltb, ltb-true, ltb-false}
use Rattle.sqlite_value.specs.declared.value.Value.TheVariants.{Int, Text}
use Rattle.sqlite_value.specs.Order.{Row, column}
use Rattle.sqlite_rules.specs.Lists.{Has}
use Rattle.sqlite.specs.Effect.{Database}
use Rattle.boxes.specs.State.{Place, File, State as Office}
use Rattle.boxes.proofs.Lookups.{some_none}
use Rattle.sqltables.specs.Schema.{Version, IsVersion, v1}
use Rattle.sqltables.specs.Tables.{Box, Part, RowsMean, IsBoxRow, IsFileRow, IsPieceRow, TablesMean, tables_of, piece_of}
use Rattle.sqltables.specs.Means.{IsWhole}
use Rattle.sqltables.specs.Pieces.{HasPiece}
use Rattle.sqltables.proofs.PieceColumns.{piece_columns}
use Rattle.sqlaudit.specs.Lines.{AreLines, HaveRowids, IsFileLine, IsLater}
use Rattle.sqlaudit.specs.Walking.{AreLaterPieces}
use Rattle.sqlaudit.specs.declared.lines.OfficeLine.{OfficeLine}
use Rattle.sqlaudit.specs.declared.lines.FileLine.{FileLine}
use Rattle.sqlaudit.specs.declared.rules.Lines.{Lines}
use Rattle.sqlaudit.specs.Outlines.{Outline, AreEntries, AreSoundLines, IsFileEntry}
use Rattle.sqlaudit.specs.Opened.{AreListed, AreOffice, AreShortLines, HasBytes}
use Rattle.sqlaudit.proofs.ShortReceipts.{short_receipts}
use Rattle.sqlaudit.proofs.PieceKeys.{IsAt, one_piece_row}
use Rattle.sqlaudit.proofs.PieceFiles.{file_row}
use Rattle.sqlaudit.proofs.AcceptedTables.{office_means, keys_mean, boxes_mean, receipts_mean, files_mean, rules_mean, limits_mean, unlimited_then}
use Rattle.sqlaudit.proofs.AcceptedFiles.{IsStored, told_size, bytes_at, bytes_stored}
use Rattle.sqlaudit.proofs.AcceptedOffice.{office, file_found, box_same, number_same, office_sound}

-- ---- the pieces

-- the file whose piece was found
file_of_piece : (found : Option File) (at : ℕ) (piece : List ℕ) → option_and_then (λ f. piece_of f.bytes at) found ≡ Some piece → (f : File) × (found ≡ Some f) × (piece_of f.bytes at ≡ Some piece)
file_of_piece None at piece is = absurd (some_none piece (sym is))
file_of_piece (Some f) at piece is = (f, refl, is)

module _ (v : Version) (ours : IsVersion v) (db : Database) (schema : db.schema ≡ v.schema) (whole : IsWhole db) (ids : HaveRowids (db.trees 9))
    (o : Outline) (files : RowsMean IsFileRow (get o.files) (db.trees 6)) (within : AreLaterPieces o.receipts o.files db) (bytes : Place → List ℕ) (stored : (place : Place) (number : ℕ) → get o.files place ≡ Some number → IsStored (db.trees 9) o place number (bytes place)) where
  abbrev it : Office
  it = office o bytes

  file_there : (place : Place) (number : ℕ) → get o.files place ≡ Some number → get it.files place ≡ Some (record { bytes = bytes place; receipt = number })
  file_there place number there = file_found o bytes place ∙ ap (option_map (λ n. record { bytes = bytes place; receipt = n })) there

  file_was : (place : Place) (f : File) (found : Option ℕ) → get o.files place ≡ found → get it.files place ≡ Some f → (number : ℕ) × (get o.files place ≡ Some number) × (f.bytes ≡ bytes place)
  file_was place f None none there = absurd (some_none f (sym there ∙ file_found o bytes place ∙ ap (option_map (λ n. record { bytes = bytes place; receipt = n })) none))
  file_was place f (Some n) some there =
      let both : Some f ≡ Some (record { bytes = bytes place; receipt = n }) = sym there ∙ file_there place n some in
      let same : f ≡ record { bytes = bytes place; receipt = n } = cc in
      (n, some, ap (λ (x : File). x.bytes) same)

  -- the row is the row of a piece
  abbrev IsPiece : Row → Type 0
  IsPiece row = (part : Part) × (piece : List ℕ) × IsPieceRow row part piece × ((tables_of it).piece part ≡ Some piece)

  -- a row whose part begins within the bytes of a file
  row_within : (row : Row) → Has (db.trees 9) row → (place : Place) (number : ℕ) → get o.files place ≡ Some number → (at : ℕ) → IsAt row place.box place.name (pos at) → 65536 * at < length (bytes place) → IsPiece row
  row_within row there place number is_file at is_at begun =
      let hit : nat_lt (65536 * at) (length (bytes place)) ≡ true = lt-ltb (65536 * at) (length (bytes place)) begun in
      let piece : List ℕ = take 65536 (drop (65536 * at) (bytes place)) in
      let is : piece_of (bytes place) at ≡ Some piece = rw hit in
      let held = (stored place number is_file).pieces.pieces at piece is in
      let same : held.row ≡ row = one_piece_row v ours db schema whole ids held.row row place.box place.name (pos at) held.there there
      (record { box_is = held.is.box_is; name_is = held.is.name_is; part_is = held.is.part_is }) is_at in (
        record { place = place; at = at },
        piece,
        subst (λ (r : Row). IsPieceRow r (record { place = place; at = at }) piece) same held.is,
        ap (option_and_then (λ (f : File). piece_of f.bytes at)) (file_there place number is_file) ∙ is,
      )

  -- a row with part 0: the first piece of its file, which is not empty
  first_is_piece : (row : Row) → Has (db.trees 9) row → column row 3 ≡ Int (pos 0) → IsPiece row
  first_is_piece row there first =
      let c = piece_columns v ours db schema whole row there in
      let f = file_row v ours db schema whole row there c.box.0 c.name.0 c.box.1 c.name.1 in
      let m = files.each f.0 f.1 in
      let place : Place = m.0 in
      let same = f.2 place.box place.name m.2.box_is m.2.name_is in
      let box : column row 1 ≡ Text place.box = c.box.1 ∙ ap Text (sym same.0) in
      let name : column row 2 ≡ Text place.name = c.name.1 ∙ ap Text (sym same.1) in
      let has : HasPiece (db.trees 9) place 0 c.bytes.0 = record { row = row; there = there; is = record { box_is = box; name_is = name; part_is = first; bytes_is = c.bytes.1 } } in
      elim (cases_Bool (nat_lt 0 (length (bytes place)))) [
        | inl some ↦ row_within row there place m.1 m.3 0 (record { box_is = box; name_is = name; part_is = first }) (ltb-true 0 (length (bytes place)) some)
        | inr none ↦ absurd ((stored place m.1 m.3).bare (let e = ltb-false 0 (length (bytes place)) none in omega (arith, e)) c.bytes.0 has)
      ]

  later_is_piece : (row : Row) → Has (db.trees 9) row → IsLater row → IsPiece row
  later_is_piece row there later =
      let line = within row there later in
      let p = line.2 in
      let place : Place = record { box = line.0.in_box.items; name = line.0.name.items } in
      let s = stored place p.number p.there in
      row_within row there place p.number p.there p.part (record { box_is = line.1.box_is; name_is = line.1.name_is; part_is = line.1.part_is ∙ ap Int p.part_is })
      (subst (λ n. 65536 * p.part < n) (told_size (db.trees 9) o place p.number (bytes place) s) p.begun)

  row_is_piece : (row : Row) → Has (db.trees 9) row → IsPiece row
  row_is_piece row there = go part.0 part.1
    where
      part : (n : ℤ) × (column row 3 ≡ Int n)
      part = (piece_columns v ours db schema whole row there).part

      go : (n : ℤ) → column row 3 ≡ Int n → IsPiece row
      go (pos zero) is = first_is_piece row there is
      go (pos (suc n)) is = later_is_piece row there (pos (suc n), is, λ e. cc)
      go (negsuc n) is = later_is_piece row there (negsuc n, is, λ e. cc)

  pieces_mean : RowsMean IsPieceRow (tables_of it).piece (db.trees 9)
  pieces_mean = record {
    each = row_is_piece;
    all = λ part piece is.
        let f = file_of_piece (get it.files part.place) part.at piece is in
        let n = file_was part.place f.0 (get o.files part.place) refl f.1 in
        let held = (stored part.place n.0 n.1).pieces.pieces part.at piece (sym (ap (λ b. piece_of b part.at) n.2) ∙ f.2) in
        (held.row, held.there, held.is);
    keyed = ids.keyed;
    apart = ids.apart;
  }

-- ---- the whole

means_office : (v : Version) → IsVersion v → (db : Database) (lines : Lines) → db.schema ≡ v.schema → IsWhole db → AreListed v db lines → ((line : OfficeLine) → Contains lines.office.now line → line.version ≡ v.number) → (a : AreSoundLines lines)
    → RowsMean IsFileRow (get a.office.files) (db.trees 6) → AreLaterPieces a.office.receipts a.office.files db → HaveRowids (db.trees 9)
    → (bytes : Place → List ℕ) → ((place : Place) (number : ℕ) → get a.office.files place ≡ Some number → IsStored (db.trees 9) a.office place number (bytes place))
    → TablesMean v db.trees (tables_of (office a.office bytes))
means_office v ours db lines schema whole listed first a files pieces ids bytes stored = record {
  office = office_means v db lines listed a.office a.lines_are first;
  keys = keys_mean v db lines listed a.office a.lines_are;
  boxes = subst (λ (look : List ℕ → Option Box). RowsMean IsBoxRow look (db.trees 3)) (λ i name. box_same a.office bytes (db.trees 9) a.sound stored name i) (boxes_mean v db lines listed a.office a.lines_are);
  receipts = receipts_mean v db lines listed a.office a.lines_are;
  files = subst (λ (look : Place → Option ℕ). RowsMean IsFileRow look (db.trees 6)) (λ i place. number_same a.office bytes (db.trees 9) a.sound stored place i) files;
  pieces = pieces_mean v ours db schema whole ids a.office files pieces bytes stored;
  unlimited = unlimited_then v db lines listed a.office a.lines_are;
  rules = rules_mean v db lines listed a.office a.lines_are;
  limits = limits_mean v db lines listed a.office a.lines_are;
}

pub accepted : (v : Version) → IsVersion v → (db : Database) (lines : Lines) → db.schema ≡ v.schema → IsWhole db → AreListed v db lines
    → ((line : OfficeLine) → Contains lines.office.now line → line.version ≡ v.number)
    → (a : AreSoundLines lines)
    → (files : List FileLine) → AreLines IsFileLine (db.trees 6) files → HaveRowids (db.trees 6) → AreEntries IsFileEntry (get a.office.files) files
    → ((file : FileLine) → Contains files file → HasBytes (db.trees 9) lines.receipts.now file)
    → AreLaterPieces a.office.receipts a.office.files db → HaveRowids (db.trees 9)
    → (v ≡ v1 → AreShortLines lines.receipts.now)
    → (office : Office) × AreOffice v db office
accepted v ours db lines schema whole listed first a files files_listed files_ids files_of has pieces ids short =
    let o : Outline = a.office in
    let bytes : Place → List ℕ = bytes_at (db.trees 9) lines o a.lines_are a.sound files files_of has in
    let stored : (place : Place) (number : ℕ) → get o.files place ≡ Some number → IsStored (db.trees 9) o place number (bytes place) = bytes_stored (db.trees 9) lines o a.lines_are a.sound files files_of has in (
      office o bytes,
      record {
        holds = record { schema = schema; sound = whole; means = means_office v ours db lines schema whole listed first a (files_mean v db lines listed o a.lines_are files files_listed files_ids files_of) pieces ids bytes stored };
        sound = office_sound o bytes (db.trees 9) a.sound stored;
        short = λ one. short_receipts o.receipts lines.receipts.now a.lines_are.receipts (short one);
      },
    )
