-- What holds for the lines and the bytes of an office file. If it does not hold, the tables are not an office's.
use Rattle.std.proofs.Common.{◌≡◌, inl, inr, ℕ, ◌+◌, ◌-◌, ◌*◌, ◌<◌, ℤ, pos, List, take, drop, length, min, Option, None, Some, option_map, option_and_then, slice_get, refl, sym, ap, subst, ◌∙◌, arith, length-take, length-drop}
use Rattle.std.specs.Prelude.{nat_lt}
use Rattle.std.specs.FinMap.{get}
use Rattle.std.proofs.lemmas.Bool.{cases_Bool, ltb-true, ltb-false}
use Rattle.sqlite_value.specs.Order.{Row}
use Rattle.sqlite.specs.Effect.{Database}
use Rattle.sigv4.specs.Hmac.{sha256}
use Rattle.boxes.specs.State.{Place, File, Receipt, State as Office}
use Rattle.boxes.proofs.Lookups.{some_none}
use Rattle.sqltables.specs.Schema.{Version, IsVersion, v1}
use Rattle.sqltables.specs.Tables.{Box, Part, RowsMean, IsOfficeRow, IsKeyRow, IsBoxRow, IsReceiptRow, IsFileRow, IsPieceRow, IsRulesRow, IsLimitRow, TablesMean, tables_of, piece_of}
use Rattle.sqlaudit.specs.Lines.{AreLines, IsOfficeLine, IsKeyLine, IsBoxLine, IsReceiptLine, IsFileLine, IsPieceLine, IsRulesLine, IsLimitLine}
use Rattle.sqltables.specs.Pieces.{AreBytesOf, HasPiece}
use Rattle.sqlaudit.specs.Outlines.{AreEntries, IsOfficeEntry, IsKeyEntry, IsBoxEntry, IsReceiptEntry, IsFileEntry, IsRulesEntry, IsLimitEntry, IsPieceIn, AreLinesOf, AreSoundLines}
use Rattle.sqlaudit.specs.Opened.{AreOffice, AreListed, AreShortLines, IsGivenFor, LacksBytes, place_in}
use Rattle.sqlaudit.proofs.ShortReceipts.{short_lines}
use Rattle.sqltables.specs.OneState.{same_pieces}
use Rattle.sqlaudit.specs.declared.lines.ReceiptLine.{ReceiptLine}
use Rattle.sqlaudit.specs.declared.lines.FileLine.{FileLine}
use Rattle.sqlaudit.specs.declared.lines.PieceLine.{PieceLine}
use Rattle.sqlaudit.specs.declared.rules.Lines.{Lines}
use Rattle.sqlite_rules.specs.Lists.{Has}
use Rattle.sqlite_rules.proofs.ListLemmas.{has_contained, contains_had}
use Rattle.sqltables.proofs.Gathering.{no_piece}
use Rattle.sqltables.proofs.StandingFiles.{standing, kept, listed_at}
use Rattle.sqlaudit.proofs.LimitEntries.{none_said, none_limited}
use Rattle.sqlaudit.proofs.OutlineOf.{outline_of, box_look, file_look, size_known, sound_outline}

-- ---- rows, lines and entries

module _ {L K V : Type 0} (IsLine : Row → L → Type 0) (IsRow : Row → K → V → Type 0) (IsEntry : L → K → V → Type 0) where
  -- A line is the same entry as its row.
  abbrev Agree : Type 0
  Agree = (row : Row) (line : L) (k : K) (v : V) → IsLine row line → IsRow row k v → IsEntry line k v

  entries_of : Agree → (look : K → Option V) (rows : List Row) (lines : List L) → AreLines IsLine rows lines → RowsMean IsRow look rows → AreEntries IsEntry look lines
  entries_of agree look rows lines listed means = record {
    each = λ line there.
        let r = listed.all line (has_contained lines line there) in
        let e = means.each r.0 r.1 in
        (e.0, e.1, agree r.0 line e.0 e.1 r.2 e.2, e.3);
    all = λ k v is.
        let r = means.all k v is in
        let l = listed.each r.0 r.1 in
        (l.0, contains_had lines l.0 l.1, agree r.0 l.0 k v l.2 r.2);
  }

office_agrees : (version : ℤ) → Agree IsOfficeLine (IsOfficeRow version) IsOfficeEntry
office_agrees version row line one offset l r = record { id_is = cc; east_is = cc }

key_agrees : Agree IsKeyLine IsKeyRow IsKeyEntry
key_agrees row line id key l r = record { id_is = cc; role_is = cc; secret_is = cc; revoked_is = cc }

box_agrees : Agree IsBoxLine IsBoxRow IsBoxEntry
box_agrees row line name box l r = record {
  name_is = cc;
  opens_is = cc;
  closes_is = cc;
  days_is = cc;
  from_is = cc;
  to_is = cc;
  quota_is = cc;
  max_is = cc;
  mode_is = cc;
  kind_is = cc;
  text_is = cc;
  used_is = cc;
  count_is = cc;
}

receipt_agrees : Agree IsReceiptLine IsReceiptRow IsReceiptEntry
receipt_agrees row line at receipt l r = record { number_is = cc; box_is = cc; name_is = cc; length_is = cc; digest_is = cc; moment_is = cc; key_is = cc }

file_agrees : Agree IsFileLine IsFileRow IsFileEntry
file_agrees row line place number l r = record { box_is = cc; name_is = cc; receipt_is = cc }

rules_agree : Agree IsRulesLine IsRulesRow IsRulesEntry
rules_agree row line one allowance l r = record { id_is = cc; allowance_is = cc }

limit_agrees : Agree IsLimitLine IsLimitRow IsLimitEntry
limit_agrees row line limit there l r = record { key_is = cc; box_is = cc }

-- ---- pieces

-- what is known about bytes that have this piece
pub cut_from : (bytes : List ℕ) (at : ℕ) (piece : List ℕ) → piece_of bytes at ≡ Some piece → (65536 * at < length bytes) × (length piece ≡ min 65536 (length bytes - 65536 * at))
cut_from bytes at piece is = elim (cases_Bool (nat_lt (65536 * at) (length bytes))) [
  | inl within ↦
      let e = rw within at is in
      let cut : take 65536 (drop (65536 * at) bytes) ≡ piece = cc in
      (ltb-true (65536 * at) (length bytes) within, ap length (sym cut) ∙ length-take 65536 (drop (65536 * at) bytes) ∙ ap (min 65536) (length-drop (65536 * at) bytes))
  | inr beyond ↦ absurd (some_none piece (sym (rw beyond at is)))
]

-- the file that has this piece
record HasPart (s : Office) (part : Part) (piece : List ℕ) : Type 0 where
  file : File
  there : get s.files part.place ≡ Some file
  is : piece_of file.bytes part.at ≡ Some piece

part_there : (s : Office) (part : Part) (piece : List ℕ) → (tables_of s).piece part ≡ Some piece → HasPart s part piece
part_there s part piece is = go (get s.files part.place) refl
  where
    go : (o : Option File) → get s.files part.place ≡ o → HasPart s part piece
    go None none = let e = rw none at is in absurd cc
    go (Some f) some = let e = rw some at is in record { file = f; there = some; is = e }

one_part : (row : Row) (k q : Part) (v w : List ℕ) → IsPieceRow row k v → IsPieceRow row q w → (k ≡ q) × (v ≡ w)
one_part row k q v w a b =
    let box : k.place.box ≡ q.place.box = cc in
    let name : k.place.name ≡ q.place.name = cc in
    let at : k.at ≡ q.at = cc in
    (λ i. record { place = record { box = box i; name = name i }; at = at i }, cc)

module _ (v : Version) (ours : IsVersion v) (db : Database) (lines : Lines) (office : Office) (listed : AreListed v db lines) (are : AreOffice v db office) where
  abbrev means : TablesMean v db.trees (tables_of office)
  means = are.holds.means

  -- ---- the lines are those of the office without bytes

  -- the lines of all files
  pub file_lines : (files : List FileLine) → AreLines IsFileLine (db.trees 6) files → AreEntries IsFileEntry (get (outline_of office).files) files
  file_lines files files_listed = subst (λ (look : Place → Option ℕ). AreEntries IsFileEntry look files) (λ i place. sym (file_look office place) i)
      (entries_of IsFileLine IsFileRow IsFileEntry file_agrees (tables_of office).file (db.trees 6) files files_listed means.files)

  -- the line of one file
  pub file_line : (file : FileLine) (row : Row) → Has (db.trees 6) row → IsFileLine row file → (place : Place) × (number : ℕ) × IsFileEntry file place number × (get (outline_of office).files place ≡ Some number)
  file_line file row there is =
      let e = means.files.each row there in
      (e.0, e.1, file_agrees row file e.0 e.1 is e.2, file_look office e.0 ∙ e.3)

  rules_lines : IsVersion v → AreEntries IsRulesEntry (λ one. Some office.allowance) lines.rules.now
  unfolding IsVersion
  rules_lines (inl first) = none_said lines.rules.now lines.limits.now (listed.added.unlimited first) office.allowance (means.unlimited first).0
  rules_lines (inr second) = entries_of IsRulesLine IsRulesRow IsRulesEntry rules_agree (λ one. Some office.allowance) (db.trees 11) lines.rules.now (listed.added.rules second).0 (means.rules second)

  limit_lines : IsVersion v → AreEntries IsLimitEntry (get office.limits) lines.limits.now
  unfolding IsVersion
  limit_lines (inl first) = none_limited lines.rules.now lines.limits.now (listed.added.unlimited first) (get office.limits) (means.unlimited first).1
  limit_lines (inr second) = entries_of IsLimitLine IsLimitRow IsLimitEntry limit_agrees (get office.limits) (db.trees 12) lines.limits.now (listed.added.limits second).0 (means.limits second)

  pub lines_of : AreLinesOf lines (outline_of office)
  lines_of = record {
    office = entries_of IsOfficeLine (IsOfficeRow v.number) IsOfficeEntry (office_agrees v.number) (λ one. Some office.offset) (db.trees 0) lines.office.now listed.office means.office;
    keys = entries_of IsKeyLine IsKeyRow IsKeyEntry key_agrees (get office.keys) (db.trees 1) lines.keys.now listed.keys means.keys;
    boxes = subst (λ (look : List ℕ → Option Box). AreEntries IsBoxEntry look lines.boxes.now) (λ i name. sym (box_look office name) i)
        (entries_of IsBoxLine IsBoxRow IsBoxEntry box_agrees (tables_of office).box (db.trees 3) lines.boxes.now listed.boxes means.boxes);
    receipts = entries_of IsReceiptLine IsReceiptRow IsReceiptEntry receipt_agrees (slice_get office.receipts) (db.trees 5) lines.receipts.now listed.receipts means.receipts;
    rules = rules_lines ours;
    limits = limit_lines ours;
  }

  pub piece_of_office : (line : PieceLine) (row : Row) → Has (db.trees 9) row → IsPieceLine row line → IsPieceIn (slice_get office.receipts) (outline_of office).files line
  piece_of_office line row there l =
      let e = means.pieces.each row there in
      let m = e.2 in
      let it = part_there office e.0 e.1 e.3 in
      let cut = cut_from it.file.bytes e.0.at e.1 it.is in
      let size = size_known office are.sound e.0.place it.file it.there in
      let box : e.0.place.box ≡ line.in_box.items = cc in
      let name : e.0.place.name ≡ line.name.items = cc in
      let place : e.0.place ≡ record { box = line.in_box.items; name = line.name.items } = λ i. record { box = box i; name = name i } in
      let part : line.part ≡ pos e.0.at = cc in
      let bytes : l.bytes ≡ e.1 = cc in
      record {
        number = it.file.receipt;
        there = ap (get (outline_of office).files) (sym place) ∙ file_look office e.0.place ∙ ap (λ (o : Option File). option_map (λ f. f.receipt) o) it.there;
        part = e.0.at;
        part_is = part;
        begun = subst (λ n. 65536 * e.0.at < n) (sym size) cut.0;
        length_is = sym l.length_is ∙ ap (λ (b : List ℕ). pos (length b)) bytes ∙ ap (λ n. pos n) (cut.1 ∙ ap (λ n. min 65536 (n - 65536 * e.0.at)) (sym size));
      }

  abbrev pub sound_lines : AreSoundLines lines
  sound_lines = record { office = outline_of office; lines_are = lines_of; sound = sound_outline office are.sound }

  pub short_first : v ≡ v1 → AreShortLines lines.receipts.now
  short_first first = short_lines office.receipts lines.receipts.now lines_of.receipts (are.short first)

  -- ---- the bytes of a file

  -- the file of a line, with its receipt's line
  record FileOf (file : FileLine) (given : ReceiptLine) : Type 0 where
    held : File
    there : get office.files (place_in file) ≡ Some held
    size : given.length ≡ pos (length held.bytes)
    digest : given.digest.items ≡ sha256 held.bytes

  file_of : (file : FileLine) (row : Row) → Has (db.trees 6) row → IsFileLine row file → (given : ReceiptLine) → IsGivenFor lines.receipts.now file given → FileOf file given
  file_of file row stands told given is =
      let r6 = means.files.each row stands in
      let e : (place : Place) × (number : ℕ) × IsFileEntry file place number × ((tables_of office).file place ≡ Some number) = (r6.0, r6.1, file_agrees row file r6.0 r6.1 told r6.2, r6.3) in
      let it = standing office e.0 e.1 e.3 in
      let k = kept office are.sound e.0 e.1 it in
      let r = lines_of.receipts.each given is.there in
      let f = e.2 in
      let g = r.2 in
      let numbers : pos (r.0 + 1) ≡ pos e.1 = sym g.number_is ∙ is.number ∙ f.receipt_is in
      let number : r.0 + 1 ≡ e.1 = cc in
      let at : r.0 ≡ k.listed.place = omega (arith, number, listed_at office are.sound e.0 e.1 it) in
      let both : Some r.1 ≡ Some k.receipt = sym r.3 ∙ ap (slice_get office.receipts) at ∙ k.listed.listed in
      let same : r.1 ≡ k.receipt = cc in
      let place : place_in file ≡ e.0 = λ i. record { box = f.box_is i; name = f.name_is i } in
      record {
        held = it.file;
        there = ap (get office.files) place ∙ it.there;
        size = g.length_is ∙ ap (λ n. pos n) (ap (λ (x : Receipt). x.size) same ∙ k.size);
        digest = g.digest_is ∙ ap (λ (x : Receipt). x.digest) same ∙ k.digest;
      }

  module _ (place : Place) (held : File) (there : get office.files place ≡ Some held) where
    part_of : (at : ℕ) → (tables_of office).piece (record { place = place; at = at }) ≡ piece_of held.bytes at
    part_of at = ap (option_and_then (λ (f : File). piece_of f.bytes at)) there

    -- its bytes are in rows
    bytes_stand : AreBytesOf (db.trees 9) place (length held.bytes) held.bytes
    bytes_stand = record {
      size_is = refl;
      pieces = λ at piece is.
          let r = means.pieces.all (record { place = place; at = at }) piece (part_of at ∙ is) in
          record { row = r.0; there = r.1; is = r.2 };
    }

    -- a piece in a row is one of the pieces of its bytes
    found_stands : (at : ℕ) (piece : List ℕ) → HasPiece (db.trees 9) place at piece → piece_of held.bytes at ≡ Some piece
    found_stands at piece has =
        let e = means.pieces.each has.row has.there in
        let same = one_part has.row (record { place = place; at = at }) e.0 piece e.1 has.is e.2 in
        sym (part_of at) ∙ ap (tables_of office).piece same.0 ∙ e.3 ∙ ap (λ x. Some x) (sym same.1)

    -- bytes of its length that are in rows are its bytes
    same_bytes_stand : (bytes : List ℕ) → AreBytesOf (db.trees 9) place (length held.bytes) bytes → bytes ≡ held.bytes
    same_bytes_stand bytes b = same_pieces bytes held.bytes (λ at. go at (piece_of bytes at) refl)
      where
        go : (at : ℕ) (o : Option (List ℕ)) → piece_of bytes at ≡ o → piece_of bytes at ≡ piece_of held.bytes at
        go at (Some piece) is = is ∙ sym (found_stands at piece (b.pieces at piece is))
        go at None is = elim (cases_Bool (nat_lt (65536 * at) (length bytes))) [
          | inl within ↦ absurd (some_none (take 65536 (drop (65536 * at) bytes)) (rw within at is))
          | inr beyond ↦ is ∙ sym (no_piece held.bytes at (let past = ltb-false (65536 * at) (length bytes) beyond in omega (arith, past, b.size_is)))
        ]

  pub no_bytes : (file : FileLine) (row : Row) → Has (db.trees 6) row → IsFileLine row file → LacksBytes (db.trees 9) lines.receipts.now file → ⊥
  no_bytes file row stands told lacks =
      let it = file_of file row stands told lacks.given lacks.is in
      let sizes : pos lacks.size ≡ pos (length it.held.bytes) = sym lacks.size_is ∙ it.size in
      let size : lacks.size ≡ length it.held.bytes = cc in
      elim lacks.lacks [
        | inl (inl none) ↦ none it.held.bytes (subst (λ n. AreBytesOf (db.trees 9) (place_in file) n it.held.bytes) (sym size) (bytes_stand (place_in file) it.held it.there))
        | inl (inr misfit) ↦ misfit.misfits it.held.bytes (sym size) (found_stands (place_in file) it.held it.there misfit.at misfit.piece misfit.stands)
        | inr other ↦
            let b = subst (λ n. AreBytesOf (db.trees 9) (place_in file) n other.0) size other.1 in
            other.2 (ap sha256 (same_bytes_stand (place_in file) it.held it.there other.0 b) ∙ sym it.digest)
      ]
