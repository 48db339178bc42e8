-- What the tests of a file say about its database.
use Rattle.std.proofs.Common.{◌≡◌, ◌≢◌, ◌<◌, inl, inr, ℕ, Some, slice_get, Bool, true, false, length, ℤ, List, [], ◌∷◌, arith, refl, sym, ap, subst, ◌∙◌}
use Rattle.std.specs.Prelude.{MatchBool, Contains}
use Rattle.sqlite_value.specs.declared.value.Value.TheVariants.{Int}
use Rattle.sqlite_value.specs.Order.{Row}
use Rattle.sqlite_rules.specs.Lists.{Has}
use Rattle.sqlite_rules.proofs.ListLemmas.{has_contained, contains_had}
use Rattle.sqlite_schema.specs.declared.schema.Schema.{Schema}
use Rattle.sqlite.specs.Effect.{Database}
use Rattle.std.specs.FinMap.{FinMap, get}
use Rattle.boxes.specs.State.{Place, place_cmp, Receipt, State as Office}
use Rattle.sqltables.specs.Schema.{Version, IsVersion, v1, begun_schemas}
use Rattle.sqltables.specs.Means.{IsWhole}
use Rattle.sqlaudit.specs.Lines.{AreLines, AreLinesWhere, HaveRowids, IsLater, IsOfficeLine, IsKeyLine, IsBoxLine, IsReceiptLine, IsFileLine, IsPieceLine}
use Rattle.sqlaudit.specs.Outlines.{AreEntries, AreSoundLines, IsFileEntry, IsFileRule, IsPieceIn}
use Rattle.sqlaudit.specs.Sorting.{AreAmong, AreRuled, HasTotals, IsFiled}
use Rattle.sqlaudit.specs.Walking.{AreAllFiles, AreLaterPieces, AreOf, LackFiles, LackPieces}
use Rattle.sqlaudit.specs.declared.lines.OfficeLine.{OfficeLine}
use Rattle.sqlaudit.specs.declared.lines.FileLine.{FileLine}
use Rattle.sqlaudit.specs.declared.lines.BoxLine.{BoxLine}
use Rattle.sqlaudit.specs.declared.lines.PieceLine.{PieceLine}
use Rattle.sqlaudit.specs.declared.file_rules.Filed.{Filed}
use Rattle.sqlaudit.specs.declared.rules.Lines.{Lines}
use Rattle.sqlaudit.specs.declared.listing.Listed.{Listed}
use Rattle.sqlaudit.specs.declared.opening.Extent.{Extent}
use Rattle.sqlaudit.specs.declared.opening.Extent.TheVariants.{Nothing, Begun, Whole}
use Rattle.sqlaudit.specs.declared.opening.Finding.{Finding}
use Rattle.sqlaudit.specs.declared.opening.Finding.TheVariants.{Sound, Damaged}
use Rattle.sqlaudit.specs.Opened.{IsFound, BeginsAsOffice, IsExtent, AreOffice, SaysVersion, AreDamaged, AreAdded, AreListed, AreTables, AreShortLines, AreOfVersion}
use Rattle.sqlaudit.proofs.Accepting.{accepted}
use Rattle.sqlaudit.proofs.Extents.{begun_named, ours_begun, ours_named}
use Rattle.sqlaudit.proofs.Refusing.{sound_lines, short_first, file_line, file_lines, piece_of_office, no_bytes}
use Rattle.sqlaudit.proofs.WholeRules.{filed_rule, totals_told, piece_in, built, built_files}

pub record AreLent (lines : Lines) (first : List OfficeLine) (listed : Listed) : Type 0 where
  pub office : lines.office.now ≡ first
  pub keys : lines.keys.now ≡ listed.keys.items
  pub boxes : lines.boxes.now ≡ listed.boxes.items
  pub receipts : lines.receipts.now ≡ listed.receipts.items
  pub rules : lines.rules.now ≡ listed.added.rules.items
  pub limits : lines.limits.now ≡ listed.added.limits.items

pub are_listed : (v : Version) (db : Database) (lines : Lines) (office : List OfficeLine) (listed : Listed) → AreLent lines office listed → AreLines IsOfficeLine (db.trees 0) office → HaveRowids (db.trees 0) → AreTables v db listed → AreListed v db lines
are_listed v db lines office listed lent are rowids tables = record {
  office = subst (AreLines IsOfficeLine (db.trees 0)) (sym lent.office) are;
  keys = subst (AreLines IsKeyLine (db.trees 1)) (sym lent.keys) tables.keys;
  boxes = subst (AreLines IsBoxLine (db.trees 3)) (sym lent.boxes) tables.boxes;
  receipts = subst (AreLines IsReceiptLine (db.trees 5)) (sym lent.receipts) tables.receipts;
  office_rowids = rowids;
  keys_rowids = tables.keys_rowids;
  boxes_rowids = tables.boxes_rowids;
  receipts_rowids = tables.receipts_rowids;
  added = subst (λ rules. AreAdded v db rules lines.limits.now) (sym lent.rules) (subst (AreAdded v db listed.added.rules.items) (sym lent.limits) tables.added);
}

-- ---- the version

-- an office of this version says so
pub office_version : (v : Version) → IsVersion v → (db : Database) (office : Office) → AreOffice v db office → SaysVersion db v.number
office_version v ours db office is =
    let row = is.holds.means.office.all tt office.offset refl in
    record {
      begun = subst (Has begun_schemas) (sym is.holds.schema) (ours_begun v ours);
      row = row.0;
      there = row.1;
      each = λ row has. (is.holds.means.office.each row has).2.version_is;
    }

module _ (v : Version) (ours : IsVersion v) (db : Database) (lines : List OfficeLine) (are : AreLines IsOfficeLine (db.trees 0) lines) where
  rows_version : (version : ℤ) → SaysVersion db version → AreOfVersion lines version
  rows_version version says = record {
    some = (let l = are.each says.row says.there in let there = contains_had lines l.0 l.1 in omega (arith, there.1));
    each = λ line there.
        let x = are.all line (has_contained lines line there) in
        let same : Int line.version ≡ Int version = sym x.2.version_is ∙ says.each x.0 x.1 in
        cc;
  }

  pub lines_version : Has begun_schemas db.schema → (version : ℤ) → AreOfVersion lines version → SaysVersion db version
  lines_version begun version of = record {
    begun = begun;
    row = one.0;
    there = one.1;
    each = λ row has. let l = are.each row has in l.2.version_is ∙ ap Int (of.each l.0 (contains_had lines l.0 l.1));
  }
    where
      row_of : (ls : List OfficeLine) → 0 < length ls → ((line : OfficeLine) → Has ls line → (row : Row) × Has (db.trees 0) row × IsOfficeLine row line) → (row : Row) × Has (db.trees 0) row
      row_of [] none all = absurd (omega (arith, none))
      row_of (l ∷ ls) some all = let x = all l (inl refl) in (x.0, x.1)

      one : (row : Row) × Has (db.trees 0) row
      one = row_of lines of.some are.all

  one_version : AreOfVersion lines v.number → (version : ℤ) → SaysVersion db version → version ≡ v.number
  one_version of version says =
      let l = are.each says.row says.there in
      let same : Int l.0.version ≡ Int version = sym l.2.version_is ∙ says.each says.row says.there in
      let is = of.each l.0 (contains_had lines l.0 l.1) in
      cc

  pub unversioned : ((version : ℤ) → AreOfVersion lines version → ⊥) → AreDamaged v db
  unversioned none = record {
    none = λ office is. none v.number (rows_version v.number (office_version v ours db office is));
    version = λ version says. absurd (none version (rows_version version says));
  }

  pub damaged : AreOfVersion lines v.number → ((office : Office) → AreOffice v db office → ⊥) → AreDamaged v db
  damaged of none = record { none = none; version = one_version of }

abbrev pub AreDamagedBut : Version → Database → Type 0
AreDamagedBut v db = ((office : Office) → AreOffice v db office → ⊥) → AreDamaged v db

-- ---- a schema that is not whole

-- such tables are not an office's, and say no version
pub no_office : (v : Version) → IsVersion v → (db : Database) → (BeginsAsOffice db.schema → ⊥) → AreDamaged v db
no_office v ours db none = record {
  none = λ office is. none (subst BeginsAsOffice (sym is.holds.schema) (ours_named v ours));
  version = λ version says. absurd (none (begun_named db.schema says.begun));
}

pub less : (v : Version) → IsVersion v → (extent : Extent) (schema : Schema) → IsExtent v extent schema → (extent ≡ Whole → ⊥) → schema ≢ v.schema
less v ours Nothing schema is not e = is (subst BeginsAsOffice (sym e) (ours_named v ours))
less v ours Begun schema is not e = is.1 e
less v ours Whole schema is not e = not refl

-- ---- an office's lines

module _ (v : Version) (ours : IsVersion v) (db : Database) (lines : Lines) (office : List OfficeLine) (listed : Listed) (lent : AreLent lines office listed) (are : AreListed v db lines) where
  pub unsound : (AreSoundLines lines → ⊥) → (o : Office) → AreOffice v db o → ⊥
  unsound not o is = not (sound_lines v ours db lines o are is)

  pub unfit : ((v ≡ v1 → AreShortLines lines.receipts.now) → ⊥) → (o : Office) → AreOffice v db o → ⊥
  unfit not o is = not (short_first v ours db lines o are is)

  module _ (r : AreRuled lines) where
    -- the lines of an office, if the tables are an office's
    module _ (o : Office) (is : AreOffice v db o) where
      abbrev a : AreSoundLines lines
      a = sound_lines v ours db lines o are is

      rule : (place : Place) (n : ℕ) → get a.office.files place ≡ Some n → IsFileRule (slice_get r.receipts) place n
      rule = filed_rule lines a r.keys r.boxes r.keys_are r.boxes_are r.receipts r.receipts_are

      among : (files : List FileLine) → AreOf IsFileLine (db.trees 6) files → AreAmong (IsFiled r.receipts) (get a.office.files) files
      among files of line there =
          let x = of line (has_contained files line there) in
          let e = file_line v ours db lines o are is line x.0 x.1 x.2 in
          (e.0, e.1, record { entry = e.2; rule = rule e.0 e.1 e.3 }, e.3)

      has_files : LackFiles r.receipts lines.receipts.now db → ⊥
      has_files lacks = elim lacks.lack [
        | inl unfiled ↦ unfiled (get a.office.files) (among lacks.lines lacks.of)
        | inr file ↦ let x = lacks.of file.0 (has_contained lacks.lines file.0 file.1) in no_bytes v ours db lines o are is file.0 x.0 x.1 x.2 file.2
      ]

      module _ (filed : Filed) (all : AreAllFiles r.receipts lines.receipts.now db filed) where
        abbrev of : AreEntries IsFileEntry (get a.office.files) all.lines
        of = file_lines v ours db lines o are is all.lines all.are

        has_totals : (line : BoxLine) → Contains lines.boxes.now line → HasTotals r.receipts all.filed_are.0.map line
        has_totals = totals_told lines a r.keys r.boxes r.keys_are r.boxes_are r.receipts r.receipts_are all.lines of all.filed_are.0.map all.filed_are.0.entries

        has_pieces : LackPieces r.receipts all.filed_are.0.map db → ⊥
        has_pieces lacks = lacks.lack (λ line there.
            let x = lacks.of line (has_contained lacks.lines line there) in
            piece_in lines a r.keys r.boxes r.keys_are r.boxes_are r.receipts r.receipts_are all.lines of all.filed_are.0.map all.filed_are.0.entries line (piece_of_office v ours db lines o are is line x.0 x.1 x.2))

    pub lacks_files : LackFiles r.receipts lines.receipts.now db → (o : Office) → AreOffice v db o → ⊥
    lacks_files lacks o is = has_files o is lacks

    pub lacks_totals : (filed : Filed) (all : AreAllFiles r.receipts lines.receipts.now db filed) → (((line : BoxLine) → Contains lines.boxes.now line → HasTotals r.receipts all.filed_are.0.map line) → ⊥) → (o : Office) → AreOffice v db o → ⊥
    lacks_totals filed all none o is = none (has_totals o is filed all)

    pub lacks_pieces : (filed : Filed) (all : AreAllFiles r.receipts lines.receipts.now db filed) → LackPieces r.receipts all.filed_are.0.map db → (o : Office) → AreOffice v db o → ⊥
    lacks_pieces filed all lacks o is = has_pieces o is filed all lacks

    pub tested : db.schema ≡ v.schema → IsWhole db → AreOfVersion office v.number → (filed : Filed) (all : AreAllFiles r.receipts lines.receipts.now db filed) → HaveRowids (db.trees 6)
        → ((line : BoxLine) → Contains lines.boxes.now line → HasTotals r.receipts all.filed_are.0.map line) → AreLaterPieces r.receipts all.filed_are.0.map db → HaveRowids (db.trees 9)
        → (v ≡ v1 → AreShortLines lines.receipts.now) → (o : Office) × AreOffice v db o
    tested schema whole versions filed all files_ids totals pieces pieces_ids short =
        accepted v ours db lines schema whole are (λ line there. versions.each line (subst (λ xs. Contains xs line) lent.office there))
        (built lines r all.lines all.filed_are.0.map all.filed_are.0.entries totals)
        all.lines all.are files_ids (built_files lines r all.lines all.filed_are.0.map all.filed_are.0.entries totals) all.bytes pieces pieces_ids short

-- ---- the pieces, as they are listed

module _ (db : Database) (lines : List PieceLine) (listed : AreLinesWhere IsLater IsPieceLine (db.trees 9) lines) (rs : List Receipt) (m : FinMap place_cmp ℕ) where
  pub pieces_are : ((line : PieceLine) → Contains lines line → IsPieceIn (slice_get rs) m line) → AreLaterPieces rs m db
  pieces_are all row there later = let l = listed.each row there later in (l.0, l.2, all l.0 (contains_had lines l.0 l.1))

  pub pieces_lack : (((line : PieceLine) → Contains lines line → IsPieceIn (slice_get rs) m line) → ⊥) → LackPieces rs m db
  pieces_lack none = record { lines = lines; of = listed.all; lack = none }

-- the finding for an office's tables of this version
pub found_of : (v : Version) (db : Database) (finding : Finding) (b : Bool) → MatchBool b (finding ≡ Sound) (finding ≡ Damaged) → AreDamagedBut v db → MatchBool b ((o : Office) × AreOffice v db o) ((o : Office) → AreOffice v db o → ⊥) → IsFound v finding db
found_of v db finding true is rest sound = subst (λ f. IsFound v f db) (sym is) sound
found_of v db finding false is rest none = subst (λ f. IsFound v f db) (sym is) (rest none)
