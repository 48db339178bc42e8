-- Rows whose lines are the entries of a map mean that map.
use Rattle.std.proofs.Common.{◌≡◌, ◌∙◌, List, Option, Some, None, ap}
use Rattle.std.specs.Prelude.{Contains, slice_get}
use Rattle.std.specs.FinMap.{get}
use Rattle.sqlite_value.specs.declared.value.Value.TheVariants.{Int, Text, Blob}
use Rattle.sqlite_value.specs.Order.{Row}
use Rattle.sqlite_rules.proofs.ListLemmas.{has_contained, contains_had}
use Rattle.sqlite.specs.Effect.{Database}
use Rattle.sqlaudit.specs.declared.lines.OfficeLine.{OfficeLine}
use Rattle.sqlaudit.specs.declared.lines.FileLine.{FileLine}
use Rattle.sqlaudit.specs.declared.rules.Lines.{Lines}
use Rattle.sqltables.specs.Schema.{Version, v1, v2}
use Rattle.sqltables.specs.Tables.{RowsMean, IsOfficeRow, IsKeyRow, IsBoxRow, IsReceiptRow, IsFileRow, IsRulesRow, IsLimitRow}
use Rattle.sqlaudit.specs.Lines.{AreLines, HaveRowids, IsOfficeLine, IsKeyLine, IsBoxLine, IsReceiptLine, IsFileLine, IsRulesLine, IsLimitLine}
use Rattle.sqlaudit.specs.Outlines.{Outline, AreEntries, AreLinesOf, IsOfficeEntry, IsKeyEntry, IsBoxEntry, IsReceiptEntry, IsFileEntry, IsRulesEntry, IsLimitEntry}
use Rattle.boxes.specs.State.{Limit}
use Rattle.sqlaudit.specs.Opened.{AreListed}
use Rattle.sqlaudit.proofs.LimitEntries.{says_none, limits_none}

module _ {L K V : Type 0} (IsLine : Row → L → Type 0) (IsEntry : L → K → V → Type 0) (IsRow : Row → K → V → Type 0) (rows : List Row) (lines : List L) (lookup : K → Option V) where
  rows_mean : ((row : Row) (line : L) (k : K) (v : V) → Contains lines line → IsLine row line → IsEntry line k v → IsRow row k v)
      → AreLines IsLine rows lines → AreEntries IsEntry lookup lines → HaveRowids rows → RowsMean IsRow lookup rows
  rows_mean joins listed entries ids = record {
    each = λ row there.
        let l = listed.each row there in
        let in_lines = contains_had lines l.0 l.1 in
        let e = entries.each l.0 in_lines in
        (e.0, e.1, joins row l.0 e.0 e.1 in_lines l.2 e.2, e.3);
    all = λ k v some.
        let l = entries.all k v some in
        let r = listed.all l.0 (has_contained lines l.0 l.1) in
        (r.0, r.1, joins r.0 l.0 k v l.1 r.2 l.2);
    keyed = ids.keyed;
    apart = ids.apart;
  }

module _ (v : Version) (db : Database) (lines : Lines) (listed : AreListed v db lines) (o : Outline) (are : AreLinesOf lines o) where
  pub office_means : ((line : OfficeLine) → Contains lines.office.now line → line.version ≡ v.number) → RowsMean (IsOfficeRow v.number) (λ one. Some o.offset) (db.trees 0)
  office_means first = rows_mean IsOfficeLine IsOfficeEntry (IsOfficeRow v.number) (db.trees 0) lines.office.now (λ one. Some o.offset)
      (λ row line one offset there l e. record { id_is = l.id_is ∙ ap Int e.id_is; version_is = l.version_is ∙ ap Int (first line there); east_is = l.east_is ∙ ap Int e.east_is })
      listed.office are.office listed.office_rowids

  pub keys_mean : RowsMean IsKeyRow (get o.keys) (db.trees 1)
  keys_mean = rows_mean IsKeyLine IsKeyEntry IsKeyRow (db.trees 1) lines.keys.now (get o.keys)
      (λ row line id key there l e. record {
        id_is = l.id_is ∙ ap Text e.id_is;
        role_is = l.role_is ∙ ap Int e.role_is;
        secret_is = l.secret_is ∙ ap Blob e.secret_is;
        revoked_is = l.revoked_is ∙ ap Int e.revoked_is;
      }) listed.keys are.keys listed.keys_rowids

  pub boxes_mean : RowsMean IsBoxRow (get o.boxes) (db.trees 3)
  boxes_mean = rows_mean IsBoxLine IsBoxEntry IsBoxRow (db.trees 3) lines.boxes.now (get o.boxes)
      (λ row line name box there l e. record {
        name_is = l.name_is ∙ ap Text e.name_is;
        opens_is = l.opens_is ∙ ap Int e.opens_is;
        closes_is = l.closes_is ∙ ap Int e.closes_is;
        days_is = l.days_is ∙ ap Text e.days_is;
        from_is = l.from_is ∙ ap Int e.from_is;
        to_is = l.to_is ∙ ap Int e.to_is;
        quota_is = l.quota_is ∙ ap Int e.quota_is;
        max_is = l.max_is ∙ ap Int e.max_is;
        mode_is = l.mode_is ∙ ap Int e.mode_is;
        kind_is = l.kind_is ∙ ap Int e.kind_is;
        text_is = l.text_is ∙ ap Text e.text_is;
        used_is = l.used_is ∙ ap Int e.used_is;
        count_is = l.count_is ∙ ap Int e.count_is;
      }) listed.boxes are.boxes listed.boxes_rowids

  pub receipts_mean : RowsMean IsReceiptRow (slice_get o.receipts) (db.trees 5)
  receipts_mean = rows_mean IsReceiptLine IsReceiptEntry IsReceiptRow (db.trees 5) lines.receipts.now (slice_get o.receipts)
      (λ row line at receipt there l e. record {
        number_is = l.number_is ∙ ap Int e.number_is;
        box_is = l.box_is ∙ ap Text e.box_is;
        name_is = l.name_is ∙ ap Text e.name_is;
        length_is = l.length_is ∙ ap Int e.length_is;
        digest_is = l.digest_is ∙ ap Blob e.digest_is;
        moment_is = l.moment_is ∙ ap Int e.moment_is;
        key_is = l.key_is ∙ ap Text e.key_is;
      }) listed.receipts are.receipts listed.receipts_rowids

  pub files_mean : (files : List FileLine) → AreLines IsFileLine (db.trees 6) files → HaveRowids (db.trees 6) → AreEntries IsFileEntry (get o.files) files → RowsMean IsFileRow (get o.files) (db.trees 6)
  files_mean files files_listed files_ids files_of = rows_mean IsFileLine IsFileEntry IsFileRow (db.trees 6) files (get o.files)
      (λ row line place number there l e. record { box_is = l.box_is ∙ ap Text e.box_is; name_is = l.name_is ∙ ap Text e.name_is; receipt_is = l.receipt_is ∙ ap Int e.receipt_is })
      files_listed files_of files_ids

  pub rules_mean : v ≡ v2 → RowsMean IsRulesRow (λ one. Some o.allowance) (db.trees 11)
  rules_mean second = rows_mean IsRulesLine IsRulesEntry IsRulesRow (db.trees 11) lines.rules.now (λ one. Some o.allowance)
      (λ row line one allowance there l e. record { id_is = l.id_is ∙ ap Int e.id_is; allowance_is = l.allowance_is ∙ ap Int e.allowance_is })
      (listed.added.rules second).0 are.rules (listed.added.rules second).1

  pub limits_mean : v ≡ v2 → RowsMean IsLimitRow (get o.limits) (db.trees 12)
  limits_mean second = rows_mean IsLimitLine IsLimitEntry IsLimitRow (db.trees 12) lines.limits.now (get o.limits)
      (λ row line limit one there l e. record { key_is = l.key_is ∙ ap Text e.key_is; box_is = l.box_is ∙ ap Text e.box_is })
      (listed.added.limits second).0 are.limits (listed.added.limits second).1

  pub unlimited_then : v ≡ v1 → (o.allowance ≡ 0) × ((limit : Limit) → get o.limits limit ≡ None)
  unlimited_then first =
      let say = listed.added.unlimited first in
      (says_none lines.rules.now lines.limits.now say o.allowance are.rules, limits_none lines.rules.now lines.limits.now say (get o.limits) are.limits)
