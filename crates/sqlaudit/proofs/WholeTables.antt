-- The tables of an office, as the queries list them.
use Rattle.std.proofs.Common.{◌≡◌, ℕ, List, [], IsTrue, refl}
use Rattle.sqlite_value.specs.Order.{Row}
use Rattle.sqlite_rules.specs.Lists.{Has}
use Rattle.sqlite.specs.State.{State}
use Rattle.sqltables.specs.Schema.{Version, IsVersion, v2}
use Rattle.sqltables.specs.Means.{IsWhole}
use Rattle.sqltables.proofs.Ours.{asks_of}
use Rattle.sqltables.proofs.Texts.{list_keys, list_keys_command, list_keys_is, list_boxes, list_boxes_command, list_boxes_is}
use Rattle.sqltables.proofs.AddedTexts.{list_rules, list_rules_is, list_limits, list_limits_is}
use Rattle.sqltables.proofs.Shown.{shown_open}
use Rattle.sqlaudit.specs.Lines.{AreLines, AreLinesWhere, AreRead, HaveRowids, IsLater, IsKeyLine, IsBoxLine, IsReceiptLine, IsPieceLine, ShowsPiece, IsRulesLine, IsLimitLine}
use Rattle.sqlaudit.specs.Portions.{Passes}
use Rattle.sqlaudit.specs.declared.lines.KeyLine.{KeyLine}
use Rattle.sqlaudit.specs.declared.lines.BoxLine.{BoxLine}
use Rattle.sqlaudit.specs.declared.lines.ReceiptLine.{ReceiptLine}
use Rattle.sqlaudit.specs.declared.lines.PieceLine.{PieceLine}
use Rattle.sqlaudit.specs.declared.lines.RulesLine.{RulesLine}
use Rattle.sqlaudit.specs.declared.lines.LimitLine.{LimitLine}
use Rattle.sqlaudit.proofs.Listed.{lines_listed, rowids_listed, unchanged}
use Rattle.sqlaudit.proofs.LongTexts.{receipt_shown, piece_shown, later}
use Rattle.sqlaudit.proofs.PieceLines.{piece_line, later_passes}

-- each row of the table in this tree has a line, its rows have distinct rowids, and the query wrote nothing
pub record Lists {L : Type 0} (IsLine : Row → L → Type 0) (tree : ℕ) (old new : State) (lines : List L) : Type 0 where
  pub lines_are : AreLines IsLine (old.now.trees tree) lines
  pub rowids : HaveRowids (old.now.trees tree)
  pub same : new.now ≡ old.now

-- each row of the table in this tree that passes has a line, its rows have distinct rowids, and the query wrote nothing
pub record ListsWhere {L : Type 0} (Pass : Row → Type 0) (IsLine : Row → L → Type 0) (tree : ℕ) (old new : State) (lines : List L) : Type 0 where
  pub lines_are : AreLinesWhere Pass IsLine (old.now.trees tree) lines
  pub rowids : HaveRowids (old.now.trees tree)
  pub same : new.now ≡ old.now

lines_more : {L : Type 0} (A B : Row → Type 0) (P Q : Row → L → Type 0) (rows : List Row) (lines : List L) → AreLinesWhere A P rows lines → ((row : Row) → B row → A row) → ((row : Row) (line : L) → Has rows row → P row line → Q row line) → AreLinesWhere B Q rows lines
lines_more A B P Q rows lines are less more = record {
  each = λ row there pass. let l = are.each row there (less row pass) in (l.0, l.1, more row l.0 there l.2);
  all = λ line there. let r = are.all line there in (r.0, r.1, more r.0 line r.1 r.2);
}

module _ (v : Version) (ours : IsVersion v) (old new : State) (has : IsTrue old.is_open → old.now.schema ≡ v.schema) where
  pub lists_keys : (lines : List KeyLine) → AreRead IsKeyLine list_keys old new lines → Lists IsKeyLine 1 old new lines
  lists_keys lines read =
      let asks = asks_of v ours list_keys list_keys_command list_keys_is in
      let schema = has (shown_open list_keys [] old new read.rows read.shown) in
      record {
        lines_are = lines_listed IsKeyLine IsKeyLine v list_keys 1 _ _ _ asks old new schema lines read (λ row line there is. record { id_is = is.id_is; role_is = is.role_is; secret_is = is.secret_is; revoked_is = is.revoked_is });
        rowids = rowids_listed IsKeyLine IsKeyLine v list_keys 1 _ _ _ asks old new schema lines read (λ row. refl);
        same = (unchanged IsKeyLine IsKeyLine v list_keys 1 _ _ _ asks old new schema lines read).0.now_is;
      }

  pub lists_boxes : (lines : List BoxLine) → AreRead IsBoxLine list_boxes old new lines → Lists IsBoxLine 3 old new lines
  lists_boxes lines read =
      let asks = asks_of v ours list_boxes list_boxes_command list_boxes_is in
      let schema = has (shown_open list_boxes [] old new read.rows read.shown) in
      record {
        lines_are = lines_listed IsBoxLine IsBoxLine v list_boxes 3 _ _ _ asks old new schema lines read (λ row line there is. record { name_is = is.name_is; opens_is = is.opens_is; closes_is = is.closes_is; days_is = is.days_is; from_is = is.from_is; to_is = is.to_is; quota_is = is.quota_is; max_is = is.max_is; mode_is = is.mode_is; kind_is = is.kind_is; text_is = is.text_is; used_is = is.used_is; count_is = is.count_is });
        rowids = rowids_listed IsBoxLine IsBoxLine v list_boxes 3 _ _ _ asks old new schema lines read (λ row. refl);
        same = (unchanged IsBoxLine IsBoxLine v list_boxes 3 _ _ _ asks old new schema lines read).0.now_is;
      }

-- the long tables
module _ (old new : State) where
  pub lists_receipts : (lines : List ReceiptLine) → AreLinesWhere (Passes []) (λ row line. IsReceiptLine (receipt_shown row) line) (old.now.trees 5) lines → HaveRowids (old.now.trees 5) → new.now ≡ old.now → Lists IsReceiptLine 5 old new lines
  lists_receipts lines are ids unchanged = record {
    lines_are = record {
      each = λ row there. let l = are.each row there (λ given. refl) in (l.0, l.1, told row l.0 l.2);
      all = λ line there. let r = are.all line there in (r.0, r.1, told r.0 line r.2);
    };
    rowids = ids;
    same = unchanged;
  }
    where
      told : (row : Row) (line : ReceiptLine) → IsReceiptLine (receipt_shown row) line → IsReceiptLine row line
      told row line is = record { number_is = is.number_is; box_is = is.box_is; name_is = is.name_is; length_is = is.length_is; digest_is = is.digest_is; moment_is = is.moment_is; key_is = is.key_is }

  pub lists_pieces : (v : Version) → IsVersion v → old.now.schema ≡ v.schema → IsWhole old.now
      → (lines : List PieceLine) → AreLinesWhere (Passes later) (λ row line. ShowsPiece (piece_shown row) line) (old.now.trees 9) lines → HaveRowids (old.now.trees 9) → new.now ≡ old.now → ListsWhere IsLater IsPieceLine 9 old new lines
  lists_pieces v ours schema whole lines are ids unchanged = record {
    lines_are = lines_more (Passes later) IsLater (λ row line. ShowsPiece (piece_shown row) line) IsPieceLine (old.now.trees 9) lines are later_passes (λ row line there is. piece_line v ours old.now schema whole row line there is);
    rowids = ids;
    same = unchanged;
  }

-- the tables that version 2 adds
module _ (old new : State) (has : IsTrue old.is_open → old.now.schema ≡ v2.schema) where
  pub lists_rules : (lines : List RulesLine) → AreRead IsRulesLine list_rules old new lines → Lists IsRulesLine 11 old new lines
  lists_rules lines read =
      let schema = has (shown_open list_rules [] old new read.rows read.shown) in
      record {
        lines_are = lines_listed IsRulesLine IsRulesLine v2 list_rules 11 _ _ _ list_rules_is old new schema lines read (λ row line there is. record { id_is = is.id_is; allowance_is = is.allowance_is });
        rowids = rowids_listed IsRulesLine IsRulesLine v2 list_rules 11 _ _ _ list_rules_is old new schema lines read (λ row. refl);
        same = (unchanged IsRulesLine IsRulesLine v2 list_rules 11 _ _ _ list_rules_is old new schema lines read).0.now_is;
      }

  pub lists_limits : (lines : List LimitLine) → AreRead IsLimitLine list_limits old new lines → Lists IsLimitLine 12 old new lines
  lists_limits lines read =
      let schema = has (shown_open list_limits [] old new read.rows read.shown) in
      record {
        lines_are = lines_listed IsLimitLine IsLimitLine v2 list_limits 12 _ _ _ list_limits_is old new schema lines read (λ row line there is. record { key_is = is.key_is; box_is = is.box_is });
        rowids = rowids_listed IsLimitLine IsLimitLine v2 list_limits 12 _ _ _ list_limits_is old new schema lines read (λ row. refl);
        same = (unchanged IsLimitLine IsLimitLine v2 list_limits 12 _ _ _ list_limits_is old new schema lines read).0.now_is;
      }
