-- The files, read in portions.
use Rattle.std.proofs.Common.{◌≡◌, inl, inr, ℕ, ◌-◌, ◌≤◌, ℤ, pos, List, [], ◌++◌, Bool, true, false, IsTrue, length, get_or, arith, refl, subst}
use Rattle.std.specs.Prelude.{Contains, MatchBool}
use Rattle.std.specs.BTreeMap.{BTreeMap}
use Rattle.std.proofs.lemmas.List.Elements.{Contains-append_cases, Contains-append_right}
use denote.Bor.{Bor}
use Rattle.sqlite_value.specs.Order.{Row}
use Rattle.sqlite.specs.Effect.{Database}
use Rattle.sqlite.specs.State.{State, HasCleanDisk}
use Rattle.boxes.specs.State.{Receipt}
use Rattle.boxes.specs.declared.totals.Totals.{Totals}
use Rattle.sqltables.specs.Schema.{Version, IsVersion}
use Rattle.sqltables.specs.Means.{IsWhole, IsRunning}
use Rattle.sqlaudit.specs.Lines.{IsFileLine}
use Rattle.sqlaudit.specs.Portions.{AreRowids}
use Rattle.sqlaudit.specs.Opened.{HasBytes, LacksBytes}
use Rattle.sqlaudit.specs.Sorting.{AreFiled, AreUnfiled, HoldsReceipts}
use Rattle.sqlaudit.specs.Walking.{AreAllFiles, LackFiles}
use Rattle.sqlaudit.specs.declared.file_rules.Filed.{Filed}
use Rattle.sqlaudit.specs.declared.lines.FileLine.{FileLine}
use Rattle.sqlaudit.specs.declared.lines.ReceiptLine.{ReceiptLine}
use Rattle.sqlaudit.proofs.LongTexts.{files_between, file_shown, asks_files}
use Rattle.sqlaudit.proofs.PortionRows.{Opens, Portioned, ReadsOn, GoesFrom, Sees, read_on, all_read, sees, portioned_on}

-- the tables are an office's, and each row obeys them
pub record OpensWhole (v : Version) (entry : State) : Type 0 where
  pub version : IsVersion v
  pub schema : IsTrue entry.is_open → entry.now.schema ≡ v.schema
  pub whole : IsTrue entry.is_open → IsWhole entry.now
  pub running : IsRunning entry

pub opens_files : (v : Version) (entry : State) → OpensWhole v entry → Opens v files_between 6 [] file_shown entry
opens_files v entry opens = record { asks = asks_files v opens.version; schema = opens.schema; running = opens.running }

-- the map that represents the files in the code
abbrev pub FileMap : Type 0
FileMap = BTreeMap (Bor (List ℕ) × Bor (List ℕ)) ℕ

abbrev pub SumMap : Type 0
SumMap = BTreeMap (Bor (List ℕ)) Totals

-- the first `at` rows were read: they are files with their receipts, and have their bytes
pub record Walked (entry now : State) (given : List ReceiptLine) (numbers : List ℤ) (at : ℕ) (files : FileMap) (sums : SumMap) : Type 0 where
  pub done : List FileLine
  pub portioned : Portioned IsFileLine files_between entry now numbers at done
  pub filed : (rs : List Receipt) → HoldsReceipts given rs → AreFiled rs done files sums
  pub bytes : (v : Version) → OpensWhole v entry → HasCleanDisk now → (file : FileLine) → Contains done file → HasBytes (entry.now.trees 9) given file

file_line : (row : Row) (line : FileLine) → IsFileLine (file_shown row) line → IsFileLine row line
file_line row line is = record { box_is = is.box_is; name_is = is.name_is; receipt_is = is.receipt_is }

module _ (entry mid now : State) (given : List ReceiptLine) (numbers : List ℤ) (at end : ℕ) (files : FileMap) (sums : SumMap) (w : Walked entry mid given numbers at files sums) (more : List FileLine)
    (next : ReadsOn IsFileLine files_between mid now (get_or numbers at (pos 0)) (get_or numbers (end - 1) (pos 0)) more) (within : end ≤ length numbers) where
  pub portion : Portioned IsFileLine files_between entry now numbers end (w.done ++ more)
  portion = read_on IsFileLine files_between entry mid now numbers at end w.done more w.portioned next within

  -- what is seen after the portion was read
  pub seen_then : (v : Version) → OpensWhole v entry → HasCleanDisk now → Sees v entry now
  seen_then v opens clean = sees IsFileLine files_between entry now numbers end (w.done ++ more) portion v 6 [] file_shown (opens_files v entry opens) clean

  -- a row that is not a file, or is at the place of a different file
  pub unfiled_portion : (rs : List Receipt) (v : Version) → OpensWhole v entry → HasCleanDisk now → AreUnfiled rs (w.done ++ more) → LackFiles rs given entry.now
  unfiled_portion rs v opens clean unfiled = record {
    lines = w.done ++ more;
    of = λ line there. let r = portion.all v 6 [] file_shown (opens_files v entry opens) clean line there in (r.0, r.1, file_line r.0 line r.2);
    lack = inl unfiled;
  }

  module _ (last : State) (goes : GoesFrom now last) (has : Bool)
      (read : (v : Version) → OpensWhole v now → HasCleanDisk last → MatchBool has ((file : FileLine) → Contains more file → HasBytes (now.now.trees 9) given file)
      ((file : FileLine) × Contains more file × LacksBytes (now.now.trees 9) given file)) where
    early : HasCleanDisk last → HasCleanDisk now
    early clean = omega (arith, clean, goes.survives.clean)

    opens_then : (v : Version) → OpensWhole v entry → HasCleanDisk last → OpensWhole v now
    opens_then v opens clean = let s = seen_then v opens (early clean) in record { version = opens.version; schema = s.schema; whole = s.whole opens.whole; running = s.running }

    -- a file lacks its bytes
    pub lacking_portion : has ≡ false → (rs : List Receipt) (v : Version) → OpensWhole v entry → HasCleanDisk last → LackFiles rs given entry.now
    lacking_portion not rs v opens clean =
        let s = seen_then v opens (early clean) in
        let lacks = subst (λ b. MatchBool b ((file : FileLine) → Contains more file → HasBytes (now.now.trees 9) given file) ((file : FileLine) × Contains more file × LacksBytes (now.now.trees 9) given file)) not
        (read v (opens_then v opens clean) clean) in
        record {
          lines = w.done ++ more;
          of = λ line there. let r = portion.all v 6 [] file_shown (opens_files v entry opens) (early clean) line there in (r.0, r.1, file_line r.0 line r.2);
          lack = inr (lacks.0, Contains-append_right w.done more lacks.0 lacks.1, subst (λ (d : Database). LacksBytes (d.trees 9) given lacks.0) s.same lacks.2);
        }

    -- one more portion
    pub walked_on : has ≡ true → (files_then : FileMap) (sums_then : SumMap) → ((rs : List Receipt) → HoldsReceipts given rs → AreFiled rs (w.done ++ more) files_then sums_then) → Walked entry last given numbers end files_then sums_then
    walked_on is files_then sums_then filed = record {
      done = w.done ++ more;
      portioned = portioned_on IsFileLine files_between entry now numbers end (w.done ++ more) portion last goes;
      filed = filed;
      bytes = λ v opens clean file there. elim (Contains-append_cases w.done more file there) [
        | inl old ↦ w.bytes v opens (let c = early clean in omega (arith, c, next.survives.clean)) file old
        | inr new ↦
            let s = seen_then v opens (early clean) in
            let all = subst (λ b. MatchBool b ((file : FileLine) → Contains more file → HasBytes (now.now.trees 9) given file) ((file : FileLine) × Contains more file × LacksBytes (now.now.trees 9) given file)) is
            (read v (opens_then v opens clean) clean) in
            subst (λ (d : Database). HasBytes (d.trees 9) given file) s.same (all file new)
      ];
    }

-- all rows were read
pub all_walked : (entry now : State) (given : List ReceiptLine) (numbers : List ℤ) (at : ℕ) (filed : Filed) → Walked entry now given numbers at filed.files filed.sums → length numbers ≤ at
    → (rs : List Receipt) → HoldsReceipts given rs → AreRowids (entry.now.trees 6) numbers → (v : Version) → OpensWhole v entry → HasCleanDisk now → AreAllFiles rs given entry.now filed
all_walked entry now given numbers at filed w done rs held are v opens clean =
    let listed = all_read IsFileLine files_between entry now numbers at w.done w.portioned done v 6 [] file_shown (opens_files v entry opens) clean are in
    record {
      lines = w.done;
      are = record {
        each = λ row there. let l = listed.each row there (λ given. refl) in (l.0, l.1, file_line row l.0 l.2);
        all = λ line there. let r = listed.all line there in (r.0, r.1, file_line r.0 line r.2);
      };
      filed_are = w.filed rs held;
      bytes = w.bytes v opens clean;
    }
