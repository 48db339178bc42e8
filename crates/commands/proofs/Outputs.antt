-- Texts that were written to an output.
use Rattle.std.proofs.Common.{◌≡◌, ◌∙◌, ◌++◌, ℕ, List, [], Option, Some, None, Result, Ok, Err, sym, subst, ap}
use Rattle.std.proofs.lemmas.Bool.{false≢true}
use Rattle.std.proofs.lemmas.List.{append-nil}
use Rattle.std.specs.Prelude.{IsOk}
use Rattle.std.specs.FinMap.{entries}
use Rattle.std.specs.Io.KnownBytes.{Appends, Keeps}
use Rattle.boxes.specs.Rows.{numbered}
use Rattle.boxes.specs.State.{Receipt, State}
use Rattle.wire.specs.Sending.{Sends}
use Rattle.lists.specs.Lists.{AnswersList, IsTable}
use Rattle.lists.specs.Manifests.{IsComparisonLine, IsManifestRow, IsReceiptLine, WritesManifest, findings_head, manifest_head}
use Rattle.lists.specs.declared.list_fault.ListFault.{ListFault}
use Rattle.lists.specs.Boxes.{IsBoxLine, boxes_head}
use Rattle.lists.specs.Files.{IsFileLine, files_head}
use Rattle.lists.specs.Keys.{IsKeyLine, keys_head}
use Rattle.lists.specs.Written.{WritesList}
use Rattle.commands.specs.Listing.{IsListOf, IsManifest, WritesStock}
use Rattle.commands.specs.declared.listing.Stock.{Stock}
use Rattle.commands.specs.declared.listing.Stock.TheVariants as stock

-- what was appended stays
pub appended_stays : (old mid new : Option (List ℕ)) (bytes : List ℕ) → Appends old mid bytes → Keeps mid new → Appends old new bytes
appended_stays None mid new bytes appends keeps = tt
appended_stays (Some xs) None new bytes appends keeps = absurd appends
appended_stays (Some xs) (Some ys) None bytes appends keeps = keeps
appended_stays (Some xs) (Some ys) (Some zs) bytes appends keeps = keeps ∙ appends

-- what stayed before is the beginning
pub stays_appended : (old mid new : Option (List ℕ)) (bytes : List ℕ) → Keeps old mid → Appends mid new bytes → Appends old new bytes
stays_appended None mid new bytes keeps appends = tt
stays_appended (Some xs) None new bytes keeps appends = absurd keeps
stays_appended (Some xs) (Some ys) None bytes keeps appends = appends
stays_appended (Some xs) (Some ys) (Some zs) bytes keeps appends = subst (λ (front : List ℕ). zs ≡ front ++ bytes) keeps appends

-- a text that was sent by a call that succeeded was appended
pub sent_whole : {T E : Type 0} (text : List ℕ) (old new : Option (List ℕ)) (x : T) → Sends {E = E} text old new (Ok x) → Appends old new text
sent_whole text old new x sends = subst (Appends old new) sends.whole sends.written

-- ---- lists that were written in full

first_all : {A : Type 0} (all first rest : List A) → all ≡ first ++ rest → rest ≡ [] → first ≡ all
first_all all first rest cut none = sym (cut ∙ ap (λ r. first ++ r) none ∙ append-nil first)

-- a list that was written by a call that succeeded is whole
pub written_list : {A T E : Type 0} (head : List (List ℕ)) (IsLine : A → List ℕ → Type 0) (all : List A) (old new : Option (List ℕ)) (r : Result T E) → IsOk r
    → WritesList head IsLine all old new r → (text : List ℕ) × IsTable head IsLine all text × Appends old new text
written_list head IsLine all old new (Ok x) done it =
    (it.text, subst (λ (xs : List _). IsTable head IsLine xs it.text) (first_all all it.first it.are_first.rest it.are_first.cut it.are_first.whole) it.table, sent_whole it.text old new x it.sent)
written_list head IsLine all old new (Err e) done it = absurd (false≢true done)

pub written_stock : {T E : Type 0} (kind : Stock) (s : State) (old new : Option (List ℕ)) (r : Result T E) → IsOk r
    → WritesStock kind s old new r → (text : List ℕ) × IsListOf kind s text × Appends old new text
written_stock stock.Keys s old new r done it = written_list keys_head (IsKeyLine s) (entries s.keys) old new r done it
written_stock stock.Boxes s old new r done it = written_list boxes_head (IsBoxLine s) (entries s.boxes) old new r done it
written_stock stock.Files s old new r done it = written_list files_head (IsFileLine s) (entries s.files) old new r done it

pub written_manifest : {T E : Type 0} (s : State) (old new : Option (List ℕ)) (r : Result T E) → IsOk r
    → WritesManifest s old new r → (text : List ℕ) × IsManifest s text × Appends old new text
written_manifest s old new (Ok x) done it = (
  it.text,
  subst (λ (xs : List (ℕ × Receipt)). IsTable manifest_head IsReceiptLine xs it.text) (first_all (numbered 1 s.receipts) it.first it.are_first.rest it.are_first.receipts it.are_first.all) it.table,
  sent_whole it.text old new x it.sent,
)
written_manifest s old new (Err e) done it = absurd (false≢true done)

-- the text of a list, from the output as it was handed in to the output as it is handed back
pub handed_on : (old start end new : Option (List ℕ)) (IsText : List ℕ → Type 0) → Keeps old start → Keeps end new
    → (text : List ℕ) × IsText text × Appends start end text → (text : List ℕ) × IsText text × Appends old new text
handed_on old start end new IsText begins ends (text, is, appends) = (text, is, appended_stays old end new text (stays_appended old start end text begins appends) ends)

-- a comparison that succeeded
pub compared : (Known : State → Type 0) (s : State) → Known s → (read old start end new : Option (List ℕ)) (r : Result (Unit {0}) ListFault) → IsOk r → Keeps old start → Keeps end new
    → AnswersList manifest_head findings_head IsManifestRow Known IsComparisonLine read start end r
    → AnswersList {T = Unit {0}} manifest_head findings_head IsManifestRow (λ (w : State). w ≡ s) IsComparisonLine read old new (Ok tt)
compared Known s known read old start end new (Ok x) done begins ends it = record {
  rows = it.rows;
  formed = it.formed;
  tells = it.tells;
  written = λ w is.
      let (text, table, sends) = it.written s known in (
        text,
        subst (λ (v : State). IsTable findings_head (IsComparisonLine v) it.rows text) (sym is) table,
        record {
          front = sends.front;
          is_front = sends.is_front;
          whole = sends.whole;
          written = appended_stays old end new sends.front (stays_appended old start end sends.front begins sends.written) ends;
        },
      );
  unwritten = λ bad. absurd cc;
}
compared Known s known read old start end new (Err e) done begins ends it = absurd (false≢true done)
