-- Lists in CSV (RFC 4180), read and written with the defaults of the crate `csv`, and how they are answered.
use Rattle.std.specs.Prelude.{◌≡◌, ◌≢◌, ◌⊎◌, true, false, ℕ, ◌+◌, List, [], ◌∷◌, ◌++◌, length, Option, Some, Result, Ok, Err, Vec, ⊤}
use Rattle.std.specs.List.{AllByRecursion}
use Rattle.std.specs.declared.alloc.Global.{Global}
use Rattle.csv.specs.Machine.{next_record, Read as OneRecord}
use Rattle.csv.specs.Reading.{default_config, strip_bom, AreRecords, Reached, Ready, is_flexible, reader_config, reader_state, reader_trim, source_of}
use Rattle.csv.specs.Writing.{default_writer, row_text, fields_written, has_written, text_written, writer_setup}
use Rattle.csv.specs.declared.parser.State.{State as Place}
use Rattle.csv.specs.declared.parser.State.TheVariants.{StartRecord}
use Rattle.csv.specs.declared.reader.Reader.{Reader}
use Rattle.csv.specs.declared.reader.Trim.TheVariants as trim
use Rattle.csv.specs.declared.writer.Writer.{Writer}
use Rattle.boxes.specs.declared.keep.KeepFault.{KeepFault}
use Rattle.wire.specs.Sending.{Sends}
use Rattle.lists.specs.declared.list_fault.ListFault.{ListFault}
use Rattle.lists.specs.declared.list_fault.ListFault.TheVariants as fault

-- ---- what is written

-- the text of a record, with the end of its line
unfoldable pub line : List (List ℕ) → List ℕ
line fields = row_text default_writer fields

-- one text for each item, joined in order
unfoldable pub AreLines : {A : Type 0} → (A → List ℕ → Type 0) → List A → List ℕ → Type 0
AreLines IsLine [] text = text ≡ []
AreLines IsLine (x ∷ xs) text = (first rest : List ℕ) × IsLine x first × AreLines IsLine xs rest × (text ≡ first ++ rest)

-- a head, followed by a line for each item
pub record IsTable {A : Type 0} (head : List (List ℕ)) (IsLine : A → List ℕ → Type 0) (xs : List A) (text : List ℕ) : Type 0 where
  pub lines : List ℕ
  pub are : AreLines IsLine xs lines
  pub is : text ≡ line head ++ lines

-- a writer between two records, with the default settings of `csv`
pub record IsClean {W : Type 0} (w : Writer W) : Type 0 where
  pub fields : fields_written w ≡ 0
  pub wrote : has_written w ≡ false
  pub setup : writer_setup w ≡ default_writer

-- what a writer to memory has written
abbrev pub written_by : Writer (Vec ℕ Global) → Option (List ℕ)
written_by w = text_written (λ v. Some v.items) w

-- ---- what is read: a byte order mark at the front is skipped

-- the records of the text are the head followed by these
abbrev pub IsList : List (List ℕ) → List ℕ → List (List (List ℕ)) → Type 0
IsList head text rows = AreRecords default_config StartRecord (strip_bom text) (head ∷ rows)

-- the first records of the text are the head followed by these
abbrev pub BeginsList : List (List ℕ) → List ℕ → List (List (List ℕ)) → Type 0
BeginsList head text rows = (s : Place) × (rest : List ℕ) × Reached default_config StartRecord (strip_bom text) (head ∷ rows) s rest

-- the text has no record, or its first record is not the head
abbrev pub HasOtherHead : List (List ℕ) → List ℕ → Type 0
HasOtherHead head text = (p : OneRecord) → next_record default_config StartRecord [] [] (strip_bom text) ≡ Some p → p.0 ≢ head

-- the first records are the head, these, and then a malformed one
pub record HasBadRow (head : List (List ℕ)) (Form : List (List ℕ) → Type 0) (text : List ℕ) (rows : List (List (List ℕ))) : Type 0 where
  pub bad : List (List ℕ)
  pub begins : BeginsList head text (rows ++ bad ∷ [])
  pub is_bad : Form bad → ⊥

-- ---- how a list is answered

-- what a result says of the text that was read; rows: the records that were answered
abbrev pub ListTells : {T : Type 0} → List (List ℕ) → (List (List ℕ) → Type 0) → List ℕ → List (List (List ℕ)) → Result T ListFault → Type 0
ListTells head Form text rows (Ok done) = IsList head text rows
ListTells head Form text rows (Err fault.Head) = HasOtherHead head text × (rows ≡ [])
ListTells head Form text rows (Err (fault.Row n)) = HasBadRow head Form text rows × (n ≡ length rows + 1)
ListTells head Form text rows (Err fault.Order) = rows ≡ []
ListTells head Form text rows (Err (fault.Keep f)) = BeginsList head text rows
ListTells head Form text rows (Err fault.Write) = BeginsList head text rows
ListTells head Form text rows (Err _) = BeginsList head text rows ⊎ (rows ≡ [])

-- Whether all answers were written: at a success, and if a record is malformed.
abbrev pub all_sent : {T : Type 0} → Result T ListFault → Result ⊤ ⊤
all_sent (Ok done) = Ok tt
all_sent (Err (fault.Row n)) = Ok tt
all_sent (Err _) = Err tt

-- Well-formed records are answered in order. If the text that was read is known, the result describes it. In
-- each known world a prefix of the table of the answers was written: the whole table at a success or if a
-- record is malformed. Nothing was written if the head is another.
pub record AnswersList {T W : Type 0} (head out_head : List (List ℕ)) (Form : List (List ℕ) → Type 0) (Known : W → Type 0) (IsLine : W → List (List ℕ) → List ℕ → Type 0)
    (read old new : Option (List ℕ)) (result : Result T ListFault) : Type 0 where
  pub rows : List (List (List ℕ))
  pub formed : AllByRecursion Form rows
  pub tells : (text : List ℕ) → read ≡ Some text → ListTells head Form text rows result
  pub written : (w : W) → Known w → (text : List ℕ) × IsTable out_head (IsLine w) rows text × Sends text old new (all_sent result)
  pub unwritten : result ≡ Err fault.Head → new ≡ old

-- ---- a reader that has read some records

-- the reader has the default settings of `csv`, takes records of any length, and takes no record as a head
pub record IsReading {R : Type 0} (r : Reader R) : Type 0 where
  pub ready : Ready r
  pub plain : reader_trim r ≡ trim.None
  pub any_length : is_flexible r ≡ true
  pub config : reader_config r ≡ default_config

-- what a result says of the remaining records; rows: those that were answered
abbrev pub TellsRest : {T : Type 0} → (List (List ℕ) → Type 0) → Place → List ℕ → List (List (List ℕ)) → Result T ListFault → Type 0
TellsRest Form s text rows (Ok done) = AreRecords default_config s text rows
TellsRest Form s text rows (Err (fault.Row n)) = (bad : List (List ℕ)) × (Form bad → ⊥) × (n ≡ length rows + 1)
    × (t : Place) × (rest : List ℕ) × Reached default_config s text (rows ++ bad ∷ []) t rest
TellsRest Form s text rows (Err fault.Head) = ⊥
TellsRest Form s text rows (Err fault.Order) = ⊥
TellsRest Form s text rows (Err _) = (t : Place) × (rest : List ℕ) × Reached default_config s text rows t rest

-- the remaining records are answered, as in `AnswersList` for a whole list
pub record AnswersRest {T W R : Type 0} (Form : List (List ℕ) → Type 0) (Known : W → Type 0) (IsLine : W → List (List ℕ) → List ℕ → Type 0)
    (rem : R → Option (List ℕ)) (reader : Reader R) (old new : Option (List ℕ)) (result : Result T ListFault) : Type 0 where
  pub rows : List (List (List ℕ))
  pub formed : AllByRecursion Form rows
  pub tells : (text : List ℕ) → source_of rem reader ≡ Some text → TellsRest Form (reader_state reader) text rows result
  pub written : (w : W) → Known w → (text : List ℕ) × AreLines (IsLine w) rows text × Sends text old new (all_sent result)

-- ---- who caused the fault

abbrev pub IsOfReading : ListFault → Type 0
IsOfReading fault.Read = ⊤
IsOfReading fault.Memory = ⊤
IsOfReading _ = ⊥

abbrev pub IsOfAnswering : ListFault → Type 0
IsOfAnswering (fault.Keep f) = ⊤
IsOfAnswering fault.Memory = ⊤
IsOfAnswering _ = ⊥

-- a fault of the keeper, of the writer, or of memory
abbrev pub IsOfManifest : ListFault → Type 0
IsOfManifest (fault.Keep f) = ⊤
IsOfManifest fault.Write = ⊤
IsOfManifest fault.Memory = ⊤
IsOfManifest _ = ⊥

abbrev pub IsOfWriting : ListFault → Type 0
IsOfWriting fault.Write = ⊤
IsOfWriting fault.Memory = ⊤
IsOfWriting _ = ⊥

-- the keeper's part of the result
abbrev pub by_keeper : {T : Type 0} → Result T ListFault → Result ⊤ KeepFault
by_keeper (Err (fault.Keep f)) = Err f
by_keeper _ = Ok tt

-- the reader's part of the result
abbrev pub by_reader : {T : Type 0} → Result T ListFault → Result ⊤ ⊤
by_reader (Err fault.Read) = Err tt
by_reader _ = Ok tt

-- the writer's part of the result
abbrev pub by_writer : {T : Type 0} → Result T ListFault → Result ⊤ ⊤
by_writer (Err fault.Write) = Err tt
by_writer _ = Ok tt
