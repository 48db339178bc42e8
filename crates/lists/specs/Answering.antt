-- How an `Answerer` answers a list that comes from a reader that counts its faults.
use Rattle.std.specs.Prelude.{ℕ, List, map, Option, Result}
use Rattle.csv.specs.Reading.{reader_source}
use Rattle.csv.specs.declared.reader.Reader.{Reader}
use Rattle.wire.specs.declared.counted.Counted.{Counted}
use Rattle.lists.specs.Lists.{AnswersList, AnswersRest}
use Rattle.lists.specs.declared.answerer.Answerer.{Ghosts}
use Rattle.lists.specs.declared.answerer.Heads.{Heads}
use Rattle.lists.specs.declared.list_fault.ListFault.{ListFault}

-- what a counted reader has left
abbrev pub left_in : {R : Type 0} → (R → Option (List ℕ)) → Counted R → Option (List ℕ)
left_in remaining counted = remaining counted.inner

-- the number of reads that failed
abbrev pub failed_reads : {R : Type 0} → Reader (Counted R) → ℕ
failed_reads reader = (reader_source reader).faults

abbrev pub head_read : Heads → List (List ℕ)
head_read heads = map (λ f. f.now) heads.read.now

abbrev pub head_written : Heads → List (List ℕ)
head_written heads = map (λ f. f.now) heads.written.now

-- a world that the answerer knew, if everything it was told is honest
abbrev pub Knew : {A : Type 0} (a : Ghosts A) → A → A → a.World → Type 0
Knew a old new w = a.knows old w × a.is_honest new

-- the answerer answers the remaining records like this
abbrev pub AnswersRestBy : {A R : Type 0} → Ghosts A → A → A → (R → Option (List ℕ)) → Reader (Counted R) → Option (List ℕ) → Option (List ℕ)
    → Result (Unit {0}) ListFault → Type 0
AnswersRestBy a before after remaining reader = AnswersRest a.has_form (Knew a before after) (a.is_line before) (left_in remaining) reader

-- the answerer answers the whole list like this
abbrev pub AnswersListBy : {A : Type 0} → Ghosts A → A → A → Heads → Option (List ℕ) → Option (List ℕ) → Option (List ℕ)
    → Result (Unit {0}) ListFault → Type 0
AnswersListBy a before after heads = AnswersList (head_read heads) (head_written heads) a.has_form (Knew a before after) (a.is_line before)
