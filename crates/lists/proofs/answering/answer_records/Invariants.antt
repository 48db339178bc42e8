use Rattle.std.proofs.Common.{◌≡◌, ℕ, List, Ok, Some, length}
use Rattle.std.specs.List.{AllByRecursion}
use Rattle.csv.specs.Reading.{Reached, default_config, source_of}
use Rattle.wire.specs.Sending.{Sends}
use Rattle.lists.specs.declared.list_fault.ListFault.{ListFault}
use Rattle.lists.specs.Answering.{failed_reads, left_in}
use Rattle.lists.specs.Lists.{AreLines, IsReading}
use Rattle.lists.proofs.answering.answer_records.Given as goal

abbrev pub invariant-records : goal.invariant-records
invariant-records g l = record {
  reading : IsReading l.reader;
  sound : failed_reads l.reader ≡ 0;
  stays : g.A.Answerer.stays l.fn.answerer l.answerer (Ok tt);
  count : l.out.faults ≡ l.fn.out.faults;
  answered : (rows : List (List (List ℕ))) × (length rows ≡ l.i) × AllByRecursion g.A.Answerer.has_form rows
      × ((text : List ℕ) → source_of (left_in g.R.Read.remaining) l.fn.reader ≡ Some text → (rest : List ℕ) × (source_of (left_in g.R.Read.remaining) l.reader ≡ Some rest)
      × Reached default_config l.fn.reader.state text rows l.reader.state rest)
      × ((w : g.A.Answerer.World) → g.A.Answerer.knows l.fn.answerer w → g.A.Answerer.is_honest l.answerer
      → (text : List ℕ) × AreLines (g.A.Answerer.is_line l.fn.answerer w) rows text × Sends {T = Unit {0}} {E = ListFault} text (g.W.Write.contents l.fn.out.inner) (g.W.Write.contents l.out.inner) (Ok tt));
}
