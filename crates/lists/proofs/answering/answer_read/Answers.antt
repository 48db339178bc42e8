use Rattle.std.proofs.Common.{◌≡◌, ◌∙◌, ◌∷◌, ◌++◌, [], Option, Some, None, true, false, map, sym, ap, subst, refl, arith}
use Rattle.std.specs.Prelude.{option_map}
use Rattle.std.proofs.lemmas.Result.{err_from_is_err_and}
use Rattle.csv.specs.Machine.{next_record, Read as OneRecord}
use Rattle.csv.specs.Reading.{Reached, default_config, strip_bom}
use Rattle.csv.specs.Records.{fields_of}
use Rattle.csv.specs.declared.parser.State.TheVariants.{StartRecord}
use Rattle.csv.proofs.ReadFacts.{rows-end, rows-more}
use Rattle.lists.specs.Answering.{left_in}
use Rattle.sigtext.specs.Counts.{CountsErrors}
use Rattle.lists.specs.Lists.{by_writer, line}
use Rattle.lists.proofs.AnsweredLists.{behind_tells, first_record, none_table, of_reading_broke, of_reading_tells, of_writing_broke, of_writing_headed, of_writing_tells, reached_none, sends_err, sends_then, unanswered}
use Rattle.lists.proofs.answering.answer_read.Goals as goal

pub returns-in_err-next_record-clause-answers : goal.returns-in_err-next_record-clause-answers
returns-in_err-next_record-clause-answers g c =
    let told = err_from_is_err_and c.from_residual.result c.from_residual.ensures.1 in
    λ read source. rw told.1 (unanswered _ _ _ _ _ read _ told.0 (rw told.2 (of_reading_broke (Unit {0}) c.in_err-next_record.field-0.0 c.in_err-next_record.ensures.fault)) (λ text known. rw told.2 (of_reading_tells (Unit {0}) _ _ text c.in_err-next_record.field-0.0 c.in_err-next_record.ensures.fault)))

pub returns-then-not-branch-clause-answers : goal.returns-then-not-branch-clause-answers
returns-then-not-branch-clause-answers g c =
    let read_none = rw c.if-not-branch.true at c.in_ok-next_record.ensures.record in
    λ read source. unanswered _ _ _ _ _ read _ _ refl (λ text known.
    let at = source ∙ ap (option_map strip_bom) known in
    let none = rows-end (left_in g.R.Read.remaining) c.args.reader.now c.next_record.new.reader _ default_config (strip_bom text) c.requires.reading.config at read_none in
    let none_there = subst (λ s. next_record default_config s [] [] (strip_bom text) ≡ None) c.requires.begins none in
    (λ p is. absurd (no_some p (sym none_there ∙ is)), refl))
  where
    no_some : (p : OneRecord) → ◌≡◌ {A = Option OneRecord} None (Some p) → ⊥
    no_some p e = cc

pub returns-then-not-is_record-clause-answers : goal.returns-then-not-is_record-clause-answers
returns-then-not-is_record-clause-answers g c =
    let read_one = rw c.if-not-branch.false at c.in_ok-next_record.ensures.record in
    let fields = fields_of c.next_record.new.row in
    λ read source. unanswered _ _ _ _ _ read _ _ refl (λ text known.
    let at = source ∙ ap (option_map strip_bom) known in
    let (after, at_after, more) = rows-more (left_in g.R.Read.remaining) c.args.reader.now c.next_record.new.reader fields default_config StartRecord (strip_bom text) (strip_bom text) [] c.requires.reading.config at (reached_none StartRecord c.args.reader.now.state (strip_bom text) (sym c.requires.begins)) read_one in
    (λ p is same. not_head (sym (first_record StartRecord c.next_record.new.reader.state (strip_bom text) after fields p more is) ∙ same), refl))
  where
    not_head : fields_of c.next_record.new.row ≡ map (λ f. f.now) c.args.heads.read.now → ⊥
    not_head same = no_truth (c.if-not-is_record.ensures.1 same)
      where
        no_truth : false ≡ true → ⊥
        no_truth e = cc

pub returns-in_err-send_line-clause-answers : goal.returns-in_err-send_line-clause-answers
returns-in_err-send_line-clause-answers g c =
    let told = err_from_is_err_and c.from_residual-in_err-send_line.result c.from_residual-in_err-send_line.ensures.1 in
    let read_one = rw c.if-not-branch.false at c.in_ok-next_record.ensures.record in
    let fields = fields_of c.next_record.new.row in
    let is_head = c.if-not-is_record.ensures.0 refl in
    λ read source. rw told.1 (record {
      rows = [];
      formed = tt;
      tells = λ text known.
          let at = source ∙ ap (option_map strip_bom) known in
          let (after, at_after, more) = rows-more (left_in g.R.Read.remaining) c.args.reader.now c.next_record.new.reader fields default_config StartRecord (strip_bom text) (strip_bom text) [] c.requires.reading.config at (reached_none StartRecord c.args.reader.now.state (strip_bom text) (sym c.requires.begins)) read_one in
          let headed = subst (λ f. Reached default_config StartRecord (strip_bom text) (f ∷ []) c.next_record.new.reader.state after) is_head more in
          rw told.2 (of_writing_tells (Unit {0}) _ _ text c.in_err-send_line.field-0.0 c.in_err-send_line.ensures.fault (c.next_record.new.reader.state, after, headed));
      written = λ w k. (
        line (map (λ f. f.now) c.args.heads.written.now),
        none_table _ _,
        rw (told.2) (rw (of_writing_broke (Unit {0}) c.in_err-send_line.field-0.0 c.in_err-send_line.ensures.fault) (sends_err c.in_err-send_line.field-0.0 tt c.in_err-send_line.ensures.sent)),
      );
      unwritten = of_writing_headed told.0 (rw told.2 c.in_err-send_line.ensures.fault);
    })

pub returns-clause-answers : goal.returns-clause-answers
returns-clause-answers g c =
    let read_one = rw c.if-not-branch.false at c.in_ok-next_record.ensures.record in
    let fields = fields_of c.next_record.new.row in
    let is_head = c.if-not-is_record.ensures.0 refl in
    let rest = c.answer_records.ensures.answers in
    λ read source. record {
      rows = rest.rows;
      formed = rest.formed;
      tells = λ text known.
          let at = source ∙ ap (option_map strip_bom) known in
          let (after, at_after, more) = rows-more (left_in g.R.Read.remaining) c.args.reader.now c.next_record.new.reader fields default_config StartRecord (strip_bom text) (strip_bom text) [] c.requires.reading.config at (reached_none StartRecord c.args.reader.now.state (strip_bom text) (sym c.requires.begins)) read_one in
          let headed = subst (λ f. Reached default_config StartRecord (strip_bom text) (f ∷ []) c.next_record.new.reader.state after) is_head more in
          behind_tells _ _ text c.next_record.new.reader.state after rest.rows c.answer_records.result headed (rest.tells after at_after);
      written = λ w k.
          let (text, lines, sent) = rest.written w k in
          (line (map (λ f. f.now) c.args.heads.written.now) ++ text, record { lines = text; are = lines; is = refl }, sends_then _ text _ _ _ tt _ c.in_ok-send_line.ensures.sent sent);
      unwritten = λ is. absurd (c.answer_records.ensures.head is);
    }

pub returns-then-not-branch-clause-stays : goal.returns-then-not-branch-clause-stays
returns-then-not-branch-clause-stays g c = g.met.A.Answerer.unasked _

pub returns-then-not-is_record-clause-stays : goal.returns-then-not-is_record-clause-stays
returns-then-not-is_record-clause-stays g c = g.met.A.Answerer.unasked _

pub returns-clause-stays : goal.returns-clause-stays
returns-clause-stays g c = c.answer_records.ensures.stays

pub returns-clause-reads : goal.returns-clause-reads
returns-clause-reads g c = c.answer_records.ensures.reads

pub returns-clause-order : goal.returns-clause-order
returns-clause-order g c = c.answer_records.ensures.order

pub returns-clause-count : goal.returns-clause-count
returns-clause-count g c = subst (λ n. CountsErrors n c.answer_records.new.out.faults (by_writer c.answer_records.result)) c.in_ok-send_line.ensures.count.ok c.answer_records.ensures.count

pub answer_records-requires-clause-sound : goal.answer_records-requires-clause-sound
answer_records-requires-clause-sound g c = grind arith

pub returns-in_err-send_line-clause-order : goal.returns-in_err-send_line-clause-order
returns-in_err-send_line-clause-order g c = grind arith

pub returns-in_err-send_line-clause-stays : goal.returns-in_err-send_line-clause-stays
returns-in_err-send_line-clause-stays g c = grind arith

pub returns-then-not-branch-clause-order : goal.returns-then-not-branch-clause-order
returns-then-not-branch-clause-order g c = grind arith

pub returns-then-not-is_record-clause-order : goal.returns-then-not-is_record-clause-order
returns-then-not-is_record-clause-order g c = grind arith
