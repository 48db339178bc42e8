use Rattle.std.proofs.Common.{rules, arith, ◌≡◌, ◌∙◌, ℕ, Option, [], ◌∷◌, ◌++◌, true, Err, refl, subst, length-append}
use Rattle.std.specs.Prelude.{Vec}
use Rattle.std.specs.declared.alloc.Global.{Global}
use Rattle.std.proofs.lemmas.Result.{err_from_is_err_and}
use Rattle.csv.specs.Reading.{Reached, default_config}
use Rattle.csv.specs.Records.{fields_of}
use Rattle.csv.proofs.ReadFacts.{rows-more}
use Rattle.wire.proofs.Written.{sends_both, sends_same}
use Rattle.lists.specs.Answering.{left_in}
use Rattle.lists.specs.Lists.{by_keeper}
use Rattle.lists.proofs.AnsweredLists.{all_push, lines_none, lines_push, of_answering_tells, same_keeper, sends_err, sends_nothing, sends_then, sends_whole}
use Rattle.lists.proofs.answering.answer_records.Goals as goal

pub records-init : goal.records-init
unfolding Reached
records-init g c = record {
  reading = c.requires.reading;
  sound = c.requires.sound;
  stays = g.met.A.Answerer.unasked _;
  count = refl;
  answered = ([], refl, tt, λ text known. (text, known, (refl, refl)), λ w k h. ([], lines_none _, sends_nothing _));
}

pub returns-in_default-clause-answers : goal.returns-in_default-clause-answers
returns-in_default-clause-answers g c =
    let rem = left_in g.R.Read.remaining in
    let (rows, count, formed, told, written) = c.records.invariant.answered in
    let found : c.in_ok-next_record.field-0 ≡ true = search rules in
    let read = rw found at c.in_ok-next_record.ensures.record in
    let bad = fields_of c.next_record.new.row in
    record {
      rows = rows;
      formed = formed;
      tells = λ text known.
          let (rest, source, reached) = told text known in
          let (after, at_after, more) = rows-more rem c.records.reader c.next_record.new.reader bad default_config c.args.reader.now.state text rest rows c.records.invariant.reading.config source reached read in
          (bad, (rw c.in_default.is at c.in_ok-text.ensures.none), omega (arith, count), c.next_record.new.reader.state, after, more);
      written = λ w k.
          let (text, lines, sent) = written w k.0 (g.met.A.Answerer.honest _ _ _ c.answer.ensures.stays k.1) in
          (text, lines, sends_whole tt _ sent);
    }

pub returns-in_err-text-clause-answers : goal.returns-in_err-text-clause-answers
returns-in_err-text-clause-answers g c =
    let told_err = err_from_is_err_and c.from_residual-in_err-text.result c.from_residual-in_err-text.ensures.1 in
    let (rows, count, formed, told, written) = c.records.invariant.answered in
    rw told_err.1 (record {
      rows = rows;
      formed = formed;
      tells = λ text known.
          let (rest, source, reached) = told text known in
          rw told_err.2 (of_answering_tells (Unit {0}) _ _ _ text rest rows c.in_err-text.field-0.0 c.in_err-text.ensures.fault reached);
      written = λ w k.
          let (text, lines, sent) = written w k.0 (g.met.A.Answerer.honest _ _ _ c.answer.ensures.stays k.1) in
          (text, lines, sends_whole tt _ sent);
    })

pub returns-in_err-text-clause-stays : goal.returns-in_err-text-clause-stays
returns-in_err-text-clause-stays g c =
    let told = err_from_is_err_and c.from_residual-in_err-text.result c.from_residual-in_err-text.ensures.1 in
    let here = subst (λ r. g.A.Answerer.stays c.records.answerer c.answer.new.self (by_keeper r)) c.in_err-text.was c.answer.ensures.stays in
    rw told.1 (rw told.2 (subst (g.A.Answerer.stays _ _) (same_keeper (Option (Vec ℕ Global)) (Unit {0}) c.in_err-text.field-0.0) (g.met.A.Answerer.joins _ _ _ _ c.records.invariant.stays here)))

pub returns-in_err-send_text-clause-answers : goal.returns-in_err-send_text-clause-answers
returns-in_err-send_text-clause-answers g c =
    let rem = left_in g.R.Read.remaining in
    let told_err = err_from_is_err_and c.from_residual-in_err-send_text.result c.from_residual-in_err-send_text.ensures.1 in
    let (rows, count, formed, told, written) = c.records.invariant.answered in
    let found : c.in_ok-next_record.field-0 ≡ true = search rules in
    let read = rw found at c.in_ok-next_record.ensures.record in
    let row = fields_of c.next_record.new.row in
    rw told_err.1 (record {
      rows = rows ++ row ∷ [];
      formed = all_push _ rows row formed (rw c.in-Some.is at c.in_ok-text.ensures.some);
      tells = λ text known.
          let (rest, source, reached) = told text known in
          let (after, at_after, more) = rows-more rem c.records.reader c.next_record.new.reader row default_config c.args.reader.now.state text rest rows c.records.invariant.reading.config source reached read in
          rw (told_err.2 ∙ c.in_err-send_text.ensures.fault) (c.next_record.new.reader.state, after, more);
      written = λ w k.
          let still = g.met.A.Answerer.honest _ _ _ c.answer.ensures.stays k.1 in
          let (text, lines, sent) = written w k.0 still in
          let known_now = g.met.A.Answerer.same _ _ w _ c.records.invariant.stays k.0 in
          let line = rw c.in-Some.is at c.in_ok-text.ensures.line w known_now k.1 in
          let one = g.met.A.Answerer.steady _ _ _ w _ _ c.records.invariant.stays line in
          let rest = sends_same c.deref.ensures.value (sends_err c.in_err-send_text.field-0.0 tt c.in_err-send_text.ensures.sent) in
          (text ++ c.in-Some.text.items, lines_push _ rows text row c.in-Some.text.items lines one, rw (told_err.2 ∙ c.in_err-send_text.ensures.fault) (sends_then text c.in-Some.text.items _ _ _ tt (Err tt) sent rest));
    })

pub records-preserved : goal.records-preserved
records-preserved g c =
    let rem = left_in g.R.Read.remaining in
    let (rows, count, formed, told, written) = c.records.invariant.answered in
    let found : c.in_ok-next_record.field-0 ≡ true = search rules in
    let read = rw found at c.in_ok-next_record.ensures.record in
    let row = fields_of c.next_record.new.row in
    record {
      reading = c.in_ok-next_record.ensures.goes_on;
      sound = c.in_ok-next_record.ensures.reads.ok;
      stays = g.met.A.Answerer.joins _ _ _ _ c.records.invariant.stays (subst (λ r. g.A.Answerer.stays c.records.answerer c.answer.new.self (by_keeper r)) c.in_ok-text.was c.answer.ensures.stays);
      count = c.in_ok-send_text.ensures.count.ok ∙ c.records.invariant.count;
      answered = (
        rows ++ row ∷ [],
        omega (arith, count, length-append rows (row ∷ [])),
        all_push _ rows row formed (rw c.in-Some.is at c.in_ok-text.ensures.some),
        λ text known.
            let (rest, source, reached) = told text known in
            rows-more rem c.records.reader c.next_record.new.reader row default_config c.args.reader.now.state text rest rows c.records.invariant.reading.config source reached read,
        λ w k h.
            let still = g.met.A.Answerer.honest _ _ _ c.answer.ensures.stays h in
            let (text, lines, sent) = written w k still in
            let known_now = g.met.A.Answerer.same _ _ w _ c.records.invariant.stays k in
            let line = rw c.in-Some.is at c.in_ok-text.ensures.line w known_now h in
            let one = g.met.A.Answerer.steady _ _ _ w _ _ c.records.invariant.stays line in (
              text ++ c.in-Some.text.items,
              lines_push _ rows text row c.in-Some.text.items lines one,
              sends_both text c.in-Some.text.items _ _ _ tt _ sent (sends_same c.deref.ensures.value c.in_ok-send_text.ensures.sent),
            ),
      );
    }

pub returns-in_default-clause-stays : goal.returns-in_default-clause-stays
returns-in_default-clause-stays g c = g.met.A.Answerer.joins _ _ _ _ c.records.invariant.stays (subst (λ r. g.A.Answerer.stays c.records.answerer c.answer.new.self (by_keeper r)) c.in_ok-text.was c.answer.ensures.stays)

pub returns-in_default-clause-reads : goal.returns-in_default-clause-reads
returns-in_default-clause-reads g c = record { err = tt; ok = c.in_ok-next_record.ensures.reads.ok }

pub returns-in_default-clause-count : goal.returns-in_default-clause-count
returns-in_default-clause-count g c = record { err = tt; ok = c.records.invariant.count }

pub returns-in_err-send_text-clause-stays : goal.returns-in_err-send_text-clause-stays
returns-in_err-send_text-clause-stays g c =
    let told = err_from_is_err_and c.from_residual-in_err-send_text.result c.from_residual-in_err-send_text.ensures.1 in
    rw told.1 (rw (told.2 ∙ c.in_err-send_text.ensures.fault) (g.met.A.Answerer.joins _ _ _ _ c.records.invariant.stays (subst (λ r. g.A.Answerer.stays c.records.answerer c.answer.new.self (by_keeper r)) c.in_ok-text.was c.answer.ensures.stays)))

pub returns-in_err-send_text-clause-reads : goal.returns-in_err-send_text-clause-reads
returns-in_err-send_text-clause-reads g c =
    let told = err_from_is_err_and c.from_residual-in_err-send_text.result c.from_residual-in_err-send_text.ensures.1 in
    rw told.1 (rw (told.2 ∙ c.in_err-send_text.ensures.fault) (record { err = tt; ok = c.in_ok-next_record.ensures.reads.ok }))

pub returns-in_err-send_text-clause-count : goal.returns-in_err-send_text-clause-count
returns-in_err-send_text-clause-count g c =
    let told = err_from_is_err_and c.from_residual-in_err-send_text.result c.from_residual-in_err-send_text.ensures.1 in
    rw told.1 (rw told.2 (rw c.records.invariant.count at c.in_err-send_text.ensures.count))

pub returns-clause-stays : goal.returns-clause-stays
returns-clause-stays g c = c.records.invariant.stays

pub returns-clause-reads : goal.returns-clause-reads
returns-clause-reads g c = record { err = tt; ok = c.records.invariant.sound }

pub returns-clause-count : goal.returns-clause-count
returns-clause-count g c = record { err = tt; ok = c.records.invariant.count }

pub returns-clause-answers : goal.returns-clause-answers
returns-clause-answers g c = grind arith

pub returns-in_default-clause-head : goal.returns-in_default-clause-head
returns-in_default-clause-head g c = grind arith

pub returns-in_default-clause-order : goal.returns-in_default-clause-order
returns-in_default-clause-order g c = grind arith

pub returns-in_err-next_record-clause-head : goal.returns-in_err-next_record-clause-head
returns-in_err-next_record-clause-head g c = grind arith

pub returns-in_err-next_record-clause-order : goal.returns-in_err-next_record-clause-order
returns-in_err-next_record-clause-order g c = grind arith

pub returns-in_err-next_record-clause-stays : goal.returns-in_err-next_record-clause-stays
returns-in_err-next_record-clause-stays g c = grind arith

pub returns-in_err-send_text-clause-head : goal.returns-in_err-send_text-clause-head
returns-in_err-send_text-clause-head g c = grind arith

pub returns-in_err-send_text-clause-order : goal.returns-in_err-send_text-clause-order
returns-in_err-send_text-clause-order g c = grind arith

pub returns-in_err-text-clause-head : goal.returns-in_err-text-clause-head
returns-in_err-text-clause-head g c = grind arith

pub returns-in_err-text-clause-order : goal.returns-in_err-text-clause-order
returns-in_err-text-clause-order g c = grind arith

pub returns-then-not-branch-clause-answers : goal.returns-then-not-branch-clause-answers
returns-then-not-branch-clause-answers g c = grind arith

pub returns-then-not-branch-clause-count : goal.returns-then-not-branch-clause-count
returns-then-not-branch-clause-count g c = grind arith

pub returns-then-not-branch-clause-head : goal.returns-then-not-branch-clause-head
returns-then-not-branch-clause-head g c = grind arith

pub returns-then-not-branch-clause-order : goal.returns-then-not-branch-clause-order
returns-then-not-branch-clause-order g c = grind arith

pub returns-then-not-branch-clause-reads : goal.returns-then-not-branch-clause-reads
returns-then-not-branch-clause-reads g c = grind arith

pub returns-then-not-branch-clause-stays : goal.returns-then-not-branch-clause-stays
returns-then-not-branch-clause-stays g c = grind arith
