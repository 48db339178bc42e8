use Rattle.std.proofs.Common.{sym, ap, subst, arith}
use Rattle.sigtext.specs.Counts.{CountsErrors}
use Rattle.wire.specs.declared.counted.Counted.{Counted}
use Rattle.lists.specs.Lists.{by_reader}
use Rattle.lists.proofs.answering.answer_list.Goals as goal

pub returns-clause-reads : goal.returns-clause-reads
returns-clause-reads g c =
    let faults = ap (λ (reader : Counted g.row.R.Denot). reader.faults) c.into_inner.ensures in
    subst (λ n. CountsErrors 0 n (by_reader c.answer_read-end.result)) (sym faults) c.answer_read-end.ensures.reads

pub answer_read-end-requires-clause-reading : goal.answer_read-end-requires-clause-reading
answer_read-end-requires-clause-reading g c = grind arith

pub returns-clause-answers : goal.returns-clause-answers
returns-clause-answers g c = grind arith

pub returns-clause-count : goal.returns-clause-count
returns-clause-count g c = grind arith

pub returns-clause-order : goal.returns-clause-order
returns-clause-order g c = grind arith

pub returns-clause-stays : goal.returns-clause-stays
returns-clause-stays g c = grind arith
