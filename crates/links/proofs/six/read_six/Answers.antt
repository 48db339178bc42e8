use Rattle.std.proofs.Common.{sym, ◌∙◌, arith}
use Rattle.sigtext.proofs.NamedParams.{stand_once}
use Rattle.links.proofs.Texts.{not_false}
use Rattle.links.proofs.SixLemmas.{six_there}
use Rattle.links.proofs.six.read_six.Goals as goal

pub returns-in-Ok-clause-ok : goal.returns-in-Ok-clause-ok
returns-in-Ok-clause-ok c path params spelled =
    let holds = c.in_ok-params.ensures.ok path params spelled in
    let raw = c.in-Some.ensures.some params holds in
    record {
      signed = sym (c.amz_names-names.ensures.signing path params spelled) ∙ not_false _ (sym c.if-not-names.false);
      are_six = record {
        once = stand_once c.in_ok-params.params params holds;
        there = six_there c.in-Some.raw params raw;
        no_other = sym (c.amz_names-names.ensures.other path params spelled) ∙ c.if-names.false;
      };
      holds = holds;
      values = c.in-Ok.ensures params raw;
    }

pub returns-clause-err : goal.returns-clause-err
returns-clause-err c = grind arith

pub returns-clause-named : goal.returns-clause-named
returns-clause-named c = grind arith

pub returns-in_default-clause-err : goal.returns-in_default-clause-err
returns-in_default-clause-err c = grind arith

pub returns-then-names-clause-err : goal.returns-then-names-clause-err
returns-then-names-clause-err c = grind arith

pub returns-then-not-names-clause-err : goal.returns-then-not-names-clause-err
returns-then-not-names-clause-err c = grind arith
