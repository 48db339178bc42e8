use Rattle.std.proofs.Common.{arith, sym, subst, ◌∙◌}
use Rattle.sqltables.specs.Inside.{seen}
use Rattle.sqlite.specs.Effect.{Database}
use Rattle.sqlite.specs.State.{HasCleanDisk}
use Rattle.sqltables.specs.Schema.{v2}
use Rattle.sqltables.proofs.Ours.{versions_differ}
use Rattle.sqlaudit.specs.Lines.{AreLines, HaveRowids, IsLimitLine}
use Rattle.sqlaudit.proofs.StillReads.{begins, goes_on}
use Rattle.sqlaudit.proofs.WholeTables.{lists_rules, lists_limits}
use Rattle.sqltables.proofs.Onward.{begun_then, failed, succeeded}
use Rattle.sqlaudit.proofs.listing.list_second.Goals as goal

pub returns-clause-listed : goal.returns-clause-listed
returns-clause-listed g c has inside clean =
    let entry = seen g.T.Ledger.view c.args.tx.now in
    let at_rules = seen g.T.Ledger.view c.list.new.tx in
    let at_limits = seen g.T.Ledger.view c.list-2.new.tx in
    let clean_limits : HasCleanDisk at_limits = clean in
    let clean_rules : HasCleanDisk at_rules = omega (arith, clean_limits, c.list-2.ensures.rest.survives.clean) in
    let s0 = begins v2 entry has inside in
    let rules = lists_rules entry at_rules s0.schema c.in_ok-list.field-0.items (c.in_ok-list.ensures.read clean_rules) in
    let s1 = goes_on v2 entry entry at_rules s0 rules.same (c.in_ok-list.ensures.rest.running clean_rules s0.inside) (c.list.ensures.rest.uncommitted clean_rules s0.inside) in
    let limits = lists_limits at_rules at_limits s1.schema c.in_ok-list-2.field-0.items (c.in_ok-list-2.ensures.read clean_limits) in
    record {
      unlimited = λ first. absurd (versions_differ (sym first));
      rules = λ second. (rules.lines_are, rules.rowids);
      limits = λ second. (
        subst (λ (d : Database). AreLines IsLimitLine (d.trees 12) c.in_ok-list-2.field-0.items) s1.same limits.lines_are,
        subst (λ (d : Database). HaveRowids (d.trees 12)) s1.same limits.rowids,
      );
    }

pub returns-clause-same : goal.returns-clause-same
returns-clause-same g c has inside clean =
    let entry = seen g.T.Ledger.view c.args.tx.now in
    let at_rules = seen g.T.Ledger.view c.list.new.tx in
    let at_limits = seen g.T.Ledger.view c.list-2.new.tx in
    let clean_limits : HasCleanDisk at_limits = clean in
    let clean_rules : HasCleanDisk at_rules = omega (arith, clean_limits, c.list-2.ensures.rest.survives.clean) in
    let s0 = begins v2 entry has inside in
    let rules = lists_rules entry at_rules s0.schema c.in_ok-list.field-0.items (c.in_ok-list.ensures.read clean_rules) in
    let s1 = goes_on v2 entry entry at_rules s0 rules.same (c.in_ok-list.ensures.rest.running clean_rules s0.inside) (c.list.ensures.rest.uncommitted clean_rules s0.inside) in
    (lists_limits at_rules at_limits s1.schema c.in_ok-list-2.field-0.items (c.in_ok-list-2.ensures.read clean_limits)).same ∙ s1.same

pub returns-in_err-list-clause-rest : goal.returns-in_err-list-clause-rest
returns-in_err-list-clause-rest g c = failed c.from_residual.result c.list.ensures.rest c.from_residual.ensures.0

pub returns-in_err-list-2-clause-rest : goal.returns-in_err-list-2-clause-rest
returns-in_err-list-2-clause-rest g c = begun_then c.in_ok-list.ensures.rest (failed c.from_residual-in_err-list-2.result c.list-2.ensures.rest c.from_residual-in_err-list-2.ensures.0)

pub returns-clause-rest : goal.returns-clause-rest
returns-clause-rest g c = begun_then c.in_ok-list.ensures.rest (succeeded _ c.in_ok-list-2.ensures.rest)
