use Rattle.std.proofs.Common.{◌≡◌, ◌+◌, ◌++◌, ◌-◌, ◌≤◌, pos, get_or, to_z, of_z, w64, length, rules, refl, sym, subst, ◌∙◌, arith}
use Rattle.sqltables.specs.Inside.{seen}
use Rattle.sqlaudit.proofs.PortionRows.{Opens, Portioned, ReadsOn, none_read, read_on, all_read}
use Rattle.sqltables.proofs.Onward.{and_then, failed, gave_up, same_itself, same_then}
use Rattle.sqlaudit.proofs.PortionRows.{portioned_goes}
use Rattle.sqlaudit.proofs.portions.list_portions.Goals as goal

pub loop-at-init : goal.loop-at-init
loop-at-init g c =
    let entry = seen g.T.Ledger.view c.args.tx.now in
    (same_itself, subst (Portioned g.L.Line.reads c.args.sql.now entry entry c.args.numbers.now 0) (sym c.in_ok-lines.ensures.items) (none_read g.L.Line.reads c.args.sql.now entry c.args.numbers.now))

pub loop-at-preserved : goal.loop-at-preserved
loop-at-preserved g c =
    let entry = seen g.T.Ledger.view c.args.tx.now in
    let mid = seen g.T.Ledger.view c.loop-at.tx in
    let now = seen g.T.Ledger.view c.list_between.new.tx in
    let numbers = c.args.numbers.now in
    let at = c.loop-at.at in
    let end = at + c.min.result in
    let more = c.in_ok-more.more.items in
    let first : to_z w64 (of_z w64 (get_or numbers at (pos 0))) ≡ get_or numbers at (pos 0) = search rules in
    let last : to_z w64 (of_z w64 (get_or numbers (end - 1) (pos 0))) ≡ get_or numbers (end - 1) (pos 0) = search rules in
    let next : ReadsOn g.L.Line.reads c.args.sql.now mid now (get_or numbers at (pos 0)) (get_or numbers (end - 1) (pos 0)) more = record {
      read = rw (first, last) at c.in_ok-more.ensures.read;
      running = c.in_ok-more.ensures.rest.running;
      uncommitted = c.list_between.ensures.rest.uncommitted;
      survives = c.list_between.ensures.rest.survives;
    } in
    let items : c.append.new.self.items ≡ c.loop-at.lines.items ++ more = c.in_ok-append.ensures.items in
    let within : end ≤ length numbers = search rules in (
      same_then c.loop-at.invariant.0 c.list_between.ensures.rest.same_reference,
      subst (Portioned g.L.Line.reads c.args.sql.now entry now numbers end) (sym items) (read_on g.L.Line.reads c.args.sql.now entry mid now numbers at end c.loop-at.lines.items more c.loop-at.invariant.1 next within),
    )

pub returns-clause-read : goal.returns-clause-read
returns-clause-read g c v tree test show asks are schema running clean =
    let entry = seen g.T.Ledger.view c.args.tx.now in
    let now = seen g.T.Ledger.view c.loop-at.tx in
    let opens : Opens v c.args.sql.now tree test show entry = record { asks = asks; schema = schema; running = running } in
    all_read g.L.Line.reads c.args.sql.now entry now c.args.numbers.now c.loop-at.at c.loop-at.lines.items c.loop-at.invariant.1 c.loop-at-test.false v tree test show opens clean are

pub returns-clause-same : goal.returns-clause-same
returns-clause-same g c v tree test show asks schema running clean =
    let entry = seen g.T.Ledger.view c.args.tx.now in
    let opens : Opens v c.args.sql.now tree test show entry = record { asks = asks; schema = schema; running = running } in
    c.loop-at.invariant.1.same v tree test show opens clean

pub returns-in_err-lines-clause-rest : goal.returns-in_err-lines-clause-rest
returns-in_err-lines-clause-rest g c = gave_up c.args.tx.now c.from_residual.result c.from_residual.ensures.0

pub returns-in_err-more-clause-rest : goal.returns-in_err-more-clause-rest
returns-in_err-more-clause-rest g c =
    and_then (λ running. running) (λ running. (running.0, running.0)) (portioned_goes c.loop-at.invariant.0 c.loop-at.invariant.1 c.loop-at.at) (failed c.from_residual-in_err-more.result c.list_between.ensures.rest c.from_residual-in_err-more.ensures.0)

pub returns-in_err-append-clause-rest : goal.returns-in_err-append-clause-rest
returns-in_err-append-clause-rest g c =
    failed c.from_residual-in_err-append.result (and_then (λ running. running) (λ running. (running.0, running.0)) (portioned_goes c.loop-at.invariant.0 c.loop-at.invariant.1 c.loop-at.at) c.in_ok-more.ensures.rest) c.from_residual-in_err-append.ensures.0

pub returns-clause-rest : goal.returns-clause-rest
returns-clause-rest g c = portioned_goes c.loop-at.invariant.0 c.loop-at.invariant.1 _

pub bounds-numbers-at : goal.bounds-numbers-at
bounds-numbers-at g c = grind arith

pub bounds-numbers-end : goal.bounds-numbers-end
bounds-numbers-end g c = grind arith

pub loop-at-smaller : goal.loop-at-smaller
loop-at-smaller g c = grind arith

pub offset_bounds-numbers-at : goal.offset_bounds-numbers-at
offset_bounds-numbers-at g c = grind arith

pub offset_bounds-numbers-end : goal.offset_bounds-numbers-end
offset_bounds-numbers-end g c = grind arith

pub overflow_add-end : goal.overflow_add-end
overflow_add-end g c = grind arith

pub overflow_sub-end : goal.overflow_sub-end
overflow_sub-end g c = grind arith

pub overflow_sub-numbers : goal.overflow_sub-numbers
overflow_sub-numbers g c = grind arith

pub returns-in_err-lines-clause-read : goal.returns-in_err-lines-clause-read
returns-in_err-lines-clause-read g c = grind arith

pub returns-in_err-lines-clause-same : goal.returns-in_err-lines-clause-same
returns-in_err-lines-clause-same g c = grind arith
