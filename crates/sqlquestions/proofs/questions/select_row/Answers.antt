use Rattle.std.proofs.Common.{◌≡◌, ◌+◌, arith, sym, subst, vec_len, MatchOption}
use Rattle.sqltables.specs.Inside.{seen}
use Rattle.sqlite_rules.specs.Lists.{Has}
use Rattle.sqlite.specs.State.{HasCleanDisk}
use Rattle.sqltables.proofs.Asked.{no_items, last_has, still_pends}
use Rattle.sqlquestions.proofs.questions.select_row.Goals as goal

pub returns-clause-shown : goal.returns-clause-shown
returns-clause-shown g c clean = let rows = c.in_ok-rows.rows in record {
  rows = c.in_ok-rows.rows.items;
  shown = c.in_ok-rows.ensures.ok clean;
  some = λ r is. subst (λ l. Has l r) (sym c.pop.ensures.items) (last_has c.pop.new.self.items c.pop.result r is);
  none = λ is. let none = subst (λ o. MatchOption o ((vec_len rows ≡ 0) × (vec_len c.pop.new.self ≡ 0)) (λ x. vec_len c.pop.new.self + 1 ≡ vec_len rows)) is c.pop.ensures.cases in no_items rows.items (omega (arith, none.0, rows.ok));
}

pub returns-clause-still : goal.returns-clause-still
returns-clause-still g c v tables plain pends clean inside is_open =
    let old = seen g.T.Ledger.view c.args.tx.now in
    let new = seen g.T.Ledger.view c.query.new.self in
    let early : HasCleanDisk old = omega (arith, c.query.ensures.rest.survives.clean) in
    still_pends v tables c.args.sql.now _ old new c.in_ok-rows.rows.items plain early pends (c.in_ok-rows.ensures.ok clean) inside

pub returns-clause-rest : goal.returns-clause-rest
returns-clause-rest g c = grind arith

pub returns-in_err-rows-clause-rest : goal.returns-in_err-rows-clause-rest
returns-in_err-rows-clause-rest g c = grind arith

pub returns-in_err-rows-clause-shown : goal.returns-in_err-rows-clause-shown
returns-in_err-rows-clause-shown g c = grind arith
