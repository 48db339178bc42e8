use Rattle.std.proofs.Common.{◌≡◌, refl, sym, subst}
use Rattle.sqlite.specs.Held.{state}
use Rattle.sqlkeeper.specs.Grouping.{AsksIn, IsGrouped, MeansIn}
use Rattle.sqlkeeper.proofs.GroupAsked.{asks_inside, asks_own, founds, grouped_on, grouped_own, not_begun}
use Rattle.sqlkeeper.proofs.asking.ask_in.Goals as goal

pub returns-in-Alone : goal.returns-in-Alone
returns-in-Alone g c =
    let old = state g.S.Store c.args.conn.now in
    let new = state g.S.Store c.ask.new.conn in
    let not = not_begun c.args.group c.in-Alone.is in
    record {
      found = founds c.args.group old new c.ask.result (g.Q.Question.says c.args.question.now) (λ _. c.ask.ensures.found) (λ is. absurd (not is));
      rest = asks_own old new c.ask.result c.ask.ensures.rest c.args.group not;
      grouped = λ first. grouped_own old new c.ask.result c.ask.ensures.rest c.args.group not (state g.S.Store first);
    }

pub returns-in-Begun-clause-rest : goal.returns-in-Begun-clause-rest
returns-in-Begun-clause-rest g c =
    let old = state g.S.Store c.args.conn.now in
    let new = state g.S.Store c.ask_in_group.new.conn in
    subst (λ x. AsksIn x old new c.ask_in_group.result) (sym c.in-Begun.is) (asks_inside old new c.ask_in_group.result c.ask_in_group.ensures.rest c.ask_in_group.ensures.still)

pub returns-in-Begun-clause-grouped : goal.returns-in-Begun-clause-grouped
returns-in-Begun-clause-grouped g c first it =
    let old = state g.S.Store c.args.conn.now in
    let new = state g.S.Store c.ask_in_group.new.conn in
    subst (λ x. IsGrouped (state g.S.Store first) x new) (sym c.in-Begun.is)
    (grouped_on (state g.S.Store first) old new c.ask_in_group.result c.ask_in_group.ensures.rest (subst (λ x. IsGrouped (state g.S.Store first) x old) c.in-Begun.is it))
