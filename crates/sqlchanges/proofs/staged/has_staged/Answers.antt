use Rattle.std.proofs.Common.{◌≡◌, [], length, arith, rules, sym, ap, ◌∙◌}
use Rattle.std.specs.Bool.{◌==◌}
use Rattle.std.specs.Prelude.{vec_len}
use Rattle.std.proofs.lemmas.Bool.{eqb-true}
use Rattle.sqltables.specs.Inside.{seen}
use Rattle.sqlite.specs.State.{HasCleanDisk}
use Rattle.sqltables.specs.Schema.{v2}
use Rattle.sqltables.specs.Tables.{NoneStaged}
use Rattle.sqltables.proofs.AddedTexts.{any_staged, any_staged_command, any_staged_is}
use Rattle.sqltables.proofs.Shown.{shown_open, shown_unchanged}
use Rattle.sqltables.proofs.Asked.{still_pends}
use Rattle.sqlchanges.proofs.StagedRows.{any_shown, none_told}
use Rattle.sqlchanges.proofs.staged.has_staged.Goals as goal

pub returns-clause-found : goal.returns-clause-found
returns-clause-found g c has inside clean =
    let old = seen g.T.Ledger.view c.args.tx.now in
    let new = seen g.T.Ledger.view c.query.new.self in
    let rows = c.in_ok-rows.rows.items in
    let shown = c.in_ok-rows.ensures.ok clean in
    let is_open = shown_open any_staged [] old new rows shown in
    let counted : vec_len c.in_ok-rows.rows ≡ length rows = search rules in
    none_told c.is_empty.result rows (NoneStaged old.now.trees)
    (λ yes. sym counted ∙ eqb-true (vec_len c.in_ok-rows.rows) 0 (sym c.is_empty.ensures ∙ yes))
    (λ none. c.is_empty.ensures ∙ ap (λ n. ◌==◌ n 0) (counted ∙ none))
    (any_shown old new rows (has is_open) shown)

pub returns-clause-same : goal.returns-clause-same
returns-clause-same g c has inside clean =
    let old = seen g.T.Ledger.view c.args.tx.now in
    let new = seen g.T.Ledger.view c.query.new.self in
    let shown = c.in_ok-rows.ensures.ok clean in
    let is_open = shown_open any_staged [] old new c.in_ok-rows.rows.items shown in
    (shown_unchanged v2 any_staged any_staged_command any_staged_is [] old new (has is_open) c.in_ok-rows.rows.items shown).0.now_is

pub returns-clause-still : goal.returns-clause-still
returns-clause-still g c tables pends clean inside is_open =
    let old = seen g.T.Ledger.view c.args.tx.now in
    let new = seen g.T.Ledger.view c.query.new.self in
    let early : HasCleanDisk old = omega (arith, c.query.ensures.rest.survives.clean) in
    still_pends v2 tables any_staged [] old new c.in_ok-rows.rows.items any_staged_is.says.plain early pends (c.in_ok-rows.ensures.ok clean) inside
