use Rattle.std.proofs.Common.{arith, refl}
use Rattle.sqltables.specs.Inside.{seen}
use Rattle.sqlite.specs.State.{HasCleanDisk}
use Rattle.sqltables.proofs.Ours.{asks_of}
use Rattle.sqlquestions.specs.Following.{bytes_in}
use Rattle.sqlquestions.proofs.FollowingTexts.{key_after, key_after_command, key_after_is}
use Rattle.sqlquestions.proofs.FirstBehind.{finds_first}
use Rattle.sqlquestions.proofs.FollowingRows.{follows_key}
use Rattle.sqlquestions.proofs.following.key_after.Goals as goal

pub returns-clause-found : goal.returns-clause-found
returns-clause-found g c v tables ours pends inside clean =
    let old = seen g.T.Ledger.view c.args.tx.now in
    let new = seen g.T.Ledger.view c.select_text.new.tx in
    let early : HasCleanDisk old = omega (arith, c.select_text.ensures.rest.survives.clean) in
    finds_first _ _ _ _ _ _ _ (follows_key tables c.args.after.now) v 1 _ key_after (asks_of v ours key_after key_after_command key_after_is) old new tables (λ db. refl) (λ m. m.keys) inside (pends early inside) bytes_in
    c.select_text.result (rw (c.params-to_sql.ensures) at (c.select_text.ensures.shown clean))

pub returns-clause-still : goal.returns-clause-still
returns-clause-still g c v tables ours pends = c.select_text.ensures.still v tables (asks_of v ours key_after key_after_command key_after_is).says.plain pends

pub returns-clause-rest : goal.returns-clause-rest
returns-clause-rest g c = grind arith
