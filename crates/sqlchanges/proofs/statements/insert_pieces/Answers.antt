use Rattle.std.proofs.Common.{Bor, ℕ, List, option_map, ◌≡◌, ◌+◌, ◌*◌, ◌≤◌, length, Some, arith, sym, ap, subst, ◌∙◌, rules, refl}
use Rattle.sqltables.specs.Inside.{seen}
use Rattle.sqltables.proofs.Runs.{itself_keeps}
use Rattle.sqlite.specs.State.{HasCleanDisk}
use Rattle.boxes.specs.State.{Place}
use Rattle.sqltables.specs.Tables.{piece_of}
use Rattle.sqltables.specs.Changes.{with_pieces}
use Rattle.sqltables.specs.Means.{Pends}
use Rattle.sqltables.proofs.Building.{survives_then, keeps_then, one_more, all_pieces, survives_itself, no_pieces}
use Rattle.sqltables.specs.Staging.{held}
use Rattle.sqltables.proofs.Held.{none_left}
use Rattle.sqltables.proofs.Onward.{same_itself, same_then}
use Rattle.sqlchanges.proofs.statements.insert_pieces.Goals as goal

pub loop-piece-preserved : goal.loop-piece-preserved
loop-piece-preserved g c =
    let entry = seen g.T.Ledger.view c.args.tx.now in
    let mid = seen g.T.Ledger.view c.loop-piece.tx in
    let new = seen g.T.Ledger.view c.insert_piece.new.tx in
    let place : Place = record { box = c.args.box_name.now; name = c.args.name.now } in
    let bytes = held c.args.bytes.now in
    let count = c.loop-piece.part in
    let built = c.loop-piece.invariant.1 in
    let early : HasCleanDisk new → HasCleanDisk mid = λ clean. omega (arith, c.in_ok-insert_piece.ensures.rest.survives.clean) in
    let is : piece_of bytes count ≡ Some c.in-Some.piece.now = sym c.piece.ensures ∙ ap (option_map (λ (piece : Bor (List ℕ)). piece.now)) c.in-Some.is in (
      same_then c.loop-piece.invariant.0 c.in_ok-insert_piece.ensures.rest.same_reference,
      record {
        uncommitted = λ clean. keeps_then entry mid new (built.uncommitted (early clean)) (c.in_ok-insert_piece.ensures.rest.uncommitted clean);
        survives = survives_then entry mid new built.survives c.in_ok-insert_piece.ensures.rest.survives;
        running = λ clean _. c.in_ok-insert_piece.ensures.rest.running clean;
        done = λ v tables ours pends none.
            c.in_ok-insert_piece.ensures.done v (with_pieces tables place bytes count) (with_pieces tables place bytes (count + 1)) ours (built.done v tables ours pends none)
            (one_more tables place bytes count c.in-Some.piece.now is);
      },
    )

pub returns-clause-done : goal.returns-clause-done
returns-clause-done g c v tables ours pends none =
    let place : Place = record { box = c.args.box_name.now; name = c.args.name.now } in
    let bytes = held c.args.bytes.now in
    let all : length bytes ≤ 65536 * c.loop-piece.part = none_left bytes c.loop-piece.part (search rules) in
    subst (λ t. Pends v (seen g.T.Ledger.view c.loop-piece.tx) t) (all_pieces tables place bytes c.loop-piece.part all) (c.loop-piece.invariant.1.done v tables ours pends none)

pub loop-piece-init : goal.loop-piece-init
loop-piece-init g c =
    let entry = seen g.T.Ledger.view c.args.tx.now in
    let place : Place = record { box = c.args.box_name.now; name = c.args.name.now } in (
      same_itself,
      record {
        uncommitted = λ clean. itself_keeps entry;
        survives = survives_itself entry;
        running = λ clean is. is;
        done = λ v tables ours pends none. subst (Pends v entry) (sym (no_pieces tables place (held c.args.bytes.now) none)) pends;
      },
    )

pub loop-piece-smaller : goal.loop-piece-smaller
loop-piece-smaller g c = grind arith

pub overflow_add-part : goal.overflow_add-part
overflow_add-part g c = grind arith

pub returns-clause-rest : goal.returns-clause-rest
returns-clause-rest g c = grind arith
