use Rattle.std.proofs.Common.{Bor, ℕ, List, option_map, ◌≡◌, ◌+◌, ◌*◌, ◌≤◌, length, Some, arith, refl, sym, ap, subst, ◌∙◌, rules}
use Rattle.std.proofs.lemmas.Bool.{false≢true}
use Rattle.sqltables.specs.Inside.{seen}
use Rattle.sqlite.specs.State.{HasCleanDisk}
use Rattle.boxes.specs.State.{Place}
use Rattle.sqltables.specs.Tables.{piece_of}
use Rattle.sqltables.specs.Staging.{held}
use Rattle.sqltables.proofs.Held.{none_left}
use Rattle.sqlquestions.proofs.Compared.{unmoved, Compared, IsNext, none_compared, one_more, all_same, not_same}
use Rattle.sqltables.proofs.Onward.{failed, followed, same_itself, same_then, succeeded}
use Rattle.sqlquestions.proofs.ManyQuestions.{unmoved_and, unmoved_goes}
use Rattle.sqlquestions.proofs.comparing.has_pieces.Goals as goal

pub loop-piece-init : goal.loop-piece-init
loop-piece-init g c =
    let place : Place = record { box = c.args.in_box.now; name = c.args.name.now } in
    (same_itself, none_compared (seen g.T.Ledger.view c.args.tx.now) place (held c.args.bytes.now))

pub loop-piece-preserved : goal.loop-piece-preserved
loop-piece-preserved g c =
    let entry = seen g.T.Ledger.view c.args.tx.now in
    let mid = seen g.T.Ledger.view c.loop-piece.tx in
    let new = seen g.T.Ledger.view c.is_piece.new.tx in
    let place : Place = record { box = c.args.in_box.now; name = c.args.name.now } in
    let bytes = held c.args.bytes.now in
    let count = c.loop-piece.part in
    let cut : piece_of bytes count ≡ Some c.in-Some.piece.now = sym c.piece.ensures ∙ ap (option_map (λ (piece : Bor (List ℕ)). piece.now)) c.in-Some.is in
    let number : c.in-Some-checked_add.next ≡ count + 1 = search rules in
    let it : IsNext mid new place count c.in-Some.piece.now = record {
      is = λ v tables ours pends inside clean. (c.in_ok-is_piece.ensures.found v tables ours pends inside clean).0 c.if-not-branch.false;
      still = λ v tables ours pends. c.in_ok-is_piece.ensures.still v tables ours pends;
      running = λ clean inside. c.in_ok-is_piece.ensures.rest.running clean inside;
      uncommitted = c.is_piece.ensures.rest.uncommitted;
      survives = c.is_piece.ensures.rest.survives;
    } in
    let more = one_more entry mid new place bytes c.in-Some.piece.now count c.loop-piece.invariant.1 it cut in
    (same_then c.loop-piece.invariant.0 c.is_piece.ensures.rest.same_reference, subst (Compared entry new place bytes) (sym number) more)

pub returns-then-not-branch-clause-found : goal.returns-then-not-branch-clause-found
returns-then-not-branch-clause-found g c v tables there ours pends size pieces inside clean =
    let mid = seen g.T.Ledger.view c.loop-piece.tx in
    let place : Place = record { box = c.args.in_box.now; name = c.args.name.now } in
    let bytes = held c.args.bytes.now in
    let count = c.loop-piece.part in
    let so_far = c.loop-piece.invariant.1 in
    let early : HasCleanDisk mid = omega (arith, clean, c.is_piece.ensures.rest.survives.clean) in
    let cut : piece_of bytes count ≡ Some c.in-Some.piece.now = sym c.piece.ensures ∙ ap (option_map (λ (piece : Bor (List ℕ)). piece.now)) c.in-Some.is in
    let is = c.in_ok-is_piece.ensures.found v tables ours (so_far.still v tables ours pends) (so_far.inside early inside) clean in (
      λ t. absurd (false≢true t),
      λ same. absurd (not_same tables place there bytes count size pieces c.in-Some.piece.now cut (λ some. false≢true (sym c.if-not-branch.true ∙ is.1 some)) same),
    )

pub returns-clause-found : goal.returns-clause-found
returns-clause-found g c v tables there ours pends size pieces inside clean =
    let place : Place = record { box = c.args.in_box.now; name = c.args.name.now } in
    let bytes = held c.args.bytes.now in
    let all : length bytes ≤ 65536 * c.loop-piece.part = none_left bytes c.loop-piece.part (search rules) in
    (λ t. all_same tables place there bytes c.loop-piece.part size pieces all (c.loop-piece.invariant.1.same v tables ours pends inside clean), λ same. refl)

pub returns-then-not-branch-clause-still : goal.returns-then-not-branch-clause-still
returns-then-not-branch-clause-still g c v tables ours pends = c.in_ok-is_piece.ensures.still v tables ours (c.loop-piece.invariant.1.still v tables ours pends)

pub returns-in_err-is_piece-clause-rest : goal.returns-in_err-is_piece-clause-rest
returns-in_err-is_piece-clause-rest g c = failed c.from_residual.result (unmoved_and c.loop-piece.invariant.0 (unmoved c.loop-piece.invariant.1) c.is_piece.ensures.rest) c.from_residual.ensures.0

pub returns-then-not-branch-clause-rest : goal.returns-then-not-branch-clause-rest
returns-then-not-branch-clause-rest g c = succeeded _ (unmoved_and c.loop-piece.invariant.0 (unmoved c.loop-piece.invariant.1) c.in_ok-is_piece.ensures.rest)

pub returns-in-None-clause-rest : goal.returns-in-None-clause-rest
returns-in-None-clause-rest g c = followed _ (unmoved_and c.loop-piece.invariant.0 (unmoved c.loop-piece.invariant.1) c.in_ok-is_piece.ensures.rest)

pub returns-clause-still : goal.returns-clause-still
returns-clause-still g c = λ v tables ours pends. c.loop-piece.invariant.1.still v tables ours pends

pub returns-clause-rest : goal.returns-clause-rest
returns-clause-rest g c = unmoved_goes c.loop-piece.invariant.0 (unmoved c.loop-piece.invariant.1) _

pub loop-piece-smaller : goal.loop-piece-smaller
loop-piece-smaller g c = grind arith

pub returns-in-None-clause-found : goal.returns-in-None-clause-found
returns-in-None-clause-found g c = grind arith

pub returns-in-None-clause-still : goal.returns-in-None-clause-still
returns-in-None-clause-still g c = grind arith
