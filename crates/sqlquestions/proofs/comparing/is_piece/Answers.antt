use Rattle.std.proofs.Common.{◌≡◌, ℕ, List, Bool, Some, IsTrue, arith, sym, subst, ap, ◌∙◌}
use Rattle.std.proofs.lemmas.Bool.{false≢true}
use Rattle.std.specs.Prelude.{◌↔◌}
use Rattle.sigtext.specs.Bytes.{same_bytes}
use Rattle.boxes.proofs.FileTotals.{texts_alike, same_as_itself}
use Rattle.sqltables.specs.Inside.{seen}
use Rattle.sqlite.specs.State.{HasCleanDisk}
use Rattle.boxes.specs.State.{Place}
use Rattle.sqltables.specs.Pieces.{IsPieceAt, HasPiece}
use Rattle.sqlquestions.proofs.Compared.{piece_there, no_piece_there}
use Rattle.sqltables.proofs.Onward.{failed, succeeded}
use Rattle.sqlquestions.proofs.comparing.is_piece.Goals as goal

same_told : (a b : List ℕ) (t : Bool) → t ≡ same_bytes a b → IsTrue t ↔ a ≡ b
same_told a b t is = (λ yes. texts_alike a b (sym is ∙ yes), λ same. is ∙ ap (same_bytes a) (sym same) ∙ same_as_itself a)

one_text : (a b : List ℕ) → Some a ≡ Some b → a ≡ b
one_text a b e = cc

pub returns-in-Some-clause-found : goal.returns-in-Some-clause-found
returns-in-Some-clause-found g c v tables ours pends inside clean =
    let old = seen g.T.Ledger.view c.args.tx.now in
    let new = seen g.T.Ledger.view c.read_piece.new.tx in
    let place : Place = record { box = c.args.in_box.now; name = c.args.name.now } in
    let early : HasCleanDisk old = omega (arith, clean, c.read_piece.ensures.rest.survives.clean) in
    let was_open = (c.read_piece.ensures.rest.uncommitted clean inside).was_open (c.in_ok-piece.ensures.rest.running clean inside).1 in
    let it = pends early inside was_open in
    let has : HasPiece (old.now.trees 9) place c.args.part c.in-Some.piece.items = subst (IsPieceAt (old.now.trees 9) place c.args.part) c.in-Some.is (c.in_ok-piece.ensures.read v ours (λ is_open. (pends early inside is_open).schema) (λ is_open. (pends early inside is_open).sound) inside clean) in
    let there = piece_there tables (old.now.trees 9) it.means.pieces place c.args.part c.in-Some.piece.items has in
    let told = same_told c.as_slice.result.now c.args.bytes.now c.eq.result c.eq.ensures in
    let read : c.as_slice.result.now ≡ c.in-Some.piece.items = c.as_slice.ensures.value in
    (λ t. there ∙ ap Some (sym read ∙ told.0 t), λ some. told.1 (read ∙ one_text c.in-Some.piece.items c.args.bytes.now (sym there ∙ some)))

pub returns-in-None-clause-found : goal.returns-in-None-clause-found
returns-in-None-clause-found g c v tables ours pends inside clean =
    let old = seen g.T.Ledger.view c.args.tx.now in
    let new = seen g.T.Ledger.view c.read_piece.new.tx in
    let place : Place = record { box = c.args.in_box.now; name = c.args.name.now } in
    let early : HasCleanDisk old = omega (arith, clean, c.read_piece.ensures.rest.survives.clean) in
    let was_open = (c.read_piece.ensures.rest.uncommitted clean inside).was_open (c.in_ok-piece.ensures.rest.running clean inside).1 in
    let it = pends early inside was_open in
    let none = no_piece_there tables (old.now.trees 9) it.means.pieces place c.args.part
    (subst (IsPieceAt (old.now.trees 9) place c.args.part) c.in-None.is (c.in_ok-piece.ensures.read v ours (λ is_open. (pends early inside is_open).schema) (λ is_open. (pends early inside is_open).sound) inside clean)) in
    (λ t. absurd (false≢true t), λ some. absurd (none c.args.bytes.now some))

pub returns-in_err-piece-clause-rest : goal.returns-in_err-piece-clause-rest
returns-in_err-piece-clause-rest g c = failed c.from_residual.result c.read_piece.ensures.rest c.from_residual.ensures.0

pub returns-in-Some-clause-rest : goal.returns-in-Some-clause-rest
returns-in-Some-clause-rest g c = succeeded _ c.in_ok-piece.ensures.rest

pub returns-in-None-clause-rest : goal.returns-in-None-clause-rest
returns-in-None-clause-rest g c = succeeded _ c.in_ok-piece.ensures.rest

pub returns-in-None-clause-still : goal.returns-in-None-clause-still
returns-in-None-clause-still g c = grind arith

pub returns-in-Some-clause-still : goal.returns-in-Some-clause-still
returns-in-Some-clause-still g c = grind arith

pub returns-in_err-piece-clause-found : goal.returns-in_err-piece-clause-found
returns-in_err-piece-clause-found g c = grind arith
