use Rattle.std.proofs.Common.{inl, inr, IsTrue, arith, sym, subst}
use Rattle.sqltables.specs.Inside.{seen}
use Rattle.sqlite.specs.State.{HasCleanDisk}
use Rattle.boxes.specs.State.{Place}
use Rattle.sqltables.specs.Means.{Holds}
use Rattle.sqltables.specs.Pieces.{AreBytesOf, AreFound}
use Rattle.sqlquestions.proofs.FileBytes.{are_bytes, no_bytes}
use Rattle.sqlquestions.proofs.questions.file_bytes.Goals as goal

pub returns-in-Some-clause-found : goal.returns-in-Some-clause-found
returns-in-Some-clause-found g c v tables bytes ours pends size pieces inside clean =
    let old = seen g.T.Ledger.view c.args.tx.now in
    let place : Place = record { box = c.args.in_box.now; name = c.args.name.now } in
    let early : HasCleanDisk old = omega (arith, clean, c.read_file.ensures.rest.survives.clean) in
    let found = c.in-Some.bytes.items in
    let are = subst (AreFound (old.now.trees 9) place c.args.size) c.in-Some.is
    (c.in_ok-bytes.ensures.read v ours (λ is_open. (pends early inside is_open).schema) (λ is_open. (pends early inside is_open).sound) inside clean) in
    elim (c.in_ok-bytes.ensures.opened clean inside) [
      | inl none ↦ no_bytes bytes found c.args.size size are.size_is none
      | inr is_open ↦ are_bytes tables (old.now.trees 9) place bytes found (pends early inside is_open).means.pieces pieces (subst (λ n. AreBytesOf (old.now.trees 9) place n found) (sym size) are)
    ]

pub returns-in-Some-clause-still : goal.returns-in-Some-clause-still
returns-in-Some-clause-still g c v tables ours pends clean inside is_open =
    let old = seen g.T.Ledger.view c.args.tx.now in
    let early : HasCleanDisk old = omega (arith, clean, c.read_file.ensures.rest.survives.clean) in
    let was_in : IsTrue old.in_transaction = subst IsTrue (c.in_ok-bytes.ensures.mode clean) inside in
    let was_open = (c.read_file.ensures.rest.uncommitted clean was_in).was_open is_open in
    let same = c.in_ok-bytes.ensures.same v ours (λ o. (pends early was_in o).schema) was_in clean in
    subst (λ db. Holds v db tables) (sym same) (pends early was_in was_open)

pub returns-in-None-clause-found : goal.returns-in-None-clause-found
returns-in-None-clause-found g c = grind arith

pub returns-in-None-clause-rest : goal.returns-in-None-clause-rest
returns-in-None-clause-rest g c = grind arith

pub returns-in-None-clause-still : goal.returns-in-None-clause-still
returns-in-None-clause-still g c = grind arith

pub returns-in-Some-clause-rest : goal.returns-in-Some-clause-rest
returns-in-Some-clause-rest g c = grind arith

pub returns-in_err-bytes-clause-found : goal.returns-in_err-bytes-clause-found
returns-in_err-bytes-clause-found g c = grind arith

pub returns-in_err-bytes-clause-rest : goal.returns-in_err-bytes-clause-rest
returns-in_err-bytes-clause-rest g c = grind arith
