use Rattle.std.proofs.Common.{◌≡◌, ℕ, List, length, Option, Some, None, option_map, option_and_then, IsTrue, arith, refl, sym, ap, subst, ◌∙◌}
use Rattle.std.proofs.lemmas.Bool.{false≢true}
use Rattle.std.specs.Prelude.{◌↔◌, IsSomeAnd}
use Rattle.std.specs.FinMap.{get}
use Rattle.sqltables.specs.Inside.{seen}
use Rattle.sqlite.specs.State.{HasCleanDisk}
use Rattle.boxes.specs.State.{Place, File, State}
use Rattle.boxes.specs.Rules.{HasBytes}
use Rattle.sqltables.specs.Tables.{tables_of, piece_of}
use Rattle.sqltables.proofs.StandingFiles.{if_ok_more}
use Rattle.sqltables.specs.Staging.{held}
use Rattle.sqltables.proofs.Onward.{and_then, failed, succeeded}
use Rattle.sqlquestions.proofs.standing.has_bytes.Goals as goal

-- a file of this length exists
record Stands (s : State) (place : Place) (size : ℕ) : Type 0 where
  file : File
  there : get s.files place ≡ Some file
  size_is : length file.bytes ≡ size

stands : (s : State) (place : Place) (size : ℕ) → Some size ≡ option_map (λ (f : File). length f.bytes) (get s.files place) → Stands s place size
stands s place size told = go (get s.files place) refl
  where
    go : (o : Option File) → get s.files place ≡ o → Stands s place size
    go None none = absurd (let e = told ∙ ap (option_map (λ (f : File). length f.bytes)) none in cc)
    go (Some f) some = record { file = f; there = some; size_is = let e = told ∙ ap (option_map (λ (f : File). length f.bytes)) some in cc }

-- whether it has these bytes
has_just : (s : State) (place : Place) (f : File) (bytes : List ℕ) → get s.files place ≡ Some f → HasBytes s place bytes ↔ f.bytes ≡ bytes
has_just s place f bytes there = (λ has. rw there at has, λ same. rw there same)

no_file : (s : State) (place : Place) (bytes : List ℕ) → None ≡ option_map (λ (f : File). length f.bytes) (get s.files place) → HasBytes s place bytes → ⊥
no_file s place bytes none has = go (get s.files place) none has
  where
    go : (o : Option File) → None ≡ option_map (λ (f : File). length f.bytes) o → IsSomeAnd o (λ f. f.bytes ≡ bytes) → ⊥
    go None none has = has
    go (Some f) none has = cc

pub returns-in_default-clause-found : goal.returns-in_default-clause-found
returns-in_default-clause-found g c v s ours pends sound inside clean =
    let place : Place = record { box = c.args.in_box.now; name = c.args.name.now } in
    let told = subst (λ (o : Option ℕ). o ≡ option_map (λ (f : File). length f.bytes) (get s.files place)) c.in_default.is (c.in_ok-size.ensures.found v s ours pends sound inside clean) in
    (λ t. absurd (false≢true t), λ has. absurd (no_file s place (held c.args.bytes.now) told has))

pub returns-then-size-len-clause-found : goal.returns-then-size-len-clause-found
returns-then-size-len-clause-found g c v s ours pends sound inside clean =
    let place : Place = record { box = c.args.in_box.now; name = c.args.name.now } in
    let bytes : List ℕ = held c.args.bytes.now in
    let told = subst (λ (o : Option ℕ). o ≡ option_map (λ (f : File). length f.bytes) (get s.files place)) c.in-Some.is (c.in_ok-size.ensures.found v s ours pends sound inside clean) in
    let it = stands s place c.in-Some.size told in
    let just = has_just s place it.file bytes it.there in
    (λ t. absurd (false≢true t), λ has. absurd (c.if-size-len.true (sym it.size_is ∙ ap length (just.0 has) ∙ sym c.len.ensures)))

pub returns-clause-found : goal.returns-clause-found
returns-clause-found g c v s ours pends sound inside clean =
    let place : Place = record { box = c.args.in_box.now; name = c.args.name.now } in
    let bytes : List ℕ = held c.args.bytes.now in
    let early : HasCleanDisk (seen g.T.Ledger.view c.standing_size.new.tx) = omega (arith, clean, c.has_pieces.ensures.rest.survives.clean) in
    let told = subst (λ (o : Option ℕ). o ≡ option_map (λ (f : File). length f.bytes) (get s.files place)) c.in-Some.is (c.in_ok-size.ensures.found v s ours pends sound inside early) in
    let it = stands s place c.in-Some.size told in
    let just = has_just s place it.file bytes it.there in
    let still = c.in_ok-size.ensures.still v (tables_of s) ours pends in
    let running = c.in_ok-size.ensures.rest.running early inside in
    let found = c.has_pieces.ensures.found v (tables_of s) it.file.bytes ours still (it.size_is ∙ c.if-size-len.false ∙ c.len.ensures) (λ at. ap (option_and_then (λ (f : File). piece_of f.bytes at)) it.there) running.0 clean in
    if_ok_more (λ same. IsTrue same ↔ it.file.bytes ≡ bytes) (λ has. IsTrue has ↔ HasBytes s place bytes) c.has_pieces.result (λ x both. (λ t. just.1 (both.0 t), λ has. both.1 (just.0 has))) found

pub returns-clause-still : goal.returns-clause-still
returns-clause-still g c v tables ours pends = c.has_pieces.ensures.still v tables ours (c.in_ok-size.ensures.still v tables ours pends)

pub returns-in_err-size-clause-rest : goal.returns-in_err-size-clause-rest
returns-in_err-size-clause-rest g c = failed c.from_residual.result c.standing_size.ensures.rest c.from_residual.ensures.0

pub returns-in_default-clause-rest : goal.returns-in_default-clause-rest
returns-in_default-clause-rest g c = succeeded _ c.in_ok-size.ensures.rest

pub returns-then-size-len-clause-rest : goal.returns-then-size-len-clause-rest
returns-then-size-len-clause-rest g c = succeeded _ c.in_ok-size.ensures.rest

pub returns-clause-rest : goal.returns-clause-rest
returns-clause-rest g c = and_then (λ began. began) (λ running. (running, running.0)) c.in_ok-size.ensures.rest c.has_pieces.ensures.rest
