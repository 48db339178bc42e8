use Rattle.std.proofs.Common.{◌≡◌, ◌+◌, ◌-◌, ◌<◌, ◌++◌, inl, inr, length, min, arith, rules, sym, ap, subst, subst₂, ◌∙◌, refl}
use Rattle.std.specs.Prelude.{◌≢◌}
use Rattle.sqltables.specs.Inside.{seen}
use Rattle.sqlite.specs.State.{HasCleanDisk}
use Rattle.boxes.specs.State.{Place}
use Rattle.sqltables.specs.Pieces.{HasPiece, IsPieceAt}
use Rattle.sqltables.proofs.Gathering.{Gathered, ReadsNext, OpensOurs, gathers, ours_at, whole_at, no_bytes, none_gathered}
use Rattle.sqltables.proofs.GatheredCalls.{gathered_goes, gathered_then}
use Rattle.sqlaudit.proofs.Digested.{lacked_at, next_misfits}
use Rattle.sqltables.proofs.Onward.{failed, followed, gave_up, same_itself, same_then, succeeded}
use Rattle.sqlaudit.proofs.digests.find_bytes.Goals as goal

pub loop-tx-init : goal.loop-tx-init
loop-tx-init g c =
    let place : Place = record { box = c.args.in_box.now; name = c.args.name.now } in
    let entry = seen g.T.Ledger.view c.args.tx.now in
    (same_itself, subst (λ bytes. Gathered entry entry place c.args.size bytes 0) (sym c.in_ok-bytes.ensures.items) (none_gathered entry place c.args.size))

pub loop-tx-preserved : goal.loop-tx-preserved
loop-tx-preserved g c =
    let place : Place = record { box = c.args.in_box.now; name = c.args.name.now } in
    let entry = seen g.T.Ledger.view c.args.tx.now in
    let mid = seen g.T.Ledger.view c.loop-tx.tx in
    let now = seen g.T.Ledger.view c.read_piece.new.tx in
    let bytes = c.loop-tx.bytes.items in
    let piece = c.in-Some.piece.items in
    let next : ReadsNext mid now place c.loop-tx.part piece = record {
      read = λ v ours whole clean. subst (IsPieceAt (mid.now.trees 9) place c.loop-tx.part) c.in-Some.is (c.in_ok-piece.ensures.read v ours.version ours.schema whole ours.inside clean);
      same = λ v ours clean. c.in_ok-piece.ensures.same v ours.version ours.schema ours.inside clean;
      mode = c.in_ok-piece.ensures.mode;
      running = λ clean inside. c.in_ok-piece.ensures.rest.running clean inside;
      uncommitted = c.read_piece.ensures.rest.uncommitted;
      survives = c.read_piece.ensures.rest.survives;
    } in
    let count : c.in-Some-checked_add.next ≡ c.loop-tx.part + 1 = search rules in
    let items : c.extend_from_slice.new.self.items ≡ bytes ++ piece = ◌∙◌ {b = bytes ++ c.deref.result.now} c.in_ok-extend_from_slice.ensures.items (ap (◌++◌ bytes) c.deref.ensures.value) in
    let less : length bytes < c.args.size = subst (λ n. n < c.args.size) (c.len.ensures ∙ c.loop-tx.bytes.ok.0) c.loop-tx-test.true in
    let fits : length piece ≡ min (c.args.size - length bytes) 65536 = search rules in
    (same_then c.loop-tx.invariant.0 c.read_piece.ensures.rest.same_reference, subst₂ (Gathered entry now place c.args.size) (sym items) (sym count) (gathers entry mid now place c.args.size bytes piece c.loop-tx.part c.loop-tx.invariant.1 next less fits))

pub returns-in_default-clause-read : goal.returns-in_default-clause-read
returns-in_default-clause-read g c v ours has whole inside clean =
    let place : Place = record { box = c.args.in_box.now; name = c.args.name.now } in
    let entry = seen g.T.Ledger.view c.args.tx.now in
    let mid = seen g.T.Ledger.view c.loop-tx.tx in
    let bytes = c.loop-tx.bytes.items in
    let first : OpensOurs v entry = record { version = ours; schema = has; inside = inside } in
    let early : HasCleanDisk mid = omega (arith, clean, c.read_piece.ensures.rest.survives.clean) in
    let now = ours_at entry mid place c.args.size bytes c.loop-tx.part c.loop-tx.invariant.1 v first early in
    let none = subst (IsPieceAt (mid.now.trees 9) place c.loop-tx.part) c.in_default.is
    (c.in_ok-piece.ensures.read v now.version now.schema (whole_at entry mid place c.args.size bytes c.loop-tx.part c.loop-tx.invariant.1 v first early whole) now.inside clean) in
    inl (no_bytes entry mid place c.args.size bytes c.loop-tx.part c.loop-tx.invariant.1 v first early (search rules) none)

pub returns-then-len-min-clause-read : goal.returns-then-len-min-clause-read
returns-then-len-min-clause-read g c v ours has whole inside clean =
    let place : Place = record { box = c.args.in_box.now; name = c.args.name.now } in
    let entry = seen g.T.Ledger.view c.args.tx.now in
    let mid = seen g.T.Ledger.view c.loop-tx.tx in
    let bytes = c.loop-tx.bytes.items in
    let piece = c.in-Some.piece.items in
    let first : OpensOurs v entry = record { version = ours; schema = has; inside = inside } in
    let early : HasCleanDisk mid = omega (arith, clean, c.read_piece.ensures.rest.survives.clean) in
    let now = ours_at entry mid place c.args.size bytes c.loop-tx.part c.loop-tx.invariant.1 v first early in
    let stands : HasPiece (mid.now.trees 9) place c.loop-tx.part piece = subst (IsPieceAt (mid.now.trees 9) place c.loop-tx.part) c.in-Some.is
    (c.in_ok-piece.ensures.read v now.version now.schema (whole_at entry mid place c.args.size bytes c.loop-tx.part c.loop-tx.invariant.1 v first early whole) now.inside clean) in
    let less : length bytes < c.args.size = search rules in
    let other : length piece ≢ min (c.args.size - length bytes) 65536 = search rules in
    lacked_at entry mid place c.args.size bytes c.loop-tx.part c.loop-tx.invariant.1 v first early
    (inr (next_misfits entry mid place c.args.size bytes c.loop-tx.part c.loop-tx.invariant.1 v first early less piece stands other))

pub returns-in_err-bytes-clause-rest : goal.returns-in_err-bytes-clause-rest
returns-in_err-bytes-clause-rest g c = gave_up c.args.tx.now c.from_residual.result c.from_residual.ensures.0

pub returns-in_err-piece-clause-rest : goal.returns-in_err-piece-clause-rest
returns-in_err-piece-clause-rest g c =
    failed c.from_residual-in_err-piece.result (gathered_then c.loop-tx.invariant.0 c.loop-tx.invariant.1 c.read_piece.ensures.rest) c.from_residual-in_err-piece.ensures.0

pub returns-in_default-clause-rest : goal.returns-in_default-clause-rest
returns-in_default-clause-rest g c = succeeded _ (gathered_then c.loop-tx.invariant.0 c.loop-tx.invariant.1 c.in_ok-piece.ensures.rest)

pub returns-then-len-min-clause-rest : goal.returns-then-len-min-clause-rest
returns-then-len-min-clause-rest g c = succeeded _ (gathered_then c.loop-tx.invariant.0 c.loop-tx.invariant.1 c.in_ok-piece.ensures.rest)

pub returns-in_err-extend_from_slice-clause-rest : goal.returns-in_err-extend_from_slice-clause-rest
returns-in_err-extend_from_slice-clause-rest g c =
    failed c.from_residual-in_err-extend_from_slice.result (gathered_then c.loop-tx.invariant.0 c.loop-tx.invariant.1 c.in_ok-piece.ensures.rest) c.from_residual-in_err-extend_from_slice.ensures.0

pub returns-in-None-clause-rest : goal.returns-in-None-clause-rest
returns-in-None-clause-rest g c = followed _ (gathered_then c.loop-tx.invariant.0 c.loop-tx.invariant.1 c.in_ok-piece.ensures.rest)

pub returns-clause-rest : goal.returns-clause-rest
returns-clause-rest g c = gathered_goes c.loop-tx.invariant.0 c.loop-tx.invariant.1 _

pub returns-in_default-clause-same : goal.returns-in_default-clause-same
returns-in_default-clause-same g c v ours has inside clean =
    let place : Place = record { box = c.args.in_box.now; name = c.args.name.now } in
    let entry = seen g.T.Ledger.view c.args.tx.now in
    let mid = seen g.T.Ledger.view c.loop-tx.tx in
    let bytes = c.loop-tx.bytes.items in
    let first : OpensOurs v entry = record { version = ours; schema = has; inside = inside } in
    let early : HasCleanDisk mid = omega (arith, clean, c.read_piece.ensures.rest.survives.clean) in
    let now = ours_at entry mid place c.args.size bytes c.loop-tx.part c.loop-tx.invariant.1 v first early in
    c.in_ok-piece.ensures.same v now.version now.schema now.inside clean ∙ c.loop-tx.invariant.1.same v first early

pub returns-then-len-min-clause-same : goal.returns-then-len-min-clause-same
returns-then-len-min-clause-same g c v ours has inside clean =
    let place : Place = record { box = c.args.in_box.now; name = c.args.name.now } in
    let entry = seen g.T.Ledger.view c.args.tx.now in
    let mid = seen g.T.Ledger.view c.loop-tx.tx in
    let bytes = c.loop-tx.bytes.items in
    let first : OpensOurs v entry = record { version = ours; schema = has; inside = inside } in
    let early : HasCleanDisk mid = omega (arith, clean, c.read_piece.ensures.rest.survives.clean) in
    let now = ours_at entry mid place c.args.size bytes c.loop-tx.part c.loop-tx.invariant.1 v first early in
    c.in_ok-piece.ensures.same v now.version now.schema now.inside clean ∙ c.loop-tx.invariant.1.same v first early

pub returns-clause-same : goal.returns-clause-same
returns-clause-same g c v ours has inside clean = c.loop-tx.invariant.1.same v (record { version = ours; schema = has; inside = inside }) clean

pub loop-tx-smaller : goal.loop-tx-smaller
loop-tx-smaller g c = grind arith

pub overflow_sub-rest : goal.overflow_sub-rest
overflow_sub-rest g c = grind arith

pub returns-clause-read : goal.returns-clause-read
returns-clause-read g c = grind arith

pub returns-in-None-clause-read : goal.returns-in-None-clause-read
returns-in-None-clause-read g c = grind arith

pub returns-in-None-clause-same : goal.returns-in-None-clause-same
returns-in-None-clause-same g c = grind arith

pub returns-in_err-bytes-clause-read : goal.returns-in_err-bytes-clause-read
returns-in_err-bytes-clause-read g c = grind arith

pub returns-in_err-bytes-clause-same : goal.returns-in_err-bytes-clause-same
returns-in_err-bytes-clause-same g c = grind arith
