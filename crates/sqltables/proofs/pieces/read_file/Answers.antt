use Rattle.std.proofs.Common.{◌≡◌, ◌+◌, ◌-◌, ◌<◌, ◌++◌, length, drop, min, arith, rules, sym, ap, subst, subst₂, ◌∙◌}
use Rattle.std.proofs.lemmas.List.{take-append-drop, length-drop}
use Rattle.boxes.specs.State.{Place}
use Rattle.sqltables.specs.Inside.{seen}
use Rattle.sqlite.specs.State.{HasCleanDisk}
use Rattle.sqltables.specs.Pieces.{IsAppended}
use Rattle.sqltables.proofs.Gathering.{Gathered, ReadsNext, OpensOurs, gathers, ours_at, whole_at, no_bytes}
use Rattle.sqltables.proofs.Onward.{same_then}
use Rattle.sqltables.proofs.pieces.read_file.Goals as goal

pub loop-bytes-preserved : goal.loop-bytes-preserved
loop-bytes-preserved g c =
    let place : Place = record { box = c.args.in_box.now; name = c.args.name.now } in
    let entry = seen g.T.Ledger.view c.args.tx.now in
    let mid = seen g.T.Ledger.view c.loop-bytes.tx in
    let now = seen g.T.Ledger.view c.append_piece.new.tx in
    let bytes = c.loop-bytes.bytes.items in
    let after = c.append_piece.new.bytes.items in
    let piece = drop (length bytes) after in
    let next : ReadsNext mid now place c.loop-bytes.part piece = record {
      read = λ v ours whole clean. subst (IsAppended (mid.now.trees 9) place c.loop-bytes.part piece) c.if-not-is_there.false (c.in_ok-is_there.ensures.read v ours.version ours.schema whole ours.inside clean);
      same = λ v ours clean. c.in_ok-is_there.ensures.same v ours.version ours.schema ours.inside clean;
      mode = c.in_ok-is_there.ensures.mode;
      running = λ clean inside. c.in_ok-is_there.ensures.rest.running clean inside;
      uncommitted = c.append_piece.ensures.rest.uncommitted;
      survives = c.append_piece.ensures.rest.survives;
    } in
    let count : c.in-Some.next ≡ c.loop-bytes.part + 1 = c.in-Some.ensures.1 in
    let items : after ≡ bytes ++ piece = sym (take-append-drop (length bytes) after) ∙ ap (λ l. l ++ piece) c.in_ok-is_there.ensures.added in
    let less : length bytes < c.args.size = subst (λ n. n < c.args.size) (c.len.ensures ∙ c.loop-bytes.bytes.ok.0) c.loop-bytes-test.true in
    let more : length piece ≡ length after - length bytes = length-drop (length bytes) after in
    let fits : length piece ≡ min (c.args.size - length bytes) 65536 = search rules in
    (same_then c.loop-bytes.invariant.0 c.append_piece.ensures.rest.same_reference, subst₂ (Gathered entry now place c.args.size) (sym items) (sym count) (gathers entry mid now place c.args.size bytes piece c.loop-bytes.part c.loop-bytes.invariant.1 next less fits))

pub returns-then-not-is_there-clause-read : goal.returns-then-not-is_there-clause-read
returns-then-not-is_there-clause-read g c v ours has whole inside clean =
    let place : Place = record { box = c.args.in_box.now; name = c.args.name.now } in
    let entry = seen g.T.Ledger.view c.args.tx.now in
    let mid = seen g.T.Ledger.view c.loop-bytes.tx in
    let bytes = c.loop-bytes.bytes.items in
    let first : OpensOurs v entry = record { version = ours; schema = has; inside = inside } in
    let early : HasCleanDisk mid = omega (arith, clean, c.append_piece.ensures.rest.survives.clean) in
    let now = ours_at entry mid place c.args.size bytes c.loop-bytes.part c.loop-bytes.invariant.1 v first early in
    let none = subst (IsAppended (mid.now.trees 9) place c.loop-bytes.part _) c.if-not-is_there.true
    (c.in_ok-is_there.ensures.read v now.version now.schema (whole_at entry mid place c.args.size bytes c.loop-bytes.part c.loop-bytes.invariant.1 v first early whole) now.inside clean) in
    no_bytes entry mid place c.args.size bytes c.loop-bytes.part c.loop-bytes.invariant.1 v first early (search rules) none
