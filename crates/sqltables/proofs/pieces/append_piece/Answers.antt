use Rattle.std.proofs.Common.{◌≡◌, Some, length, take, drop, slice_get, sym, ap, subst, ◌∙◌}
use Rattle.std.proofs.Math.Seq.{drop-append_seam, take-append_seam}
use Rattle.sqlite_value.specs.Value.{owned}
use Rattle.sqltables.specs.Inside.{seen}
use Rattle.sqltables.specs.Pieces.{HasPiece}
use Rattle.sqlite_rules.proofs.ListLemmas.{has_got}
use Rattle.boxes.specs.State.{Place}
use Rattle.sqltables.proofs.Ours.{asks_of}
use Rattle.sqltables.proofs.Runs.{shown_runs}
use Rattle.sqltables.proofs.Texts.{select_piece, select_piece_command, select_piece_is}
use Rattle.sqltables.proofs.Shown.{shown_open, shown_unchanged}
use Rattle.sqltables.proofs.PieceAt.{given, piece_shown, no_piece_shown, nothing_first}
use Rattle.sqltables.proofs.pieces.append_piece.Goals as goal

pub returns-clause-added : goal.returns-clause-added
returns-clause-added g c = ap (take (length c.args.bytes.now.items)) c.in_ok-extend_from_slice.ensures.items ∙ take-append_seam c.args.bytes.now.items c.in-Blob.piece.now

pub returns-clause-read : goal.returns-clause-read
returns-clause-read g c v ours has whole inside clean =
    let old = seen g.T.Ledger.view c.args.tx.now in
    let new = seen g.T.Ledger.view c.query.new.self in
    let place : Place = record { box = c.args.in_box.now; name = c.args.name.now } in
    let shown = rw (c.params-to_sql.ensures, c.params-to_sql-2.ensures, c.params-to_sql-3.ensures) at (c.in_ok-rows.ensures.ok clean) in
    let is_open = shown_open select_piece (given c.args.in_box.now c.args.name.now c.args.part) old new c.in_ok-rows.rows.items shown in
    let first : slice_get c.in_ok-rows.rows.items 0 ≡ Some c.in-Some.row.now = ap (λ l. slice_get l 0) (sym c.deref.ensures.value) ∙ sym c.in-Some.ensures.value in
    let there = has_got c.in_ok-rows.rows.items 0 c.in-Some.row.now first in
    let found = piece_shown v ours old new (has is_open) (whole is_open) c.args.in_box.now c.args.name.now c.args.part c.in_ok-rows.rows.items shown c.in-Some.row.now c.in-Blob.piece.now there (sym c.in_ok-piece.ensures.ok.1 ∙ ap owned c.in-Blob.is) in
    let added : drop (length c.args.bytes.now.items) c.extend_from_slice.new.self.items ≡ c.in-Blob.piece.now =
    ap (drop (length c.args.bytes.now.items)) c.in_ok-extend_from_slice.ensures.items ∙ drop-append_seam c.args.bytes.now.items c.in-Blob.piece.now in
    subst (HasPiece (old.now.trees 9) place c.args.part) (sym added) found

pub returns-in_default-clause-read : goal.returns-in_default-clause-read
returns-in_default-clause-read g c v ours has whole inside clean =
    let old = seen g.T.Ledger.view c.args.tx.now in
    let new = seen g.T.Ledger.view c.query.new.self in
    let shown = rw (c.params-to_sql.ensures, c.params-to_sql-2.ensures, c.params-to_sql-3.ensures) at (c.in_ok-rows.ensures.ok clean) in
    let is_open = shown_open select_piece (given c.args.in_box.now c.args.name.now c.args.part) old new c.in_ok-rows.rows.items shown in
    let none = nothing_first c.first.result c.in_ok-rows.rows.items (c.first.ensures.value ∙ ap (λ l. slice_get l 0) c.deref.ensures.value) c.in_default.not-Some in
    no_piece_shown v ours old new (has is_open) (whole is_open) c.args.in_box.now c.args.name.now c.args.part c.in_ok-rows.rows.items shown none

pub returns-clause-same : goal.returns-clause-same
returns-clause-same g c v ours has inside clean =
    let old = seen g.T.Ledger.view c.args.tx.now in
    let new = seen g.T.Ledger.view c.query.new.self in
    let shown = c.in_ok-rows.ensures.ok clean in
    let is_open = shown_open select_piece _ old new c.in_ok-rows.rows.items shown in
    (shown_unchanged v select_piece select_piece_command (asks_of v ours select_piece select_piece_command select_piece_is) _ old new (has is_open) c.in_ok-rows.rows.items shown).0.now_is

pub returns-in_default-clause-same : goal.returns-in_default-clause-same
returns-in_default-clause-same g c v ours has inside clean =
    let old = seen g.T.Ledger.view c.args.tx.now in
    let new = seen g.T.Ledger.view c.query.new.self in
    let shown = c.in_ok-rows.ensures.ok clean in
    let is_open = shown_open select_piece _ old new c.in_ok-rows.rows.items shown in
    (shown_unchanged v select_piece select_piece_command (asks_of v ours select_piece select_piece_command select_piece_is) _ old new (has is_open) c.in_ok-rows.rows.items shown).0.now_is

pub returns-clause-mode : goal.returns-clause-mode
returns-clause-mode g c clean =
    (shown_runs select_piece _ (seen g.T.Ledger.view c.args.tx.now) (seen g.T.Ledger.view c.query.new.self) c.in_ok-rows.rows.items (c.in_ok-rows.ensures.ok clean)).2

pub returns-in_default-clause-mode : goal.returns-in_default-clause-mode
returns-in_default-clause-mode g c clean =
    (shown_runs select_piece _ (seen g.T.Ledger.view c.args.tx.now) (seen g.T.Ledger.view c.query.new.self) c.in_ok-rows.rows.items (c.in_ok-rows.ensures.ok clean)).2
