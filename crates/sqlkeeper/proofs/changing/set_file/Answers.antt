use Rattle.std.proofs.Common.{◌≡◌, ◌+◌, length, slice_get, is_some, None, rules, sym, refl, subst, arith, ◌∙◌, OnOk}
use Rattle.std.specs.FinMap.{get}
use Rattle.std.proofs.lemmas.Option.{slice_get_past}
use Rattle.sqltables.specs.Inside.{seen}
use Rattle.sqlite.specs.State.{HasCleanDisk}
use Rattle.boxes.specs.State.{Place, File}
use Rattle.boxes.specs.Steps.{receipt_of}
use Rattle.boxes.specs.Changes.{upload_in}
use Rattle.sqltables.specs.Tables.{tables_of}
use Rattle.sqltables.specs.Means.{Pends}
use Rattle.sqltables.specs.Staging.{held}
use Rattle.sqlchanges.proofs.Commands.{row_of}
use Rattle.sqlkeeper.proofs.FileChanges.{given, same_some, totals_are, upload, in_box, fits_used, fits_count, set_tables}
use Rattle.sqltables.proofs.Onward.{begun_then, failed, gave_up}
use Rattle.sqlchanges.proofs.Chained.{within}
use Rattle.sqlkeeper.proofs.changing.set_file.Goals as goal

pub returns-clause-done : goal.returns-clause-done
returns-clause-done g c v s after ours pends sound set inside = given _ _ c.write_file.result (λ clean.
    let bytes = held c.args.bytes.now in
    let place : Place = record { box = c.in_ok-in_box.in_box.now; name = c.in_ok-name.name.now } in
    let same : place ≡ (upload_in c.args.file.now bytes).place = λ i. record { box = c.in_ok-in_box.ensures i; name = c.in_ok-name.ensures i } in
    let b = in_box s c.args.file.now bytes after place same sound set in
    let last : HasCleanDisk (seen g.T.Ledger.view c.totals.new.tx) = omega (arith, c.write_file.ensures.rest.survives.clean) in
    let first : HasCleanDisk (seen g.T.Ledger.view c.standing_size.new.tx) = omega (arith, c.in_ok-totals.ensures.rest.survives.clean) in
    let old_is = c.in_ok-old.ensures.found v s ours pends sound inside first in
    let running = c.in_ok-old.ensures.rest.running first inside in
    let asked = c.in_ok-old.ensures.still v (tables_of s) ours pends in
    let shown = c.in_ok-totals.ensures.found v (tables_of s) ours asked running.0 last in
    let still = c.in_ok-totals.ensures.still v (tables_of s) ours asked in
    let totals = totals_are s place.box b.0 c.in_ok-totals.field-0 b.1 shown in
    let file : File = record { bytes = bytes; receipt = length s.receipts + 1 } in
    let counted = c.set-held.ensures s place file totals (search rules) old_is (rw c.len.ensures (fits_used s c.args.file.now bytes after place same sound set)) (fits_count s c.args.file.now bytes after place same sound set) in
    let there : (tables_of s).box place.box ≡ _ = rw b.1 in
    let free : slice_get s.receipts (length s.receipts) ≡ None = slice_get_past s.receipts (length s.receipts) (omega arith) in
    let tested : c.is_some.result ≡ is_some c.in_ok-old.old = search rules in
    let stands : c.is_some.result ≡ is_some ((tables_of s).file place) = tested ∙ rw old_is (same_some _ _ (get s.files place)) in
    let r = receipt_of (upload s c.args.file.now bytes after place same sound set) in
    let done = c.write_file.ensures.done v (tables_of s) (row_of s place.box b.0) (length s.receipts) r ours still free stands there set.file.number refl refl (sym set.file.size) (sym set.file.digest) refl refl in
    subst (λ t. OnOk c.write_file.result (Pends v (seen g.T.Ledger.view c.write_file.new.tx) t)) (set_tables s c.args.file.now bytes after place same sound set c.set-held.result counted) done)

pub returns-in_err-in_box-clause-rest : goal.returns-in_err-in_box-clause-rest
returns-in_err-in_box-clause-rest g c = gave_up c.args.tx.now c.from_residual.result c.from_residual.ensures.0

pub returns-in_err-name-clause-rest : goal.returns-in_err-name-clause-rest
returns-in_err-name-clause-rest g c = gave_up c.args.tx.now c.from_residual-in_err-name.result c.from_residual-in_err-name.ensures.0

pub returns-in_err-old-clause-rest : goal.returns-in_err-old-clause-rest
returns-in_err-old-clause-rest g c = failed c.from_residual-in_err-old.result c.standing_size.ensures.rest c.from_residual-in_err-old.ensures.0

pub returns-in_err-totals-clause-rest : goal.returns-in_err-totals-clause-rest
returns-in_err-totals-clause-rest g c = failed c.from_residual-in_err-totals.result (begun_then c.in_ok-old.ensures.rest c.totals.ensures.rest) c.from_residual-in_err-totals.ensures.0

pub returns-clause-rest : goal.returns-clause-rest
returns-clause-rest g c = begun_then (begun_then c.in_ok-old.ensures.rest c.in_ok-totals.ensures.rest) (within c.write_file.ensures.rest)
