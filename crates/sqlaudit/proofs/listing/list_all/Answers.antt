use Rattle.std.proofs.Common.{[], arith, subst, ◌∙◌}
use Rattle.sqltables.specs.Inside.{seen}
use Rattle.sqlite.specs.Effect.{Database}
use Rattle.sqlite.specs.State.{HasCleanDisk}
use Rattle.sqlaudit.specs.Lines.{AreLines, AreLinesWhere, HaveRowids, IsLater, IsKeyLine, IsBoxLine, IsReceiptLine, IsPieceLine}
use Rattle.sqlaudit.specs.Formats.{version_of}
use Rattle.sqlaudit.specs.Opened.{AreAdded}
use Rattle.sqlaudit.proofs.Extents.{is_version}
use Rattle.sqlaudit.proofs.StillReads.{begins, goes_on, whole_still}
use Rattle.sqlaudit.specs.Portions.{AreRowids}
use Rattle.sqlaudit.proofs.LongTexts.{receipt_shown, counts_receipts, asks_receipts, file_numbers, counts_files, piece_shown, counts_pieces, asks_pieces, later}
use Rattle.sqltables.proofs.Onward.{and_then, begun_then, failed, succeeded}
use Rattle.sqlaudit.proofs.PortionRows.{counted}
use Rattle.sqlaudit.proofs.WholeTables.{lists_keys, lists_boxes, lists_receipts, lists_pieces}
use Rattle.sqlaudit.proofs.listing.list_all.Goals as goal

pub returns-clause-listed : goal.returns-clause-listed
returns-clause-listed g c has whole inside clean =
    let v = version_of c.args.format in
    let ours = is_version c.args.format in
    let entry = seen g.T.Ledger.view c.args.tx.now in
    let at_keys = seen g.T.Ledger.view c.list.new.tx in
    let at_boxes = seen g.T.Ledger.view c.list-2.new.tx in
    let at_pieces = seen g.T.Ledger.view c.list_long.new.tx in
    let at_files = seen g.T.Ledger.view c.list_numbers.new.tx in
    let at_receipts = seen g.T.Ledger.view c.list_long-2.new.tx in
    let clean_receipts : HasCleanDisk at_receipts = omega (arith, clean, c.list_added.ensures.rest.survives.clean) in
    let clean_files : HasCleanDisk at_files = omega (arith, clean_receipts, c.list_long-2.ensures.rest.survives.clean) in
    let clean_pieces : HasCleanDisk at_pieces = omega (arith, clean_files, c.list_numbers.ensures.rest.survives.clean) in
    let clean_boxes : HasCleanDisk at_boxes = omega (arith, clean_pieces, c.list_long.ensures.rest.survives.clean) in
    let clean_keys : HasCleanDisk at_keys = omega (arith, clean_boxes, c.list-2.ensures.rest.survives.clean) in
    let s0 = begins v entry has inside in
    let keys = lists_keys v ours entry at_keys s0.schema c.in_ok-list.field-0.items (c.in_ok-list.ensures.read clean_keys) in
    let s1 = goes_on v entry entry at_keys s0 keys.same (c.in_ok-list.ensures.rest.running clean_keys s0.inside) (c.list.ensures.rest.uncommitted clean_keys s0.inside) in
    let boxes = lists_boxes v ours at_keys at_boxes s1.schema c.in_ok-list-2.field-0.items (c.in_ok-list-2.ensures.read clean_boxes) in
    let s2 = goes_on v entry at_keys at_boxes s1 boxes.same (c.in_ok-list-2.ensures.rest.running clean_boxes s1.inside) (c.list-2.ensures.rest.uncommitted clean_boxes s1.inside) in
    let pieces_same = c.in_ok-list_long.ensures.same v 9 later piece_shown (counts_pieces v ours) (asks_pieces v ours) s2.schema s2.inside clean_pieces in
    let s3 = goes_on v entry at_boxes at_pieces s2 pieces_same (c.in_ok-list_long.ensures.rest.running clean_pieces s2.inside) (c.list_long.ensures.rest.uncommitted clean_pieces s2.inside) in
    let files = counted v file_numbers 6 (counts_files v ours) at_pieces at_files s3.schema c.in_ok-list_numbers.field-0.items (c.in_ok-list_numbers.ensures.read clean_files) in
    let s4 = goes_on v entry at_pieces at_files s3 files.same (c.in_ok-list_numbers.ensures.rest.running clean_files s3.inside) (c.list_numbers.ensures.rest.uncommitted clean_files s3.inside) in
    let receipts = lists_receipts at_files at_receipts c.in_ok-list_long-2.field-0.items (c.in_ok-list_long-2.ensures.read v 5 [] receipt_shown (counts_receipts v ours) (asks_receipts v ours) s4.schema s4.inside clean_receipts)
    (c.in_ok-list_long-2.ensures.rowids v 5 (counts_receipts v ours) s4.schema s4.inside clean_receipts) (c.in_ok-list_long-2.ensures.same v 5 [] receipt_shown (counts_receipts v ours) (asks_receipts v ours) s4.schema s4.inside clean_receipts) in
    let s5 = goes_on v entry at_files at_receipts s4 receipts.same (c.in_ok-list_long-2.ensures.rest.running clean_receipts s4.inside) (c.list_long-2.ensures.rest.uncommitted clean_receipts s4.inside) in
    let is_open = (c.in_ok-list-2.ensures.rest.running clean_boxes s1.inside).1 in
    let pieces = lists_pieces at_boxes at_pieces v ours (s2.schema is_open) (whole_still v entry at_boxes s2 whole is_open) c.in_ok-list_long.field-0.items (c.in_ok-list_long.ensures.read v 9 later piece_shown (counts_pieces v ours) (asks_pieces v ours) s2.schema s2.inside clean_pieces)
    (c.in_ok-list_long.ensures.rowids v 9 (counts_pieces v ours) s2.schema s2.inside clean_pieces) pieces_same in
    let added = c.in_ok-list_added.ensures.listed s5.schema s5.inside clean in
    record {
      keys = subst (λ (d : Database). AreLines IsKeyLine (d.trees 1) c.in_ok-list.field-0.items) s0.same keys.lines_are;
      boxes = subst (λ (d : Database). AreLines IsBoxLine (d.trees 3) c.in_ok-list-2.field-0.items) s1.same boxes.lines_are;
      pieces = subst (λ (d : Database). AreLinesWhere IsLater IsPieceLine (d.trees 9) c.in_ok-list_long.field-0.items) s2.same pieces.lines_are;
      files = subst (λ (d : Database). AreRowids (d.trees 6) c.in_ok-list_numbers.field-0.items) s3.same files.rowids;
      receipts = subst (λ (d : Database). AreLines IsReceiptLine (d.trees 5) c.in_ok-list_long-2.field-0.items) s4.same receipts.lines_are;
      keys_rowids = subst (λ (d : Database). HaveRowids (d.trees 1)) s0.same keys.rowids;
      boxes_rowids = subst (λ (d : Database). HaveRowids (d.trees 3)) s1.same boxes.rowids;
      receipts_rowids = subst (λ (d : Database). HaveRowids (d.trees 5)) s4.same receipts.rowids;
      files_rowids = subst (λ (d : Database). HaveRowids (d.trees 6)) s3.same files.have;
      pieces_rowids = subst (λ (d : Database). HaveRowids (d.trees 9)) s2.same pieces.rowids;
      added = subst (λ d. AreAdded v d c.in_ok-list_added.field-0.rules.items c.in_ok-list_added.field-0.limits.items) s5.same added;
    }

pub returns-clause-same : goal.returns-clause-same
returns-clause-same g c has inside clean =
    let v = version_of c.args.format in
    let ours = is_version c.args.format in
    let entry = seen g.T.Ledger.view c.args.tx.now in
    let at_keys = seen g.T.Ledger.view c.list.new.tx in
    let at_boxes = seen g.T.Ledger.view c.list-2.new.tx in
    let at_pieces = seen g.T.Ledger.view c.list_long.new.tx in
    let at_files = seen g.T.Ledger.view c.list_numbers.new.tx in
    let at_receipts = seen g.T.Ledger.view c.list_long-2.new.tx in
    let clean_receipts : HasCleanDisk at_receipts = omega (arith, clean, c.list_added.ensures.rest.survives.clean) in
    let clean_files : HasCleanDisk at_files = omega (arith, clean_receipts, c.list_long-2.ensures.rest.survives.clean) in
    let clean_pieces : HasCleanDisk at_pieces = omega (arith, clean_files, c.list_numbers.ensures.rest.survives.clean) in
    let clean_boxes : HasCleanDisk at_boxes = omega (arith, clean_pieces, c.list_long.ensures.rest.survives.clean) in
    let clean_keys : HasCleanDisk at_keys = omega (arith, clean_boxes, c.list-2.ensures.rest.survives.clean) in
    let s0 = begins v entry has inside in
    let keys = lists_keys v ours entry at_keys s0.schema c.in_ok-list.field-0.items (c.in_ok-list.ensures.read clean_keys) in
    let s1 = goes_on v entry entry at_keys s0 keys.same (c.in_ok-list.ensures.rest.running clean_keys s0.inside) (c.list.ensures.rest.uncommitted clean_keys s0.inside) in
    let boxes = lists_boxes v ours at_keys at_boxes s1.schema c.in_ok-list-2.field-0.items (c.in_ok-list-2.ensures.read clean_boxes) in
    let s2 = goes_on v entry at_keys at_boxes s1 boxes.same (c.in_ok-list-2.ensures.rest.running clean_boxes s1.inside) (c.list-2.ensures.rest.uncommitted clean_boxes s1.inside) in
    let pieces_same = c.in_ok-list_long.ensures.same v 9 later piece_shown (counts_pieces v ours) (asks_pieces v ours) s2.schema s2.inside clean_pieces in
    let s3 = goes_on v entry at_boxes at_pieces s2 pieces_same (c.in_ok-list_long.ensures.rest.running clean_pieces s2.inside) (c.list_long.ensures.rest.uncommitted clean_pieces s2.inside) in
    let files = counted v file_numbers 6 (counts_files v ours) at_pieces at_files s3.schema c.in_ok-list_numbers.field-0.items (c.in_ok-list_numbers.ensures.read clean_files) in
    let s4 = goes_on v entry at_pieces at_files s3 files.same (c.in_ok-list_numbers.ensures.rest.running clean_files s3.inside) (c.list_numbers.ensures.rest.uncommitted clean_files s3.inside) in
    let receipts = lists_receipts at_files at_receipts c.in_ok-list_long-2.field-0.items (c.in_ok-list_long-2.ensures.read v 5 [] receipt_shown (counts_receipts v ours) (asks_receipts v ours) s4.schema s4.inside clean_receipts)
    (c.in_ok-list_long-2.ensures.rowids v 5 (counts_receipts v ours) s4.schema s4.inside clean_receipts) (c.in_ok-list_long-2.ensures.same v 5 [] receipt_shown (counts_receipts v ours) (asks_receipts v ours) s4.schema s4.inside clean_receipts) in
    let s5 = goes_on v entry at_files at_receipts s4 receipts.same (c.in_ok-list_long-2.ensures.rest.running clean_receipts s4.inside) (c.list_long-2.ensures.rest.uncommitted clean_receipts s4.inside) in
    c.in_ok-list_added.ensures.same s5.schema s5.inside clean ∙ s5.same

pub returns-in_err-list-clause-rest : goal.returns-in_err-list-clause-rest
returns-in_err-list-clause-rest g c = failed c.from_residual.result c.list.ensures.rest c.from_residual.ensures.0

pub returns-in_err-list-2-clause-rest : goal.returns-in_err-list-2-clause-rest
returns-in_err-list-2-clause-rest g c =
    begun_then c.in_ok-list.ensures.rest (failed c.from_residual-in_err-list-2.result c.list-2.ensures.rest c.from_residual-in_err-list-2.ensures.0)

pub returns-in_err-list_long-clause-rest : goal.returns-in_err-list_long-clause-rest
returns-in_err-list_long-clause-rest g c =
    begun_then c.in_ok-list.ensures.rest (begun_then c.in_ok-list-2.ensures.rest (failed c.from_residual-in_err-list_long.result c.list_long.ensures.rest c.from_residual-in_err-list_long.ensures.0))

pub returns-in_err-list_numbers-clause-rest : goal.returns-in_err-list_numbers-clause-rest
returns-in_err-list_numbers-clause-rest g c =
    begun_then c.in_ok-list.ensures.rest (begun_then c.in_ok-list-2.ensures.rest (begun_then c.in_ok-list_long.ensures.rest (failed c.from_residual-in_err-list_numbers.result c.list_numbers.ensures.rest c.from_residual-in_err-list_numbers.ensures.0)))

pub returns-in_err-list_long-2-clause-rest : goal.returns-in_err-list_long-2-clause-rest
returns-in_err-list_long-2-clause-rest g c =
    begun_then c.in_ok-list.ensures.rest (begun_then c.in_ok-list-2.ensures.rest (begun_then c.in_ok-list_long.ensures.rest (begun_then c.in_ok-list_numbers.ensures.rest
    (failed c.from_residual-in_err-list_long-2.result c.list_long-2.ensures.rest c.from_residual-in_err-list_long-2.ensures.0))))

pub returns-in_err-list_added-clause-rest : goal.returns-in_err-list_added-clause-rest
returns-in_err-list_added-clause-rest g c =
    begun_then c.in_ok-list.ensures.rest (begun_then c.in_ok-list-2.ensures.rest (begun_then c.in_ok-list_long.ensures.rest (begun_then c.in_ok-list_numbers.ensures.rest
    (and_then (λ began. began) (λ running. (running, running.0)) c.in_ok-list_long-2.ensures.rest (failed c.from_residual-in_err-list_added.result c.list_added.ensures.rest c.from_residual-in_err-list_added.ensures.0)))))

pub returns-clause-rest : goal.returns-clause-rest
returns-clause-rest g c =
    begun_then c.in_ok-list.ensures.rest (begun_then c.in_ok-list-2.ensures.rest (begun_then c.in_ok-list_long.ensures.rest (begun_then c.in_ok-list_numbers.ensures.rest
    (and_then (λ began. began) (λ running. (running, running.0)) c.in_ok-list_long-2.ensures.rest (succeeded _ c.in_ok-list_added.ensures.rest)))))
