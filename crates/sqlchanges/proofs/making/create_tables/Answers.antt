use Rattle.std.proofs.Common.{refl}
use Rattle.sqltables.specs.Schema.{office_table, keys_table, boxes_table, receipts_table, files_table, pieces_table, s0, s1, s2, s3, s4, s5, s6}
use Rattle.sqlchanges.proofs.Chained.{goes_on_then, failed}
use Rattle.sqlchanges.proofs.Creates.{create_office, makes_office, create_keys, makes_keys, create_boxes, makes_boxes, create_receipts, makes_receipts, create_files, makes_files, create_pieces, makes_pieces}
use Rattle.sqlchanges.proofs.FirstRows.{makes_empty}
use Rattle.sqlchanges.proofs.making.create_tables.Goals as goal

pub returns-clause-done : goal.returns-clause-done
returns-clause-done g c sees =
    let office = c.in_ok-create_table.ensures.done s0 s1 (makes_empty s0 office_table create_office makes_office refl _ _) sees in
    let keys = c.in_ok-create_table-2.ensures.done s1 s2 (makes_empty s1 keys_table create_keys makes_keys refl _ _) office in
    let boxes = c.in_ok-create_table-3.ensures.done s2 s3 (makes_empty s2 boxes_table create_boxes makes_boxes refl _ _) keys in
    let receipts = c.in_ok-create_table-4.ensures.done s3 s4 (makes_empty s3 receipts_table create_receipts makes_receipts refl _ _) boxes in
    let files = c.in_ok-create_table-5.ensures.done s4 s5 (makes_empty s4 files_table create_files makes_files refl _ _) receipts in
    c.create_table-6.ensures.done s5 s6 (makes_empty s5 pieces_table create_pieces makes_pieces refl _ _) files

pub returns-clause-rest : goal.returns-clause-rest
returns-clause-rest g c =
    let two = goes_on_then g.T.Ledger.view _ _ _ _ _ c.create_table.ensures.rest c.create_table-2.ensures.rest in
    let three = goes_on_then g.T.Ledger.view _ _ _ _ _ two c.create_table-3.ensures.rest in
    let four = goes_on_then g.T.Ledger.view _ _ _ _ _ three c.create_table-4.ensures.rest in
    let five = goes_on_then g.T.Ledger.view _ _ _ _ _ four c.create_table-5.ensures.rest in
    goes_on_then g.T.Ledger.view _ _ _ _ _ five c.create_table-6.ensures.rest

pub returns-in_err-create_table-clause-rest : goal.returns-in_err-create_table-clause-rest
returns-in_err-create_table-clause-rest g c = failed c.from_residual.result c.create_table.ensures.rest c.from_residual.ensures.0

pub returns-in_err-create_table-2-clause-rest : goal.returns-in_err-create_table-2-clause-rest
returns-in_err-create_table-2-clause-rest g c =
    let two = goes_on_then g.T.Ledger.view _ _ _ _ _ c.create_table.ensures.rest c.create_table-2.ensures.rest in
    failed c.from_residual-in_err-create_table-2.result two c.from_residual-in_err-create_table-2.ensures.0

pub returns-in_err-create_table-3-clause-rest : goal.returns-in_err-create_table-3-clause-rest
returns-in_err-create_table-3-clause-rest g c =
    let two = goes_on_then g.T.Ledger.view _ _ _ _ _ c.create_table.ensures.rest c.create_table-2.ensures.rest in
    let three = goes_on_then g.T.Ledger.view _ _ _ _ _ two c.create_table-3.ensures.rest in
    failed c.from_residual-in_err-create_table-3.result three c.from_residual-in_err-create_table-3.ensures.0

pub returns-in_err-create_table-4-clause-rest : goal.returns-in_err-create_table-4-clause-rest
returns-in_err-create_table-4-clause-rest g c =
    let two = goes_on_then g.T.Ledger.view _ _ _ _ _ c.create_table.ensures.rest c.create_table-2.ensures.rest in
    let three = goes_on_then g.T.Ledger.view _ _ _ _ _ two c.create_table-3.ensures.rest in
    let four = goes_on_then g.T.Ledger.view _ _ _ _ _ three c.create_table-4.ensures.rest in
    failed c.from_residual-in_err-create_table-4.result four c.from_residual-in_err-create_table-4.ensures.0

pub returns-in_err-create_table-5-clause-rest : goal.returns-in_err-create_table-5-clause-rest
returns-in_err-create_table-5-clause-rest g c =
    let two = goes_on_then g.T.Ledger.view _ _ _ _ _ c.create_table.ensures.rest c.create_table-2.ensures.rest in
    let three = goes_on_then g.T.Ledger.view _ _ _ _ _ two c.create_table-3.ensures.rest in
    let four = goes_on_then g.T.Ledger.view _ _ _ _ _ three c.create_table-4.ensures.rest in
    let five = goes_on_then g.T.Ledger.view _ _ _ _ _ four c.create_table-5.ensures.rest in
    failed c.from_residual-in_err-create_table-5.result five c.from_residual-in_err-create_table-5.ensures.0
