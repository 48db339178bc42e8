use Rattle.std.proofs.Common.{◌≡◌, ◌∙◌, [], ◌∷◌, Result, Err, sym, ap, subst, arith}
use Rattle.std.proofs.lemmas.Result.{err_from_is_err_and}
use Rattle.boxes.specs.State.{File, Place}
use Rattle.boxes.specs.Bound.{StaysBy}
use Rattle.lists.specs.Places.{place_in}
use Rattle.lists.specs.Exports.{SendsFiles, shown}
use Rattle.lists.specs.Faults.{if_put, IsOfAsking}
use Rattle.lists.specs.declared.export_fault.ExportFault.{ExportFault}
use Rattle.lists.proofs.SentFiles.{asking_failed, keeper_done, told_sent}
use Rattle.lists.proofs.exporting.export_file.Goals as goal

pub returns-in_err-file-clause-sent : goal.returns-in_err-file-clause-sent
returns-in_err-file-clause-sent g c =
    let told = err_from_is_err_and c.from_residual.result c.from_residual.ensures.1 in
    let is : ◌≡◌ {A = Result (Unit {0}) ExportFault} c.from_residual.result (Err c.in_err-file.field-0.0) = told.1 ∙ ap (λ (e : ExportFault). Err e) told.2 in
    λ s meant f there.
    let o = shown (g.F.Folder.holds c.args.folder.now) (g.W.Write.contents c.args.files.now.inner) (g.V.Write.contents c.args.sums.now.inner) in
    subst (λ (r : Result (Unit {0}) ExportFault). SendsFiles {T = Unit {0}} {E = ExportFault} s (if_put {T = Unit {0}} {A = Place × File} r ((place_in c.args.place.now, f) ∷ [])) o o r) (sym is)
    (asking_failed {T = Unit {0}} s o c.in_err-file.field-0.0 ((place_in c.args.place.now, f) ∷ []) c.in_err-file.ensures.fault)

pub returns-in_err-texts-clause-sent : goal.returns-in_err-texts-clause-sent
returns-in_err-texts-clause-sent g c =
    let told = err_from_is_err_and c.from_residual-in_err-texts.result c.from_residual-in_err-texts.ensures.1 in
    let is : ◌≡◌ {A = Result (Unit {0}) ExportFault} c.from_residual-in_err-texts.result (Err c.in_err-texts.field-0.0) = told.1 ∙ ap (λ (e : ExportFault). Err e) told.2 in
    λ s meant f there.
    let o = shown (g.F.Folder.holds c.args.folder.now) (g.W.Write.contents c.args.files.now.inner) (g.V.Write.contents c.args.sums.now.inner) in
    subst (λ (r : Result (Unit {0}) ExportFault). SendsFiles {T = Unit {0}} {E = ExportFault} s (if_put {T = Unit {0}} {A = Place × File} r ((place_in c.args.place.now, f) ∷ [])) o o r) (sym is)
    (asking_failed {T = Unit {0}} s o c.in_err-texts.field-0.0 ((place_in c.args.place.now, f) ∷ []) (subst IsOfAsking (sym c.in_err-texts.ensures.memory) tt))

pub returns-clause-sent : goal.returns-clause-sent
returns-clause-sent g c = λ s meant f there.
    told_sent s (place_in c.args.place.now) c.in_ok-file.file f c.in_ok-texts.texts.path.folder.items c.in_ok-texts.texts.path.name.items c.in_ok-texts.texts.path.text.items
    c.in_ok-texts.texts.row.items c.in_ok-texts.texts.sum.items
    (shown (g.F.Folder.holds c.args.folder.now) (g.W.Write.contents c.args.files.now.inner) (g.V.Write.contents c.args.sums.now.inner))
    (shown (g.F.Folder.holds c.write_file.new.folder) (g.W.Write.contents c.write_file.new.files.inner) (g.V.Write.contents c.write_file.new.sums.inner))
    c.write_file.result meant.1 (c.in_ok-file.ensures.value s meant) there c.in_ok-texts.ensures.folder.0 c.in_ok-texts.ensures.name.0 c.in_ok-texts.ensures.path
    c.in_ok-texts.ensures.row c.in_ok-texts.ensures.sum c.write_file.ensures.put c.write_file.ensures.row c.write_file.ensures.sum

pub returns-clause-stays : goal.returns-clause-stays
returns-clause-stays g c = subst (StaysBy g.K.Keeper c.args.keeper.now c.file_at.new.keeper) (sym (keeper_done c.write_file.result c.write_file.ensures.fault)) c.in_ok-file.ensures.stays

pub returns-clause-files_count : goal.returns-clause-files_count
returns-clause-files_count g c = c.write_file.ensures.files_count

pub returns-clause-sums_count : goal.returns-clause-sums_count
returns-clause-sums_count g c = c.write_file.ensures.sums_count

pub write_file-requires-clause-folder : goal.write_file-requires-clause-folder
write_file-requires-clause-folder g c = c.in_ok-texts.ensures.folder.1

pub write_file-requires-clause-name : goal.write_file-requires-clause-name
write_file-requires-clause-name g c = c.in_ok-texts.ensures.name.1

pub returns-in_err-file-clause-stays : goal.returns-in_err-file-clause-stays
returns-in_err-file-clause-stays g c = grind arith
