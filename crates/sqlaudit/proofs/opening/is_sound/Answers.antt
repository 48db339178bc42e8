use Rattle.std.proofs.Common.{◌≡◌, ◌∙◌, IsTrue, true, false, refl, sym, subst, arith}
use Rattle.std.proofs.lemmas.Bool.{false≢true}
use Rattle.std.specs.Prelude.{Contains, MatchBool, MatchOption}
use Rattle.boxes.specs.State.{State as Office}
use Rattle.sqltables.specs.Inside.{seen}
use Rattle.sqltables.specs.Schema.{v1}
use Rattle.sqlaudit.specs.Formats.{version_of}
use Rattle.sqlaudit.specs.Lines.{AreLinesWhere, IsLater, IsPieceLine}
use Rattle.sqlaudit.specs.Opened.{AreOffice, AreShortLines}
use Rattle.sqlaudit.specs.Outlines.{AreSoundLines}
use Rattle.sqlaudit.specs.Portions.{AreRowids}
use Rattle.sqlaudit.specs.Sorting.{AreRuled, HasTotals, HoldsReceipts}
use Rattle.sqlaudit.specs.Walking.{AreAllFiles, LackFiles}
use Rattle.sqlaudit.specs.declared.lines.BoxLine.{BoxLine}
use Rattle.sqlaudit.specs.declared.rules.Lines.{Lines}
use Rattle.sqlaudit.proofs.Extents.{is_version}
use Rattle.sqlaudit.proofs.Tested.{AreLent, are_listed, unsound, unfit, lacks_files, lacks_totals, lacks_pieces, tested, pieces_are, pieces_lack}
use Rattle.sqlaudit.proofs.WholeRules.{refuted}
use Rattle.sqltables.proofs.Onward.{failed, not_called, refused, succeeded}
use Rattle.sqlaudit.proofs.opening.is_sound.Goals as goal

pub returns-then-not-fit_version-clause-found : goal.returns-then-not-fit_version-clause-found
returns-then-not-fit_version-clause-found g c has whole running clean lines rowids of tables =
    let v = version_of c.args.format in
    let ours = is_version c.args.format in
    let db = (seen g.T.Ledger.view c.args.tx.now).now in
    let lent : Lines = record { office = c.args.office; keys = c.deref.result; boxes = c.deref-2.result; receipts = c.deref-3.result; rules = c.deref-4.result; limits = c.deref-5.result } in
    let is : AreLent lent c.args.office.now c.args.listed.now = record { office = refl; keys = c.deref.ensures.value; boxes = c.deref-2.ensures.value; receipts = c.deref-3.ensures.value; rules = c.deref-4.ensures.value; limits = c.deref-5.ensures.value } in
    let are = are_listed v db lent c.args.office.now c.args.listed.now is lines rowids tables in
    unfit v ours db lent c.args.office.now c.args.listed.now is are (λ fits. false≢true (sym c.if-not-fit_version.true ∙ c.fit_version.ensures.1 fits))

pub returns-then-not-sound-clause-found : goal.returns-then-not-sound-clause-found
returns-then-not-sound-clause-found g c has whole running clean lines rowids of tables =
    let v = version_of c.args.format in
    let ours = is_version c.args.format in
    let db = (seen g.T.Ledger.view c.args.tx.now).now in
    let lent : Lines = record { office = c.args.office; keys = c.deref.result; boxes = c.deref-2.result; receipts = c.deref-3.result; rules = c.deref-4.result; limits = c.deref-5.result } in
    let is : AreLent lent c.args.office.now c.args.listed.now = record { office = refl; keys = c.deref.ensures.value; boxes = c.deref-2.ensures.value; receipts = c.deref-3.ensures.value; rules = c.deref-4.ensures.value; limits = c.deref-5.ensures.value } in
    let are = are_listed v db lent c.args.office.now c.args.listed.now is lines rowids tables in
    let sound = c.in-Ok.ensures (c.are_rising.ensures c.if-not-are_rising.false) in
    unsound v ours db lent c.args.office.now c.args.listed.now is are (subst (λ b. MatchBool b (AreRuled lent) (AreSoundLines lent → ⊥)) c.if-not-sound.true sound)

pub returns-in_default-2-clause-found : goal.returns-in_default-2-clause-found
returns-in_default-2-clause-found g c has whole running clean lines rowids of tables =
    let v = version_of c.args.format in
    let ours = is_version c.args.format in
    let db = (seen g.T.Ledger.view c.args.tx.now).now in
    let lent : Lines = record { office = c.args.office; keys = c.deref.result; boxes = c.deref-2.result; receipts = c.deref-3.result; rules = c.deref-4.result; limits = c.deref-5.result } in
    let is : AreLent lent c.args.office.now c.args.listed.now = record { office = refl; keys = c.deref.ensures.value; boxes = c.deref-2.ensures.value; receipts = c.deref-3.ensures.value; rules = c.deref-4.ensures.value; limits = c.deref-5.ensures.value } in
    let are = are_listed v db lent c.args.office.now c.args.listed.now is lines rowids tables in
    let sound = c.in-Ok.ensures (c.are_rising.ensures c.if-not-are_rising.false) in
    let r = subst (λ b. MatchBool b (AreRuled lent) (AreSoundLines lent → ⊥)) c.if-not-sound.false sound in
    let given : c.deref-3.result.now ≡ c.deref-7.result.now = c.deref-3.ensures.value ∙ sym c.deref-7.ensures.value in
    let found = subst (λ ls. MatchOption c.in_ok-filed.field-0 (LackFiles r.receipts ls db) (AreAllFiles r.receipts ls db)) (sym given)
    (c.in_ok-filed.ensures.read r.receipts (subst (λ ls. HoldsReceipts ls r.receipts) given r.held) (subst (AreRowids (db.trees 6)) (sym c.deref-6.ensures.value) tables.files) v ours has whole running clean) in
    lacks_files v ours db lent c.args.office.now c.args.listed.now is are r
    (subst (λ o. MatchOption o (LackFiles r.receipts lent.receipts.now db) (AreAllFiles r.receipts lent.receipts.now db)) c.in_default-2.is found)

pub returns-then-not-have_totals-clause-found : goal.returns-then-not-have_totals-clause-found
returns-then-not-have_totals-clause-found g c has whole running clean lines rowids of tables =
    let v = version_of c.args.format in
    let ours = is_version c.args.format in
    let db = (seen g.T.Ledger.view c.args.tx.now).now in
    let lent : Lines = record { office = c.args.office; keys = c.deref.result; boxes = c.deref-2.result; receipts = c.deref-3.result; rules = c.deref-4.result; limits = c.deref-5.result } in
    let is : AreLent lent c.args.office.now c.args.listed.now = record { office = refl; keys = c.deref.ensures.value; boxes = c.deref-2.ensures.value; receipts = c.deref-3.ensures.value; rules = c.deref-4.ensures.value; limits = c.deref-5.ensures.value } in
    let are = are_listed v db lent c.args.office.now c.args.listed.now is lines rowids tables in
    let sound = c.in-Ok.ensures (c.are_rising.ensures c.if-not-are_rising.false) in
    let r = subst (λ b. MatchBool b (AreRuled lent) (AreSoundLines lent → ⊥)) c.if-not-sound.false sound in
    let given : c.deref-3.result.now ≡ c.deref-7.result.now = c.deref-3.ensures.value ∙ sym c.deref-7.ensures.value in
    let found = subst (λ ls. MatchOption c.in_ok-filed.field-0 (LackFiles r.receipts ls db) (AreAllFiles r.receipts ls db)) (sym given)
    (c.in_ok-filed.ensures.read r.receipts (subst (λ ls. HoldsReceipts ls r.receipts) given r.held) (subst (AreRowids (db.trees 6)) (sym c.deref-6.ensures.value) tables.files) v ours has whole running clean) in
    let filed = c.in-Some.filed in
    let all = subst (λ o. MatchOption o (LackFiles r.receipts lent.receipts.now db) (AreAllFiles r.receipts lent.receipts.now db)) c.in-Some.is found in
    let m = all.filed_are.0.map in
    let boxes : c.deref-2.result.now ≡ c.deref-8.result.now = c.deref-2.ensures.value ∙ sym c.deref-8.ensures.value in
    let told = subst (λ ls. (IsTrue c.have_totals.result → (line : BoxLine) → Contains ls line → HasTotals r.receipts m line) × (((line : BoxLine) → Contains ls line → HasTotals r.receipts m line) → IsTrue c.have_totals.result))
    (sym boxes) (c.have_totals.ensures r.receipts m all.filed_are.1) in
    lacks_totals v ours db lent c.args.office.now c.args.listed.now is are r filed all (λ totals. refuted c.if-not-have_totals.true (told.1 totals))

pub returns-clause-found : goal.returns-clause-found
returns-clause-found g c has whole running clean lines rowids of tables =
    let v = version_of c.args.format in
    let ours = is_version c.args.format in
    let db = (seen g.T.Ledger.view c.args.tx.now).now in
    let lent : Lines = record { office = c.args.office; keys = c.deref.result; boxes = c.deref-2.result; receipts = c.deref-3.result; rules = c.deref-4.result; limits = c.deref-5.result } in
    let is : AreLent lent c.args.office.now c.args.listed.now = record { office = refl; keys = c.deref.ensures.value; boxes = c.deref-2.ensures.value; receipts = c.deref-3.ensures.value; rules = c.deref-4.ensures.value; limits = c.deref-5.ensures.value } in
    let are = are_listed v db lent c.args.office.now c.args.listed.now is lines rowids tables in
    let sound = c.in-Ok.ensures (c.are_rising.ensures c.if-not-are_rising.false) in
    let r = subst (λ b. MatchBool b (AreRuled lent) (AreSoundLines lent → ⊥)) c.if-not-sound.false sound in
    let given : c.deref-3.result.now ≡ c.deref-7.result.now = c.deref-3.ensures.value ∙ sym c.deref-7.ensures.value in
    let found = subst (λ ls. MatchOption c.in_ok-filed.field-0 (LackFiles r.receipts ls db) (AreAllFiles r.receipts ls db)) (sym given)
    (c.in_ok-filed.ensures.read r.receipts (subst (λ ls. HoldsReceipts ls r.receipts) given r.held) (subst (AreRowids (db.trees 6)) (sym c.deref-6.ensures.value) tables.files) v ours has whole running clean) in
    let filed = c.in-Some.filed in
    let all = subst (λ o. MatchOption o (LackFiles r.receipts lent.receipts.now db) (AreAllFiles r.receipts lent.receipts.now db)) c.in-Some.is found in
    let m = all.filed_are.0.map in
    let boxes : c.deref-2.result.now ≡ c.deref-8.result.now = c.deref-2.ensures.value ∙ sym c.deref-8.ensures.value in
    let told = subst (λ ls. (IsTrue c.have_totals.result → (line : BoxLine) → Contains ls line → HasTotals r.receipts m line) × (((line : BoxLine) → Contains ls line → HasTotals r.receipts m line) → IsTrue c.have_totals.result))
    (sym boxes) (c.have_totals.ensures r.receipts m all.filed_are.1) in
    let short : v ≡ v1 → AreShortLines lent.receipts.now = c.fit_version.ensures.0 c.if-not-fit_version.false in
    let last : c.deref-3.result.now ≡ c.deref-10.result.now = c.deref-3.ensures.value ∙ sym c.deref-10.ensures.value in
    let pieces = c.are_pieces.ensures r.receipts m (subst (λ ls. HoldsReceipts ls r.receipts) last r.held) all.filed_are.0.means in
    let listed = subst (AreLinesWhere IsLater IsPieceLine (db.trees 9)) (sym c.deref-9.ensures.value) tables.pieces in
    elim c.are_pieces.result as (λ b. c.are_pieces.result ≡ b → MatchBool b ((o : Office) × AreOffice v db o) ((o : Office) → AreOffice v db o → ⊥)) [
      | true ↦ λ fit.
          tested v ours db lent c.args.office.now c.args.listed.now is are r (has running.1) (whole running.1) of filed all tables.files_rowids (told.0 c.if-not-have_totals.false)
          (pieces_are db c.deref-9.result.now listed r.receipts m (pieces.0 fit)) tables.pieces_rowids short
      | false ↦ λ not.
          lacks_pieces v ours db lent c.args.office.now c.args.listed.now is are r filed all
          (pieces_lack db c.deref-9.result.now listed r.receipts m (λ fit. refuted not (pieces.1 fit)))
    ] refl

pub returns-then-not-are_rising-clause-rest : goal.returns-then-not-are_rising-clause-rest
returns-then-not-are_rising-clause-rest g c = refused c.args.tx.now

pub returns-then-not-fit_version-clause-rest : goal.returns-then-not-fit_version-clause-rest
returns-then-not-fit_version-clause-rest g c = not_called c.args.tx.now _ (λ running. running)

pub returns-in_default-clause-rest : goal.returns-in_default-clause-rest
returns-in_default-clause-rest g c = refused c.args.tx.now

pub returns-then-not-sound-clause-rest : goal.returns-then-not-sound-clause-rest
returns-then-not-sound-clause-rest g c = not_called c.args.tx.now _ (λ running. running)

pub returns-in_err-filed-clause-rest : goal.returns-in_err-filed-clause-rest
returns-in_err-filed-clause-rest g c = failed c.from_residual.result c.test_files.ensures.rest c.from_residual.ensures.0

pub returns-in_default-2-clause-rest : goal.returns-in_default-2-clause-rest
returns-in_default-2-clause-rest g c = succeeded _ c.in_ok-filed.ensures.rest

pub returns-then-not-have_totals-clause-rest : goal.returns-then-not-have_totals-clause-rest
returns-then-not-have_totals-clause-rest g c = succeeded _ c.in_ok-filed.ensures.rest

pub returns-clause-rest : goal.returns-clause-rest
returns-clause-rest g c = succeeded _ c.in_ok-filed.ensures.rest

pub returns-in_default-clause-found : goal.returns-in_default-clause-found
returns-in_default-clause-found g c = grind arith

pub returns-then-not-are_rising-clause-found : goal.returns-then-not-are_rising-clause-found
returns-then-not-are_rising-clause-found g c = grind arith
