use Rattle.std.proofs.Common.{◌≡◌, arith, sym, subst}
use Rattle.std.specs.Prelude.{MatchBool}
use Rattle.sqltables.specs.Inside.{seen}
use Rattle.sqlite.specs.Effect.{Database}
use Rattle.sqlite.specs.State.{HasCleanDisk}
use Rattle.boxes.specs.State.{State as Office}
use Rattle.sqlaudit.specs.Lines.{AreLines, HaveRowids, IsOfficeLine}
use Rattle.sqlaudit.specs.Opened.{AreTables, AreOffice}
use Rattle.sqlaudit.specs.Formats.{version_of}
use Rattle.sqlaudit.proofs.Extents.{is_version}
use Rattle.sqlaudit.proofs.StillReads.{begins, goes_on, whole_still}
use Rattle.sqlaudit.proofs.Tested.{damaged, found_of}
use Rattle.sqltables.proofs.Onward.{and_then, failed, succeeded, weaker}
use Rattle.sqlaudit.proofs.opening.look_at_all.Goals as goal

pub returns-clause-found : goal.returns-clause-found
returns-clause-found g c has whole running clean lines rowids of =
    let v = version_of c.args.format in
    let ours = is_version c.args.format in
    let entry = seen g.T.Ledger.view c.args.tx.now in
    let mid = seen g.T.Ledger.view c.list_all.new.tx in
    let early : HasCleanDisk mid = omega (arith, clean, c.is_sound.ensures.rest.survives.clean) in
    let on = c.in_ok-listed.ensures.rest.running early running.0 in
    let still = goes_on v entry entry mid (begins v entry has running.0) (c.in_ok-listed.ensures.same has running.0 early) on (c.list_all.ensures.rest.uncommitted early running.0) in
    let back : entry.now ≡ mid.now = sym still.same in
    let tables = subst (λ d. AreTables v d c.in_ok-listed.listed) back (c.in_ok-listed.ensures.listed has whole running.0 early) in
    let sound = c.in_ok-sound.ensures.found still.schema (whole_still v entry mid still whole) on clean (subst (λ (d : Database). AreLines IsOfficeLine (d.trees 0) c.args.office.now) back lines)
    (subst (λ (d : Database). HaveRowids (d.trees 0)) back rowids) of tables in
    found_of v entry.now c.finding_of.result c.in_ok-sound.sound c.finding_of.ensures (damaged v ours entry.now c.args.office.now lines of)
    (subst (λ d. MatchBool c.in_ok-sound.sound ((o : Office) × AreOffice v d o) ((o : Office) → AreOffice v d o → ⊥)) still.same sound)

pub returns-in_err-listed-clause-rest : goal.returns-in_err-listed-clause-rest
returns-in_err-listed-clause-rest g c = weaker (λ running. running.0) (λ running. running.0) (failed c.from_residual.result c.list_all.ensures.rest c.from_residual.ensures.0)

pub returns-in_err-sound-clause-rest : goal.returns-in_err-sound-clause-rest
returns-in_err-sound-clause-rest g c =
    and_then (λ running. running) (λ running. (running, running)) (weaker (λ running. running.0) (λ running. running.0) c.in_ok-listed.ensures.rest) (failed c.from_residual-in_err-sound.result c.is_sound.ensures.rest c.from_residual-in_err-sound.ensures.0)

pub returns-clause-rest : goal.returns-clause-rest
returns-clause-rest g c = and_then (λ running. running) (λ running. (running, running)) (weaker (λ running. running.0) (λ running. running.0) c.in_ok-listed.ensures.rest) (succeeded _ c.in_ok-sound.ensures.rest)
