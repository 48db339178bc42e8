use Rattle.std.proofs.Common.{◌≡◌, ◌≢◌, rules, arith, refl, sym, subst, ◌∙◌}
use Rattle.sqltables.specs.Inside.{seen}
use Rattle.sqlite.specs.Effect.{Database}
use Rattle.sqlite.specs.State.{HasCleanDisk}
use Rattle.sqltables.specs.Schema.{Version}
use Rattle.sqlaudit.specs.Lines.{AreLines, HaveRowids, IsOfficeLine}
use Rattle.sqlaudit.specs.declared.opening.Extent.TheVariants.{Whole}
use Rattle.sqlaudit.specs.Opened.{IsExtent, IsFound, AreOfVersion}
use Rattle.sqlaudit.specs.Formats.{version_of}
use Rattle.sqlaudit.proofs.Extents.{is_version}
use Rattle.sqlaudit.proofs.StillReads.{begins, goes_on, whole_still}
use Rattle.sqltables.proofs.StandingFiles.{if_ok_more}
use Rattle.sqlaudit.proofs.Tested.{unversioned, lines_version, damaged, less}
use Rattle.sqltables.proofs.Onward.{and_then, failed, succeeded}
use Rattle.sqlaudit.proofs.EitherVersion.{sound_is_whole}
use Rattle.sqlaudit.proofs.opening.look.Goals as goal

pub returns-in_default-clause-found : goal.returns-in_default-clause-found
returns-in_default-clause-found g c premise inside clean =
    let entry = seen g.T.Ledger.view c.args.tx.now in
    let running = c.in_ok-office.ensures.rest.running clean inside in
    let p = premise ((c.list_office.ensures.rest.uncommitted clean inside).was_open running.1) in
    let v = version_of c.args.format in
    let ours = is_version c.args.format in
    let w : Version = record { number = v.number; schema = entry.now.schema } in
    let are = subst (AreLines IsOfficeLine (entry.now.trees 0)) (sym c.deref.ensures.value) (c.in_ok-office.ensures.listed w p.0 (λ is_open. refl) inside clean) in
    unversioned v ours entry.now c.deref.result.now are c.in_default.ensures

pub returns-then-line-number-clause-found : goal.returns-then-line-number-clause-found
returns-then-line-number-clause-found g c premise inside clean =
    let entry = seen g.T.Ledger.view c.args.tx.now in
    let running = c.in_ok-office.ensures.rest.running clean inside in
    let p = premise ((c.list_office.ensures.rest.uncommitted clean inside).was_open running.1) in
    let v = version_of c.args.format in
    let ours = is_version c.args.format in
    let w : Version = record { number = v.number; schema = entry.now.schema } in
    let are = subst (AreLines IsOfficeLine (entry.now.trees 0)) (sym c.deref.ensures.value) (c.in_ok-office.ensures.listed w p.0 (λ is_open. refl) inside clean) in
    let other : c.in-Some.line.now.version ≢ v.number = search rules in
    (c.in-Some.line.now.version, lines_version v ours entry.now c.deref.result.now are p.0 c.in-Some.line.now.version c.in-Some.ensures, other)

pub returns-then-ne-clause-found : goal.returns-then-ne-clause-found
returns-then-ne-clause-found g c premise inside clean =
    let entry = seen g.T.Ledger.view c.args.tx.now in
    let running = c.in_ok-office.ensures.rest.running clean inside in
    let p = premise ((c.list_office.ensures.rest.uncommitted clean inside).was_open running.1) in
    let v = version_of c.args.format in
    let ours = is_version c.args.format in
    let w : Version = record { number = v.number; schema = entry.now.schema } in
    let are = subst (AreLines IsOfficeLine (entry.now.trees 0)) (sym c.deref.ensures.value) (c.in_ok-office.ensures.listed w p.0 (λ is_open. refl) inside clean) in
    let one : c.in-Some.line.now.version ≡ v.number = search rules in
    let other : c.args.extent ≡ Whole → ⊥ = search rules in
    let schema = less v ours c.args.extent entry.now.schema p.1 other in
    damaged v ours entry.now c.deref.result.now are (subst (AreOfVersion c.deref.result.now) one c.in-Some.ensures) (λ office is. schema is.holds.schema)

pub returns-clause-found : goal.returns-clause-found
returns-clause-found g c premise inside clean =
    let mid = seen g.T.Ledger.view c.list_office.new.tx in
    let early : HasCleanDisk mid = omega (arith, clean, c.look_at_all.ensures.rest.survives.clean) in
    let entry = seen g.T.Ledger.view c.args.tx.now in
    let running = c.in_ok-office.ensures.rest.running early inside in
    let p = premise ((c.list_office.ensures.rest.uncommitted early inside).was_open running.1) in
    let v = version_of c.args.format in
    let ours = is_version c.args.format in
    let w : Version = record { number = v.number; schema = entry.now.schema } in
    let whole : c.args.extent ≡ Whole = search rules in
    let schema : entry.now.schema ≡ v.schema = subst (λ e. IsExtent v e entry.now.schema) whole p.1 in
    let still = goes_on v entry entry mid (begins v entry (λ is_open. schema) inside) (c.in_ok-office.ensures.same w p.0 (λ is_open. refl) inside early) running (c.list_office.ensures.rest.uncommitted early inside) in
    let back : entry.now ≡ mid.now = sym still.same in
    let are = subst (AreLines IsOfficeLine (entry.now.trees 0)) (sym c.deref-2.ensures.value) (c.in_ok-office.ensures.listed w p.0 (λ is_open. refl) inside early) in
    let rowids = c.in_ok-office.ensures.rowids w p.0 (λ is_open. refl) inside early in
    let one : c.in-Some.line.now.version ≡ v.number = search rules in
    let lists : c.deref.result.now ≡ c.deref-2.result.now = c.deref.ensures.value ∙ sym c.deref-2.ensures.value in
    let of = subst (λ ls. AreOfVersion ls v.number) lists (subst (AreOfVersion c.deref.result.now) one c.in-Some.ensures) in
    if_ok_more _ _ c.look_at_all.result (λ finding is. subst (IsFound v finding) still.same is)
    (c.look_at_all.ensures.found still.schema (whole_still v entry mid still (λ is_open. p.2)) running clean (subst (λ (d : Database). AreLines IsOfficeLine (d.trees 0) c.deref-2.result.now) back are)
    (subst (λ (d : Database). HaveRowids (d.trees 0)) back rowids) of)

pub returns-in_err-office-clause-rest : goal.returns-in_err-office-clause-rest
returns-in_err-office-clause-rest g c = failed c.from_residual.result c.list_office.ensures.rest c.from_residual.ensures.0

pub returns-in_default-clause-whole : goal.returns-in_default-clause-whole
returns-in_default-clause-whole g c = λ sound. absurd (sound_is_whole sound refl)

pub returns-in_default-clause-rest : goal.returns-in_default-clause-rest
returns-in_default-clause-rest g c = succeeded _ c.in_ok-office.ensures.rest

pub returns-then-line-number-clause-rest : goal.returns-then-line-number-clause-rest
returns-then-line-number-clause-rest g c = succeeded _ c.in_ok-office.ensures.rest

pub returns-then-ne-clause-whole : goal.returns-then-ne-clause-whole
returns-then-ne-clause-whole g c = λ sound. absurd (sound_is_whole sound refl)

pub returns-then-ne-clause-rest : goal.returns-then-ne-clause-rest
returns-then-ne-clause-rest g c = succeeded _ c.in_ok-office.ensures.rest

pub returns-clause-rest : goal.returns-clause-rest
returns-clause-rest g c = and_then (λ began. began) (λ running. (running, running)) c.in_ok-office.ensures.rest c.look_at_all.ensures.rest

pub returns-clause-whole : goal.returns-clause-whole
returns-clause-whole g c = grind arith

pub returns-then-line-number-clause-whole : goal.returns-then-line-number-clause-whole
returns-then-line-number-clause-whole g c = grind arith
