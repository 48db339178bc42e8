use Rattle.std.proofs.Common.{IsTrue, refl, subst}
use Rattle.std.proofs.lemmas.Result.{IfOk-from_err}
use Rattle.sqlite.specs.Effect.{Database}
use Rattle.sqlite.specs.State.{HasCleanDisk}
use Rattle.sqlite.specs.Held.{state}
use Rattle.sqltables.specs.Schema.{v1, v2}
use Rattle.sqlaudit.specs.Opened.{AreFirstNamed, IsFound}
use Rattle.sqlaudit.proofs.EitherVersion.{other_is_whole, sound_is_whole, untouched_on, ours_still, damaged_second, damaged_first, other_version}
use Rattle.sqlaudit.proofs.opening.find_either.Goals as goal

pub returns-in-Sound-clause-found : goal.returns-in-Sound-clause-found
returns-in-Sound-clause-found g c ours clean was_open = subst (λ f. IsFound v2 f (state g.S.Store c.args.conn.now).now) c.in-Sound.is (c.in_ok-find.ensures.found ours clean was_open)

pub returns-in-Damaged-clause-found : goal.returns-in-Damaged-clause-found
returns-in-Damaged-clause-found g c ours clean was_open =
    let old = state g.S.Store c.args.conn.now in
    damaged_second old.now (subst (λ f. IsFound v2 f old.now) c.in-Damaged.is (c.in_ok-find.ensures.found ours clean was_open))

pub returns-in-Sound-2-clause-found : goal.returns-in-Sound-2-clause-found
returns-in-Sound-2-clause-found g c ours clean was_open =
    let old = state g.S.Store c.args.conn.now in
    let mid = state g.S.Store c.find.new.conn in
    let early : HasCleanDisk mid = c.find_as.ensures.rest.honest clean in
    let same = c.find.ensures.rest.same early in
    let is_open : IsTrue mid.is_open = c.in_ok-find.ensures.opened early (other_is_whole c.in-OtherVersion.is) in
    let found = subst (IsFound v1 c.in_ok-find_as-in-OtherVersion.field-0) (same.now_is is_open) (c.in_ok-find_as-in-OtherVersion.ensures.found (ours_still old mid same ours) clean is_open) in
    let first = subst (λ f. IsFound v1 f old.now) c.in-Sound-2.is found in
    first

pub returns-in-Damaged-2-clause-found : goal.returns-in-Damaged-2-clause-found
returns-in-Damaged-2-clause-found g c ours clean was_open =
    let old = state g.S.Store c.args.conn.now in
    let mid = state g.S.Store c.find.new.conn in
    let early : HasCleanDisk mid = c.find_as.ensures.rest.honest clean in
    let same = c.find.ensures.rest.same early in
    let is_open : IsTrue mid.is_open = c.in_ok-find.ensures.opened early (other_is_whole c.in-OtherVersion.is) in
    let found = subst (IsFound v1 c.in_ok-find_as-in-OtherVersion.field-0) (same.now_is is_open) (c.in_ok-find_as-in-OtherVersion.ensures.found (ours_still old mid same ours) clean is_open) in
    let first = subst (λ f. IsFound v1 f old.now) c.in-Damaged-2.is found in
    let other = subst (λ f. IsFound v2 f old.now) c.in-OtherVersion.is (c.in_ok-find.ensures.found ours early was_open) in
    damaged_first old.now other first

pub returns-in-OtherVersion-2-clause-found : goal.returns-in-OtherVersion-2-clause-found
returns-in-OtherVersion-2-clause-found g c ours clean was_open =
    let old = state g.S.Store c.args.conn.now in
    let mid = state g.S.Store c.find.new.conn in
    let early : HasCleanDisk mid = c.find_as.ensures.rest.honest clean in
    let same = c.find.ensures.rest.same early in
    let is_open : IsTrue mid.is_open = c.in_ok-find.ensures.opened early (other_is_whole c.in-OtherVersion.is) in
    let found = subst (IsFound v1 c.in_ok-find_as-in-OtherVersion.field-0) (same.now_is is_open) (c.in_ok-find_as-in-OtherVersion.ensures.found (ours_still old mid same ours) clean is_open) in
    let first = subst (λ f. IsFound v1 f old.now) c.in-OtherVersion-2.is found in
    let other = subst (λ f. IsFound v2 f old.now) c.in-OtherVersion.is (c.in_ok-find.ensures.found ours early was_open) in
    other_version old.now other first

-- the version 2 test fails

pub returns-in_err-find-clause-found : goal.returns-in_err-find-clause-found
returns-in_err-find-clause-found g c ours clean was_open = IfOk-from_err c.from_residual.result _ c.from_residual.ensures.0

pub returns-in_err-find-clause-named : goal.returns-in_err-find-clause-named
returns-in_err-find-clause-named g c clean = IfOk-from_err c.from_residual.result _ c.from_residual.ensures.0

pub returns-in_err-find-clause-opened : goal.returns-in_err-find-clause-opened
returns-in_err-find-clause-opened g c clean = IfOk-from_err c.from_residual.result _ c.from_residual.ensures.0

pub returns-in_err-find-clause-at_rest : goal.returns-in_err-find-clause-at_rest
returns-in_err-find-clause-at_rest g c clean = IfOk-from_err c.from_residual.result _ c.from_residual.ensures.0

pub returns-in_err-find-clause-rest : goal.returns-in_err-find-clause-rest
returns-in_err-find-clause-rest g c = c.find.ensures.rest

-- the version 1 test fails

pub returns-in_err-find_as-in-OtherVersion-clause-found : goal.returns-in_err-find_as-in-OtherVersion-clause-found
returns-in_err-find_as-in-OtherVersion-clause-found g c ours clean was_open = IfOk-from_err c.from_residual-in_err-find_as-in-OtherVersion.result _ c.from_residual-in_err-find_as-in-OtherVersion.ensures.0

pub returns-in_err-find_as-in-OtherVersion-clause-rest : goal.returns-in_err-find_as-in-OtherVersion-clause-rest
returns-in_err-find_as-in-OtherVersion-clause-rest g c = untouched_on _ _ _ c.find.ensures.rest c.find_as.ensures.rest

-- the version 2 test succeeds

pub returns-in-Sound-clause-named : goal.returns-in-Sound-clause-named
returns-in-Sound-clause-named g c clean = c.in_ok-find.ensures.named c.in-Sound.is

pub returns-in-Sound-clause-opened : goal.returns-in-Sound-clause-opened
returns-in-Sound-clause-opened g c clean whole = c.in_ok-find.ensures.opened clean (sound_is_whole c.in-Sound.is)

pub returns-in-Sound-clause-at_rest : goal.returns-in-Sound-clause-at_rest
returns-in-Sound-clause-at_rest g c clean = c.in_ok-find.ensures.at_rest clean

pub returns-in-Sound-clause-rest : goal.returns-in-Sound-clause-rest
returns-in-Sound-clause-rest g c = c.find.ensures.rest

pub returns-in-Damaged-clause-named : goal.returns-in-Damaged-clause-named
returns-in-Damaged-clause-named g c clean = tt

pub returns-in-Damaged-clause-opened : goal.returns-in-Damaged-clause-opened
returns-in-Damaged-clause-opened g c clean whole = absurd (whole refl)

pub returns-in-Damaged-clause-at_rest : goal.returns-in-Damaged-clause-at_rest
returns-in-Damaged-clause-at_rest g c clean = c.in_ok-find.ensures.at_rest clean

pub returns-in-Damaged-clause-rest : goal.returns-in-Damaged-clause-rest
returns-in-Damaged-clause-rest g c = c.find.ensures.rest

-- the version 1 test succeeds

pub returns-in-Sound-2-clause-named : goal.returns-in-Sound-2-clause-named
returns-in-Sound-2-clause-named g c clean =
    let old = state g.S.Store c.args.conn.now in
    let mid = state g.S.Store c.find.new.conn in
    let early : HasCleanDisk mid = c.find_as.ensures.rest.honest clean in
    let is_open : IsTrue mid.is_open = c.in_ok-find.ensures.opened early (other_is_whole c.in-OtherVersion.is) in
    subst (λ (db : Database). AreFirstNamed db.schema) ((c.find.ensures.rest.same early).now_is is_open) (c.in_ok-find_as-in-OtherVersion.ensures.named c.in-Sound-2.is)

pub returns-in-Sound-2-clause-opened : goal.returns-in-Sound-2-clause-opened
returns-in-Sound-2-clause-opened g c clean whole = c.in_ok-find_as-in-OtherVersion.ensures.opened clean (sound_is_whole c.in-Sound-2.is)

pub returns-in-Sound-2-clause-at_rest : goal.returns-in-Sound-2-clause-at_rest
returns-in-Sound-2-clause-at_rest g c clean = c.in_ok-find_as-in-OtherVersion.ensures.at_rest clean

pub returns-in-Sound-2-clause-rest : goal.returns-in-Sound-2-clause-rest
returns-in-Sound-2-clause-rest g c = untouched_on _ _ _ c.find.ensures.rest c.find_as.ensures.rest

pub returns-in-Damaged-2-clause-named : goal.returns-in-Damaged-2-clause-named
returns-in-Damaged-2-clause-named g c clean = tt

pub returns-in-Damaged-2-clause-opened : goal.returns-in-Damaged-2-clause-opened
returns-in-Damaged-2-clause-opened g c clean whole = absurd (whole refl)

pub returns-in-Damaged-2-clause-at_rest : goal.returns-in-Damaged-2-clause-at_rest
returns-in-Damaged-2-clause-at_rest g c clean = c.in_ok-find_as-in-OtherVersion.ensures.at_rest clean

pub returns-in-Damaged-2-clause-rest : goal.returns-in-Damaged-2-clause-rest
returns-in-Damaged-2-clause-rest g c = untouched_on _ _ _ c.find.ensures.rest c.find_as.ensures.rest

pub returns-in-OtherVersion-2-clause-named : goal.returns-in-OtherVersion-2-clause-named
returns-in-OtherVersion-2-clause-named g c clean = tt

pub returns-in-OtherVersion-2-clause-opened : goal.returns-in-OtherVersion-2-clause-opened
returns-in-OtherVersion-2-clause-opened g c clean whole = c.in_ok-find_as-in-OtherVersion.ensures.opened clean (other_is_whole c.in-OtherVersion-2.is)

pub returns-in-OtherVersion-2-clause-at_rest : goal.returns-in-OtherVersion-2-clause-at_rest
returns-in-OtherVersion-2-clause-at_rest g c clean = c.in_ok-find_as-in-OtherVersion.ensures.at_rest clean

pub returns-in-OtherVersion-2-clause-rest : goal.returns-in-OtherVersion-2-clause-rest
returns-in-OtherVersion-2-clause-rest g c = untouched_on _ _ _ c.find.ensures.rest c.find_as.ensures.rest
