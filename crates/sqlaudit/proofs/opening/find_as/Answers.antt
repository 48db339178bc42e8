use Rattle.std.proofs.Common.{◌≡◌, IsTrue, rules, arith, refl, subst}
use Rattle.sqlite.specs.State.{HasCleanDisk}
use Rattle.sqlite.specs.Held.{state}
use Rattle.sqlaudit.specs.declared.opening.Extent.TheVariants.{Nothing}
use Rattle.sqlaudit.specs.declared.opening.Finding.TheVariants.{Damaged}
use Rattle.sqlaudit.specs.Formats.{version_of}
use Rattle.sqlaudit.specs.Opened.{AreNamedAs, IsOurs, IsExtent}
use Rattle.sqlaudit.proofs.Extents.{is_version}
use Rattle.sqlaudit.proofs.Looking.{as_it_is, at_rest, looks_at, not_begun, refused_untouched, still_untouched}
use Rattle.sqlaudit.proofs.EitherVersion.{sound_is_whole}
use Rattle.sqlaudit.proofs.Tested.{no_office}
use Rattle.sqlaudit.proofs.opening.find_as.Goals as goal

pub returns-then-eq-clause-found : goal.returns-then-eq-clause-found
returns-then-eq-clause-found g c ours clean was_open =
    let old = state g.S.Store c.args.conn.now in
    let extent = c.extent_of-extent.result in
    let v = version_of c.args.format in
    let is : IsOurs old.now.schema → IsExtent v extent old.now.schema = subst (λ s. IsOurs s → IsExtent v extent s) c.schema.ensures.value c.extent_of-extent.ensures.is in
    let nothing : extent ≡ Nothing = search rules in
    no_office v (is_version c.args.format) old.now (subst (λ x. IsExtent v x old.now.schema) nothing (is (ours was_open)))

pub returns-in_ok-prepare-clause-found : goal.returns-in_ok-prepare-clause-found
returns-in_ok-prepare-clause-found g c ours clean was_open =
    let old = state g.S.Store c.args.conn.now in
    let extent = c.extent_of-extent.result in
    let v = version_of c.args.format in
    let is : IsOurs old.now.schema → IsExtent v extent old.now.schema = subst (λ s. IsOurs s → IsExtent v extent s) c.schema.ensures.value c.extent_of-extent.ensures.is in
    let not : extent ≡ Nothing → ⊥ = search rules in
    let early : HasCleanDisk (state g.S.Store c.examine.new.conn) = omega (arith, clean, c.prepare.ensures.survives.clean) in
    c.in_ok-finding.ensures.found (looks_at v (is_version c.args.format) old extent ours is not c.schema.ensures.live) early

pub returns-else-ne-clause-found : goal.returns-else-ne-clause-found
returns-else-ne-clause-found g c ours clean was_open =
    let old = state g.S.Store c.args.conn.now in
    let extent = c.extent_of-extent.result in
    let v = version_of c.args.format in
    let is : IsOurs old.now.schema → IsExtent v extent old.now.schema = subst (λ s. IsOurs s → IsExtent v extent s) c.schema.ensures.value c.extent_of-extent.ensures.is in
    let not : extent ≡ Nothing → ⊥ = search rules in
    c.in_ok-finding.ensures.found (looks_at v (is_version c.args.format) old extent ours is not c.schema.ensures.live) clean

pub returns-in_err-prepare-clause-rest : goal.returns-in_err-prepare-clause-rest
returns-in_err-prepare-clause-rest g c =
    let old = state g.S.Store c.args.conn.now in
    let mid = state g.S.Store c.examine.new.conn in
    let new = state g.S.Store c.prepare.new.self in
    let settled : IsTrue old.is_open → old.now ≡ old.committed = c.is_autocommit.ensures.settled c.if-not-is_autocommit.false in
    let mode = not_begun old.in_transaction c.is_autocommit.ensures.value c.if-not-is_autocommit.false in
    refused_untouched old mid new (c.examine.ensures.rest settled) c.prepare.ensures.survives settled mode _ _ (λ clean. c.in_err-prepare.ensures.err clean)

-- the database is in a transaction

pub returns-then-not-is_autocommit-clause-rest : goal.returns-then-not-is_autocommit-clause-rest
returns-then-not-is_autocommit-clause-rest g c = as_it_is (state g.S.Store c.args.conn.now)

-- there is no table of an office

pub returns-then-eq-clause-named : goal.returns-then-eq-clause-named
returns-then-eq-clause-named g c sound = absurd (sound_is_whole sound refl)

pub returns-then-eq-clause-opened : goal.returns-then-eq-clause-opened
returns-then-eq-clause-opened g c clean whole = absurd (whole refl)

pub returns-then-eq-clause-at_rest : goal.returns-then-eq-clause-at_rest
returns-then-eq-clause-at_rest g c clean =
    record { autocommit = not_begun c.args.conn.now.in_transaction c.is_autocommit.ensures.value c.if-not-is_autocommit.false; settled = c.is_autocommit.ensures.settled c.if-not-is_autocommit.false }

pub returns-then-eq-clause-rest : goal.returns-then-eq-clause-rest
returns-then-eq-clause-rest g c = as_it_is (state g.S.Store c.args.conn.now)

-- the test fails

pub returns-in_err-finding-clause-rest : goal.returns-in_err-finding-clause-rest
returns-in_err-finding-clause-rest g c = c.examine.ensures.rest (c.is_autocommit.ensures.settled c.if-not-is_autocommit.false)

-- the file is found to be an office's

pub returns-in_ok-prepare-clause-named : goal.returns-in_ok-prepare-clause-named
returns-in_ok-prepare-clause-named g c sound = subst (AreNamedAs c.args.format) c.schema.ensures.value (c.extent_of-extent.ensures.named (c.in_ok-finding.ensures.whole sound))

pub returns-in_ok-prepare-clause-opened : goal.returns-in_ok-prepare-clause-opened
returns-in_ok-prepare-clause-opened g c clean whole = (c.in_ok-prepare.ensures.ok clean).1.0.is_open

pub returns-in_ok-prepare-clause-at_rest : goal.returns-in_ok-prepare-clause-at_rest
returns-in_ok-prepare-clause-at_rest g c =
    let old = state g.S.Store c.args.conn.now in
    let mid = state g.S.Store c.examine.new.conn in
    let new = state g.S.Store c.prepare.new.self in
    let settled : IsTrue old.is_open → old.now ≡ old.committed = c.is_autocommit.ensures.settled c.if-not-is_autocommit.false in
    let mode = not_begun old.in_transaction c.is_autocommit.ensures.value c.if-not-is_autocommit.false in
    at_rest old new (still_untouched old mid new (c.examine.ensures.rest settled) c.prepare.ensures.survives (λ clean. (c.in_ok-prepare.ensures.ok clean).1)) settled mode

pub returns-in_ok-prepare-clause-rest : goal.returns-in_ok-prepare-clause-rest
returns-in_ok-prepare-clause-rest g c =
    let old = state g.S.Store c.args.conn.now in
    let mid = state g.S.Store c.examine.new.conn in
    let new = state g.S.Store c.prepare.new.self in
    let settled : IsTrue old.is_open → old.now ≡ old.committed = c.is_autocommit.ensures.settled c.if-not-is_autocommit.false in
    still_untouched old mid new (c.examine.ensures.rest settled) c.prepare.ensures.survives (λ clean. (c.in_ok-prepare.ensures.ok clean).1)

-- the file is found damaged

pub returns-else-ne-clause-named : goal.returns-else-ne-clause-named
returns-else-ne-clause-named g c sound = subst (AreNamedAs c.args.format) c.schema.ensures.value (c.extent_of-extent.ensures.named (c.in_ok-finding.ensures.whole sound))

pub returns-else-ne-clause-opened : goal.returns-else-ne-clause-opened
returns-else-ne-clause-opened g c clean whole =
    let damaged : c.in_ok-finding.finding ≡ Damaged = search rules in
    absurd (whole damaged)

pub returns-else-ne-clause-at_rest : goal.returns-else-ne-clause-at_rest
returns-else-ne-clause-at_rest g c =
    let old = state g.S.Store c.args.conn.now in
    let settled : IsTrue old.is_open → old.now ≡ old.committed = c.is_autocommit.ensures.settled c.if-not-is_autocommit.false in
    let mode = not_begun old.in_transaction c.is_autocommit.ensures.value c.if-not-is_autocommit.false in
    at_rest old (state g.S.Store c.examine.new.conn) (c.examine.ensures.rest settled) settled mode

pub returns-else-ne-clause-rest : goal.returns-else-ne-clause-rest
returns-else-ne-clause-rest g c = c.examine.ensures.rest (c.is_autocommit.ensures.settled c.if-not-is_autocommit.false)
