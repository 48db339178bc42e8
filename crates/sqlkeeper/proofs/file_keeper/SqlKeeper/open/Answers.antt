use Rattle.std.proofs.Common.{subst, arith}
use Rattle.sqlite.specs.Held.{state}
use Rattle.sqltables.specs.Schema.{v2}
use Rattle.sqltables.specs.Kept.{KeepsState}
use Rattle.sqlaudit.specs.Opened.{IsFound}
use Rattle.sqlkeeper.proofs.AtRest.{sound_is_whole, leaves_kept}
use Rattle.sqlkeeper.proofs.Migrated.{looks_still}
use Rattle.sqlkeeper.proofs.Reopened.{accepted, crashes, emptied, failed, means_still, others, spared, spares}
use Rattle.sqlkeeper.proofs.GroupMade.{left_alone}
use Rattle.sqlkeeper.proofs.file_keeper.SqlKeeper.open.Goals as goal

-- ---- a sound file whose table `staged` was emptied

pub returns-in-Ok-clause-accepts : goal.returns-in-Ok-clause-accepts
returns-in-Ok-clause-accepts g c ours clean =
    let old = state g.S.Store c.args.conn in
    let mid = state g.S.Store c.find.new.conn in
    let new = state g.S.Store c.empty_file.new.conn in
    accepted old mid c.in-Ok-Sound.ensures.rest (λ clean. c.in-Ok-Sound.ensures.opened clean (sound_is_whole c.in-Ok-Sound.field-0-is)) c.in-Ok-Sound.ensures.at_rest
    (λ ours clean was_open. subst (λ f. IsFound v2 f old.now) c.in-Ok-Sound.field-0-is (c.in-Ok-Sound.ensures.found ours clean was_open)) new c.empty_file.ensures.honest c.in-Ok.ensures.made ours clean

pub returns-in-Ok-clause-means : goal.returns-in-Ok-clause-means
returns-in-Ok-clause-means g c =
    let old = state g.S.Store c.args.conn in
    let mid = state g.S.Store c.find.new.conn in
    let new = state g.S.Store c.empty_file.new.conn in
    means_still old mid c.in-Ok-Sound.ensures.rest (λ clean. c.in-Ok-Sound.ensures.opened clean (sound_is_whole c.in-Ok-Sound.field-0-is)) c.in-Ok-Sound.ensures.at_rest
    (λ ours clean was_open. subst (λ f. IsFound v2 f old.now) c.in-Ok-Sound.field-0-is (c.in-Ok-Sound.ensures.found ours clean was_open)) new c.empty_file.ensures.honest c.in-Ok.ensures.made

pub returns-in-Ok-clause-same : goal.returns-in-Ok-clause-same
returns-in-Ok-clause-same g c =
    let old = state g.S.Store c.args.conn in
    let mid = state g.S.Store c.find.new.conn in
    let new = state g.S.Store c.empty_file.new.conn in
    emptied old mid c.in-Ok-Sound.ensures.rest (λ clean. c.in-Ok-Sound.ensures.opened clean (sound_is_whole c.in-Ok-Sound.field-0-is)) c.in-Ok-Sound.ensures.at_rest
    (λ ours clean was_open. subst (λ f. IsFound v2 f old.now) c.in-Ok-Sound.field-0-is (c.in-Ok-Sound.ensures.found ours clean was_open)) new c.empty_file.ensures.honest c.in-Ok.ensures.emptied

pub returns-in-Ok-clause-emptied : goal.returns-in-Ok-clause-emptied
returns-in-Ok-clause-emptied g c ours clean = ((returns-in-Ok-clause-same g c ours clean).now_is (c.in-Ok.ensures.opened clean).0).none

pub returns-in-Ok-clause-spared : goal.returns-in-Ok-clause-spared
returns-in-Ok-clause-spared g c =
    let old = state g.S.Store c.args.conn in
    let mid = state g.S.Store c.find.new.conn in
    let new = state g.S.Store c.empty_file.new.conn in
    spared old mid c.in-Ok-Sound.ensures.rest (λ clean. c.in-Ok-Sound.ensures.opened clean (sound_is_whole c.in-Ok-Sound.field-0-is)) c.in-Ok-Sound.ensures.at_rest
    (λ ours clean was_open. subst (λ f. IsFound v2 f old.now) c.in-Ok-Sound.field-0-is (c.in-Ok-Sound.ensures.found ours clean was_open)) new c.empty_file.ensures.honest c.empty_file.ensures.spared

pub returns-in-Ok-clause-crash : goal.returns-in-Ok-clause-crash
returns-in-Ok-clause-crash g c ours =
    let old = state g.S.Store c.args.conn in
    let mid = state g.S.Store c.find.new.conn in
    let new = state g.S.Store c.empty_file.new.conn in
    crashes old mid c.in-Ok-Sound.ensures.rest (λ clean. c.in-Ok-Sound.ensures.opened clean (sound_is_whole c.in-Ok-Sound.field-0-is)) c.in-Ok-Sound.ensures.at_rest
    (λ ours clean was_open. subst (λ f. IsFound v2 f old.now) c.in-Ok-Sound.field-0-is (c.in-Ok-Sound.ensures.found ours clean was_open)) new c.empty_file.ensures.honest c.in-Ok.ensures.made
    c.empty_file.ensures.crash (λ clean. (c.in-Ok.ensures.opened clean).0) ours

pub returns-in-Ok-clause-durable : goal.returns-in-Ok-clause-durable
returns-in-Ok-clause-durable g c clean s keeps =
    let end = state g.S.Store c.empty_file.new.conn in
    let it = left_alone end s keeps.sound clean (c.in-Ok.ensures.opened clean).1
    (leaves_kept end s (c.in-Ok.ensures.opened clean).0 (λ db. g.met.S.Store.settled c.empty_file.new.conn.store db (c.in-Ok.ensures.opened clean).0) keeps.means) in
    record { there = it.there; alone = it.alone; whole = it.whole }

-- ---- a sound file whose table `staged` could not be emptied

pub returns-in-Err-empty_file-clause-failed : goal.returns-in-Err-empty_file-clause-failed
returns-in-Err-empty_file-clause-failed g c =
    let old = state g.S.Store c.args.conn in
    let mid = state g.S.Store c.find.new.conn in
    let new = state g.S.Store c.empty_file.new.conn in
    failed old mid c.in-Ok-Sound.ensures.rest (λ clean. c.in-Ok-Sound.ensures.opened clean (sound_is_whole c.in-Ok-Sound.field-0-is)) c.in-Ok-Sound.ensures.at_rest
    (λ ours clean was_open. subst (λ f. IsFound v2 f old.now) c.in-Ok-Sound.field-0-is (c.in-Ok-Sound.ensures.found ours clean was_open)) new c.empty_file.ensures.honest c.empty_file.ensures.crash

pub returns-in-Err-empty_file-clause-others : goal.returns-in-Err-empty_file-clause-others
returns-in-Err-empty_file-clause-others g c =
    let old = state g.S.Store c.args.conn in
    let mid = state g.S.Store c.find.new.conn in
    let new = state g.S.Store c.empty_file.new.conn in
    others old mid c.in-Ok-Sound.ensures.rest (λ clean. c.in-Ok-Sound.ensures.opened clean (sound_is_whole c.in-Ok-Sound.field-0-is)) c.in-Ok-Sound.ensures.at_rest
    (λ ours clean was_open. subst (λ f. IsFound v2 f old.now) c.in-Ok-Sound.field-0-is (c.in-Ok-Sound.ensures.found ours clean was_open)) new c.empty_file.ensures.honest

pub returns-in-Err-empty_file-clause-untouched : goal.returns-in-Err-empty_file-clause-untouched
returns-in-Err-empty_file-clause-untouched g c other = absurd (other (c.in-Ok-Sound.ensures.named c.in-Ok-Sound.field-0-is))

-- ---- a refused file

pub returns-in-Ok-OtherVersion-clause-version : goal.returns-in-Ok-OtherVersion-clause-version
returns-in-Ok-OtherVersion-clause-version g c ours told clean was_open =
    subst (λ f. IsFound v2 f (state g.S.Store c.args.conn).now) c.in-Ok-OtherVersion.field-0-is (c.in-Ok-OtherVersion.ensures.found ours clean was_open)

pub returns-in-Err-empty_file-clause-idle : goal.returns-in-Err-empty_file-clause-idle
returns-in-Err-empty_file-clause-idle g c =
    let old = state g.S.Store c.args.conn in
    let mid = state g.S.Store c.find.new.conn in
    let new = state g.S.Store c.empty_file.new.conn in
    spared old mid c.in-Ok-Sound.ensures.rest (λ clean. c.in-Ok-Sound.ensures.opened clean (sound_is_whole c.in-Ok-Sound.field-0-is)) c.in-Ok-Sound.ensures.at_rest
    (λ ours clean was_open. subst (λ f. IsFound v2 f old.now) c.in-Ok-Sound.field-0-is (c.in-Ok-Sound.ensures.found ours clean was_open)) new c.empty_file.ensures.honest c.empty_file.ensures.spared

-- ---- what a crash leaves after a fault

pub returns-in-Err-empty_file-clause-spares : goal.returns-in-Err-empty_file-clause-spares
returns-in-Err-empty_file-clause-spares g c =
    let old = state g.S.Store c.args.conn in
    let mid = state g.S.Store c.find.new.conn in
    let new = state g.S.Store c.empty_file.new.conn in
    spares old mid c.in-Ok-Sound.ensures.rest (λ clean. c.in-Ok-Sound.ensures.opened clean (sound_is_whole c.in-Ok-Sound.field-0-is)) c.in-Ok-Sound.ensures.at_rest
    (λ ours clean was_open. subst (λ f. IsFound v2 f old.now) c.in-Ok-Sound.field-0-is (c.in-Ok-Sound.ensures.found ours clean was_open)) new c.empty_file.ensures.honest c.empty_file.ensures.crash (KeepsState old) (λ s keeps. keeps)

pub returns-in-Err-empty_file-clause-kept : goal.returns-in-Err-empty_file-clause-kept
returns-in-Err-empty_file-clause-kept g c =
    let old = state g.S.Store c.args.conn in
    let mid = state g.S.Store c.find.new.conn in
    let new = state g.S.Store c.empty_file.new.conn in
    looks_still old mid c.in-Ok-Sound.ensures.rest new c.empty_file.ensures.honest (λ clean. c.in-Err-empty_file.ensures.kept (c.in-Ok-Sound.ensures.at_rest (c.empty_file.ensures.honest clean)).settled clean)

pub returns-in-Err-clause-failed : goal.returns-in-Err-clause-failed
returns-in-Err-clause-failed g c = grind arith

pub returns-in-Err-clause-kept : goal.returns-in-Err-clause-kept
returns-in-Err-clause-kept g c = grind arith

pub returns-in-Err-clause-shape : goal.returns-in-Err-clause-shape
returns-in-Err-clause-shape g c = grind arith

pub returns-in-Err-clause-spares : goal.returns-in-Err-clause-spares
returns-in-Err-clause-spares g c = grind arith

pub returns-in-Err-clause-told : goal.returns-in-Err-clause-told
returns-in-Err-clause-told g c = grind arith

pub returns-in-Err-clause-version : goal.returns-in-Err-clause-version
returns-in-Err-clause-version g c = grind arith

pub returns-in-Err-empty_file-clause-shape : goal.returns-in-Err-empty_file-clause-shape
returns-in-Err-empty_file-clause-shape g c = grind arith

pub returns-in-Err-empty_file-clause-told : goal.returns-in-Err-empty_file-clause-told
returns-in-Err-empty_file-clause-told g c = grind arith

pub returns-in-Err-empty_file-clause-unharmed : goal.returns-in-Err-empty_file-clause-unharmed
returns-in-Err-empty_file-clause-unharmed g c = grind arith

pub returns-in-Err-empty_file-clause-version : goal.returns-in-Err-empty_file-clause-version
returns-in-Err-empty_file-clause-version g c = grind arith

pub returns-in-Ok-Damaged-clause-failed : goal.returns-in-Ok-Damaged-clause-failed
returns-in-Ok-Damaged-clause-failed g c = grind arith

pub returns-in-Ok-Damaged-clause-kept : goal.returns-in-Ok-Damaged-clause-kept
returns-in-Ok-Damaged-clause-kept g c = grind arith

pub returns-in-Ok-Damaged-clause-shape : goal.returns-in-Ok-Damaged-clause-shape
returns-in-Ok-Damaged-clause-shape g c = grind arith

pub returns-in-Ok-Damaged-clause-spares : goal.returns-in-Ok-Damaged-clause-spares
returns-in-Ok-Damaged-clause-spares g c = grind arith

pub returns-in-Ok-Damaged-clause-told : goal.returns-in-Ok-Damaged-clause-told
returns-in-Ok-Damaged-clause-told g c = grind arith

pub returns-in-Ok-Damaged-clause-version : goal.returns-in-Ok-Damaged-clause-version
returns-in-Ok-Damaged-clause-version g c = grind arith

pub returns-in-Ok-OtherVersion-clause-failed : goal.returns-in-Ok-OtherVersion-clause-failed
returns-in-Ok-OtherVersion-clause-failed g c = grind arith

pub returns-in-Ok-OtherVersion-clause-kept : goal.returns-in-Ok-OtherVersion-clause-kept
returns-in-Ok-OtherVersion-clause-kept g c = grind arith

pub returns-in-Ok-OtherVersion-clause-shape : goal.returns-in-Ok-OtherVersion-clause-shape
returns-in-Ok-OtherVersion-clause-shape g c = grind arith

pub returns-in-Ok-OtherVersion-clause-spares : goal.returns-in-Ok-OtherVersion-clause-spares
returns-in-Ok-OtherVersion-clause-spares g c = grind arith

pub returns-in-Ok-OtherVersion-clause-told : goal.returns-in-Ok-OtherVersion-clause-told
returns-in-Ok-OtherVersion-clause-told g c = grind arith

pub returns-in-Ok-clause-named : goal.returns-in-Ok-clause-named
returns-in-Ok-clause-named g c = grind arith

pub returns-in-Ok-clause-opened : goal.returns-in-Ok-clause-opened
returns-in-Ok-clause-opened g c = grind arith

pub returns-in-Ok-clause-staged : goal.returns-in-Ok-clause-staged
returns-in-Ok-clause-staged g c = grind arith
