use Rattle.std.proofs.Common.{inl, inr, IsTrue, subst, arith}
use Rattle.sqlite.specs.Held.{state}
use Rattle.sqlaudit.specs.Opened.{IsEither, HasNamesOf}
use Rattle.sqlkeeper.specs.Versions.{IsOfficeFile}
use Rattle.sqlkeeper.proofs.AtRest.{leaves_kept}
use Rattle.sqlkeeper.proofs.Migrated.{first_is_whole, second_is_whole, second_means, first_found, first_means, not_first, not_second, adds_still, spares_still, untouched_never, looks_still}
use Rattle.sqlkeeper.proofs.Reopened.{accepted, emptied, failed, others, spared, spares}
use Rattle.sqlkeeper.proofs.GroupMade.{left_alone}
use Rattle.sqlkeeper.proofs.file_keeper.SqlKeeper.migrate.Goals as goal

-- ---- a file of version 2 whose table `staged` was emptied

pub returns-in-Ok-clause-accepts : goal.returns-in-Ok-clause-accepts
returns-in-Ok-clause-accepts g c ours clean =
    let old = state g.S.Store c.args.conn in
    let mid = state g.S.Store c.find_either.new.conn in
    let new = state g.S.Store c.empty_file.new.conn in
    let it = accepted old mid c.in-Ok-Second.ensures.rest (λ clean. c.in-Ok-Second.ensures.opened clean (second_is_whole c.in-Ok-Second.field-0-is)) c.in-Ok-Second.ensures.at_rest
    (λ ours clean was_open. subst (λ f. IsEither f old.now) c.in-Ok-Second.field-0-is (c.in-Ok-Second.ensures.found ours clean was_open)) new c.empty_file.ensures.honest c.in-Ok.ensures.made ours clean in
    (it.0, inr it.1, it.2)

pub returns-in-Ok-clause-means : goal.returns-in-Ok-clause-means
returns-in-Ok-clause-means g c s is =
    let old = state g.S.Store c.args.conn in
    let mid = state g.S.Store c.find_either.new.conn in
    let new = state g.S.Store c.empty_file.new.conn in
    let keeps = second_means old mid c.in-Ok-Second.ensures.rest (λ clean. c.in-Ok-Second.ensures.opened clean (second_is_whole c.in-Ok-Second.field-0-is))
    (λ ours clean was_open. subst (λ f. IsEither f old.now) c.in-Ok-Second.field-0-is (c.in-Ok-Second.ensures.found ours clean was_open)) s is in
    record { means = c.in-Ok.ensures.made s keeps.means; sound = keeps.sound }

pub returns-in-Ok-clause-same : goal.returns-in-Ok-clause-same
returns-in-Ok-clause-same g c ours other =
    let old = state g.S.Store c.args.conn in
    let mid = state g.S.Store c.find_either.new.conn in
    let new = state g.S.Store c.empty_file.new.conn in
    emptied old mid c.in-Ok-Second.ensures.rest (λ clean. c.in-Ok-Second.ensures.opened clean (second_is_whole c.in-Ok-Second.field-0-is)) c.in-Ok-Second.ensures.at_rest
    (λ ours clean was_open. subst (λ f. IsEither f old.now) c.in-Ok-Second.field-0-is (c.in-Ok-Second.ensures.found ours clean was_open)) new c.empty_file.ensures.honest c.in-Ok.ensures.emptied ours

pub returns-in-Ok-clause-emptied : goal.returns-in-Ok-clause-emptied
returns-in-Ok-clause-emptied g c ours clean =
    let old = state g.S.Store c.args.conn in
    let mid = state g.S.Store c.find_either.new.conn in
    let new = state g.S.Store c.empty_file.new.conn in
    let gone = emptied old mid c.in-Ok-Second.ensures.rest (λ clean. c.in-Ok-Second.ensures.opened clean (second_is_whole c.in-Ok-Second.field-0-is)) c.in-Ok-Second.ensures.at_rest
    (λ ours clean was_open. subst (λ f. IsEither f old.now) c.in-Ok-Second.field-0-is (c.in-Ok-Second.ensures.found ours clean was_open)) new c.empty_file.ensures.honest c.in-Ok.ensures.emptied ours clean in
    (gone.now_is (c.in-Ok.ensures.opened clean).0).none

pub returns-in-Ok-clause-spared : goal.returns-in-Ok-clause-spared
returns-in-Ok-clause-spared g c ours none other =
    let old = state g.S.Store c.args.conn in
    let mid = state g.S.Store c.find_either.new.conn in
    let new = state g.S.Store c.empty_file.new.conn in
    spared old mid c.in-Ok-Second.ensures.rest (λ clean. c.in-Ok-Second.ensures.opened clean (second_is_whole c.in-Ok-Second.field-0-is)) c.in-Ok-Second.ensures.at_rest
    (λ ours clean was_open. subst (λ f. IsEither f old.now) c.in-Ok-Second.field-0-is (c.in-Ok-Second.ensures.found ours clean was_open)) new c.empty_file.ensures.honest c.empty_file.ensures.spared ours none

pub returns-in-Ok-clause-durable : goal.returns-in-Ok-clause-durable
returns-in-Ok-clause-durable g c clean s keeps =
    let end = state g.S.Store c.empty_file.new.conn in
    let it = left_alone end s keeps.sound clean (c.in-Ok.ensures.opened clean).1
    (leaves_kept end s (c.in-Ok.ensures.opened clean).0 (λ db. g.met.S.Store.settled c.empty_file.new.conn.store db (c.in-Ok.ensures.opened clean).0) keeps.means) in
    record { there = it.there; alone = it.alone; whole = it.whole }

pub returns-in-Err-empty_file-clause-crash : goal.returns-in-Err-empty_file-clause-crash
returns-in-Err-empty_file-clause-crash g c s is =
    let old = state g.S.Store c.args.conn in
    let mid = state g.S.Store c.find_either.new.conn in
    let new = state g.S.Store c.empty_file.new.conn in
    elim is [
      | inl first ↦ λ clean. absurd (not_second old mid c.in-Ok-Second.ensures.rest (λ clean. c.in-Ok-Second.ensures.opened clean (second_is_whole c.in-Ok-Second.field-0-is))
          (λ ours clean was_open. subst (λ f. IsEither f old.now) c.in-Ok-Second.field-0-is (c.in-Ok-Second.ensures.found ours clean was_open)) s first (c.empty_file.ensures.honest clean))
      | inr second ↦ failed old mid c.in-Ok-Second.ensures.rest (λ clean. c.in-Ok-Second.ensures.opened clean (second_is_whole c.in-Ok-Second.field-0-is)) c.in-Ok-Second.ensures.at_rest
          (λ ours clean was_open. subst (λ f. IsEither f old.now) c.in-Ok-Second.field-0-is (c.in-Ok-Second.ensures.found ours clean was_open)) new c.empty_file.ensures.honest c.empty_file.ensures.crash s second
    ]

pub returns-in-Err-empty_file-clause-others : goal.returns-in-Err-empty_file-clause-others
returns-in-Err-empty_file-clause-others g c ours none =
    let old = state g.S.Store c.args.conn in
    let mid = state g.S.Store c.find_either.new.conn in
    let new = state g.S.Store c.empty_file.new.conn in
    others old mid c.in-Ok-Second.ensures.rest (λ clean. c.in-Ok-Second.ensures.opened clean (second_is_whole c.in-Ok-Second.field-0-is)) c.in-Ok-Second.ensures.at_rest
    (λ ours clean was_open. subst (λ f. IsEither f old.now) c.in-Ok-Second.field-0-is (c.in-Ok-Second.ensures.found ours clean was_open)) new c.empty_file.ensures.honest ours (λ s keeps. none s (inr keeps))

pub returns-in-Err-empty_file-clause-untouched : goal.returns-in-Err-empty_file-clause-untouched
returns-in-Err-empty_file-clause-untouched g c other not_named =
    let old = state g.S.Store c.args.conn in
    let mid = state g.S.Store c.find_either.new.conn in
    let new = state g.S.Store c.empty_file.new.conn in
    untouched_never old mid c.in-Ok-Second.ensures.rest new c.empty_file.ensures.honest (λ clean. not_named (subst (λ f. HasNamesOf f old.now.schema) c.in-Ok-Second.field-0-is (c.in-Ok-Second.ensures.named clean)))

-- ---- a file of version 1

pub returns-in-Ok-upgrade_file-clause-means : goal.returns-in-Ok-upgrade_file-clause-means
returns-in-Ok-upgrade_file-clause-means g c s is =
    let old = state g.S.Store c.args.conn in
    let mid = state g.S.Store c.find_either.new.conn in
    let end = state g.S.Store c.upgrade_file.new.conn in
    elim is [
      | inl first ↦ record { means = c.in-Ok-upgrade_file.ensures.made s (first_means old mid c.in-Ok-First.ensures.rest s first); sound = first.sound }
      | inr second ↦ record {
        means = λ clean. absurd (not_first old mid c.in-Ok-First.ensures.rest (λ clean. c.in-Ok-First.ensures.opened clean (first_is_whole c.in-Ok-First.field-0-is))
            (λ ours clean was_open. subst (λ f. IsEither f old.now) c.in-Ok-First.field-0-is (c.in-Ok-First.ensures.found ours clean was_open)) s second (c.upgrade_file.ensures.honest clean));
        sound = second.sound;
      }
    ]

pub returns-in-Ok-upgrade_file-clause-accepts : goal.returns-in-Ok-upgrade_file-clause-accepts
returns-in-Ok-upgrade_file-clause-accepts g c ours clean =
    let old = state g.S.Store c.args.conn in
    let mid = state g.S.Store c.find_either.new.conn in
    let found = first_found old mid c.in-Ok-First.ensures.rest (λ clean. c.in-Ok-First.ensures.opened clean (first_is_whole c.in-Ok-First.field-0-is)) c.in-Ok-First.ensures.at_rest
    (λ ours clean was_open. subst (λ f. IsEither f old.now) c.in-Ok-First.field-0-is (c.in-Ok-First.ensures.found ours clean was_open)) ours (c.upgrade_file.ensures.honest clean) in
    (found.0, inl found.1, record { means = c.in-Ok-upgrade_file.ensures.made found.0 found.2; sound = found.1.sound })

pub returns-in-Ok-upgrade_file-clause-durable : goal.returns-in-Ok-upgrade_file-clause-durable
returns-in-Ok-upgrade_file-clause-durable g c clean s keeps =
    let end = state g.S.Store c.upgrade_file.new.conn in
    let is_open : IsTrue end.is_open = (c.in-Ok-upgrade_file.ensures.opened clean).0 in
    let it = left_alone end s keeps.sound clean (c.in-Ok-upgrade_file.ensures.opened clean).1
    (leaves_kept end s is_open (λ db. g.met.S.Store.settled c.upgrade_file.new.conn.store db is_open) keeps.means) in
    record { there = it.there; alone = it.alone; whole = it.whole }

pub returns-in-Err-upgrade_file-clause-crash : goal.returns-in-Err-upgrade_file-clause-crash
returns-in-Err-upgrade_file-clause-crash g c s is =
    let old = state g.S.Store c.args.conn in
    let mid = state g.S.Store c.find_either.new.conn in
    let end = state g.S.Store c.upgrade_file.new.conn in
    elim is [
      | inl first ↦ adds_still old mid c.in-Ok-First.ensures.rest end c.upgrade_file.ensures.honest s (c.in-Err-upgrade_file.ensures.crash s (first_means old mid c.in-Ok-First.ensures.rest s first))
      | inr second ↦ λ clean. absurd (not_first old mid c.in-Ok-First.ensures.rest (λ clean. c.in-Ok-First.ensures.opened clean (first_is_whole c.in-Ok-First.field-0-is))
          (λ ours clean was_open. subst (λ f. IsEither f old.now) c.in-Ok-First.field-0-is (c.in-Ok-First.ensures.found ours clean was_open)) s second (c.upgrade_file.ensures.honest clean))
    ]

pub returns-in-Err-upgrade_file-clause-others : goal.returns-in-Err-upgrade_file-clause-others
returns-in-Err-upgrade_file-clause-others g c ours none =
    let old = state g.S.Store c.args.conn in
    let mid = state g.S.Store c.find_either.new.conn in
    let end = state g.S.Store c.upgrade_file.new.conn in
    untouched_never old mid c.in-Ok-First.ensures.rest end c.upgrade_file.ensures.honest (λ clean.
    let found = first_found old mid c.in-Ok-First.ensures.rest (λ clean. c.in-Ok-First.ensures.opened clean (first_is_whole c.in-Ok-First.field-0-is)) c.in-Ok-First.ensures.at_rest
    (λ ours clean was_open. subst (λ f. IsEither f old.now) c.in-Ok-First.field-0-is (c.in-Ok-First.ensures.found ours clean was_open)) ours clean in
    none found.0 (inl found.1))

pub returns-in-Ok-upgrade_file-clause-emptied : goal.returns-in-Ok-upgrade_file-clause-emptied
returns-in-Ok-upgrade_file-clause-emptied g c ours clean =
    let old = state g.S.Store c.args.conn in
    let mid = state g.S.Store c.find_either.new.conn in
    let found = first_found old mid c.in-Ok-First.ensures.rest (λ clean. c.in-Ok-First.ensures.opened clean (first_is_whole c.in-Ok-First.field-0-is)) c.in-Ok-First.ensures.at_rest
    (λ ours clean was_open. subst (λ f. IsEither f old.now) c.in-Ok-First.field-0-is (c.in-Ok-First.ensures.found ours clean was_open)) ours (c.upgrade_file.ensures.honest clean) in
    c.in-Ok-upgrade_file.ensures.unstaged found.0 found.2 clean (c.in-Ok-upgrade_file.ensures.opened clean).0

-- ---- the tables by their names

pub returns-in-Ok-clause-named : goal.returns-in-Ok-clause-named
returns-in-Ok-clause-named g c clean = inr (subst (λ f. HasNamesOf f (state g.S.Store c.args.conn).now.schema) c.in-Ok-Second.field-0-is (c.in-Ok-Second.ensures.named (c.empty_file.ensures.honest clean)))

pub returns-in-Ok-upgrade_file-clause-named : goal.returns-in-Ok-upgrade_file-clause-named
returns-in-Ok-upgrade_file-clause-named g c clean = inl (subst (λ f. HasNamesOf f (state g.S.Store c.args.conn).now.schema) c.in-Ok-First.field-0-is (c.in-Ok-First.ensures.named (c.upgrade_file.ensures.honest clean)))

-- ---- a file whose tables are not those of version 1

pub returns-in-Ok-upgrade_file-clause-same : goal.returns-in-Ok-upgrade_file-clause-same
returns-in-Ok-upgrade_file-clause-same g c ours other clean = absurd (other (subst (λ f. HasNamesOf f (state g.S.Store c.args.conn).now.schema) c.in-Ok-First.field-0-is (c.in-Ok-First.ensures.named (c.upgrade_file.ensures.honest clean))))

pub returns-in-Ok-upgrade_file-clause-spared : goal.returns-in-Ok-upgrade_file-clause-spared
returns-in-Ok-upgrade_file-clause-spared g c ours none other =
    let old = state g.S.Store c.args.conn in
    let mid = state g.S.Store c.find_either.new.conn in
    let end = state g.S.Store c.upgrade_file.new.conn in
    untouched_never old mid c.in-Ok-First.ensures.rest end c.upgrade_file.ensures.honest (λ clean. other (subst (λ f. HasNamesOf f old.now.schema) c.in-Ok-First.field-0-is (c.in-Ok-First.ensures.named clean)))

pub returns-in-Err-upgrade_file-clause-untouched : goal.returns-in-Err-upgrade_file-clause-untouched
returns-in-Err-upgrade_file-clause-untouched g c other not_second =
    let old = state g.S.Store c.args.conn in
    let mid = state g.S.Store c.find_either.new.conn in
    let end = state g.S.Store c.upgrade_file.new.conn in
    untouched_never old mid c.in-Ok-First.ensures.rest end c.upgrade_file.ensures.honest (λ clean. other (subst (λ f. HasNamesOf f old.now.schema) c.in-Ok-First.field-0-is (c.in-Ok-First.ensures.named clean)))

-- ---- what remains of a file of version 2 with nothing staged

pub returns-in-Err-empty_file-clause-idle : goal.returns-in-Err-empty_file-clause-idle
returns-in-Err-empty_file-clause-idle g c ours none other =
    let old = state g.S.Store c.args.conn in
    let mid = state g.S.Store c.find_either.new.conn in
    let new = state g.S.Store c.empty_file.new.conn in
    spared old mid c.in-Ok-Second.ensures.rest (λ clean. c.in-Ok-Second.ensures.opened clean (second_is_whole c.in-Ok-Second.field-0-is)) c.in-Ok-Second.ensures.at_rest
    (λ ours clean was_open. subst (λ f. IsEither f old.now) c.in-Ok-Second.field-0-is (c.in-Ok-Second.ensures.found ours clean was_open)) new c.empty_file.ensures.honest c.empty_file.ensures.spared ours none

pub returns-in-Err-upgrade_file-clause-idle : goal.returns-in-Err-upgrade_file-clause-idle
returns-in-Err-upgrade_file-clause-idle g c ours none other =
    let old = state g.S.Store c.args.conn in
    let mid = state g.S.Store c.find_either.new.conn in
    let end = state g.S.Store c.upgrade_file.new.conn in
    untouched_never old mid c.in-Ok-First.ensures.rest end c.upgrade_file.ensures.honest (λ clean. other (subst (λ f. HasNamesOf f old.now.schema) c.in-Ok-First.field-0-is (c.in-Ok-First.ensures.named clean)))

-- ---- what a crash leaves after a fault

pub returns-in-Err-empty_file-clause-spares : goal.returns-in-Err-empty_file-clause-spares
returns-in-Err-empty_file-clause-spares g c =
    let old = state g.S.Store c.args.conn in
    let mid = state g.S.Store c.find_either.new.conn in
    let new = state g.S.Store c.empty_file.new.conn in
    spares old mid c.in-Ok-Second.ensures.rest (λ clean. c.in-Ok-Second.ensures.opened clean (second_is_whole c.in-Ok-Second.field-0-is)) c.in-Ok-Second.ensures.at_rest
    (λ ours clean was_open. subst (λ f. IsEither f old.now) c.in-Ok-Second.field-0-is (c.in-Ok-Second.ensures.found ours clean was_open)) new c.empty_file.ensures.honest c.empty_file.ensures.crash (IsOfficeFile old) (λ s keeps. inr keeps)

pub returns-in-Err-upgrade_file-clause-spares : goal.returns-in-Err-upgrade_file-clause-spares
returns-in-Err-upgrade_file-clause-spares g c ours =
    let old = state g.S.Store c.args.conn in
    let mid = state g.S.Store c.find_either.new.conn in
    let end = state g.S.Store c.upgrade_file.new.conn in
    spares_still old mid c.in-Ok-First.ensures.rest end c.upgrade_file.ensures.honest (IsOfficeFile old) (λ clean.
    let found = first_found old mid c.in-Ok-First.ensures.rest (λ clean. c.in-Ok-First.ensures.opened clean (first_is_whole c.in-Ok-First.field-0-is)) c.in-Ok-First.ensures.at_rest
    (λ ours clean was_open. subst (λ f. IsEither f old.now) c.in-Ok-First.field-0-is (c.in-Ok-First.ensures.found ours clean was_open)) ours (c.upgrade_file.ensures.honest clean) in
    (found.0, inl found.1, found.1.sound, c.upgrade_file.ensures.crash found.0 found.2))

pub returns-in-Err-empty_file-clause-kept : goal.returns-in-Err-empty_file-clause-kept
returns-in-Err-empty_file-clause-kept g c =
    let old = state g.S.Store c.args.conn in
    let mid = state g.S.Store c.find_either.new.conn in
    let new = state g.S.Store c.empty_file.new.conn in
    looks_still old mid c.in-Ok-Second.ensures.rest new c.empty_file.ensures.honest (λ clean. c.in-Err-empty_file.ensures.kept (c.in-Ok-Second.ensures.at_rest (c.empty_file.ensures.honest clean)).settled clean)

pub returns-in-Err-upgrade_file-clause-kept : goal.returns-in-Err-upgrade_file-clause-kept
returns-in-Err-upgrade_file-clause-kept g c =
    let old = state g.S.Store c.args.conn in
    let mid = state g.S.Store c.find_either.new.conn in
    let new = state g.S.Store c.upgrade_file.new.conn in
    looks_still old mid c.in-Ok-First.ensures.rest new c.upgrade_file.ensures.honest (λ clean. c.in-Err-upgrade_file.ensures.kept (c.in-Ok-First.ensures.at_rest (c.upgrade_file.ensures.honest clean)).settled clean)

pub returns-in-Err-clause-crash : goal.returns-in-Err-clause-crash
returns-in-Err-clause-crash g c = grind arith

pub returns-in-Err-clause-kept : goal.returns-in-Err-clause-kept
returns-in-Err-clause-kept g c = grind arith

pub returns-in-Err-clause-shape : goal.returns-in-Err-clause-shape
returns-in-Err-clause-shape g c = grind arith

pub returns-in-Err-clause-spares : goal.returns-in-Err-clause-spares
returns-in-Err-clause-spares g c = grind arith

pub returns-in-Err-clause-told : goal.returns-in-Err-clause-told
returns-in-Err-clause-told g c = grind arith

pub returns-in-Err-clause-version : goal.returns-in-Err-clause-version
returns-in-Err-clause-version g c = grind arith

pub returns-in-Err-empty_file-clause-shape : goal.returns-in-Err-empty_file-clause-shape
returns-in-Err-empty_file-clause-shape g c = grind arith

pub returns-in-Err-empty_file-clause-spared : goal.returns-in-Err-empty_file-clause-spared
returns-in-Err-empty_file-clause-spared g c = grind arith

pub returns-in-Err-empty_file-clause-told : goal.returns-in-Err-empty_file-clause-told
returns-in-Err-empty_file-clause-told g c = grind arith

pub returns-in-Err-empty_file-clause-unharmed : goal.returns-in-Err-empty_file-clause-unharmed
returns-in-Err-empty_file-clause-unharmed g c = grind arith

pub returns-in-Err-empty_file-clause-version : goal.returns-in-Err-empty_file-clause-version
returns-in-Err-empty_file-clause-version g c = grind arith

pub returns-in-Err-upgrade_file-clause-shape : goal.returns-in-Err-upgrade_file-clause-shape
returns-in-Err-upgrade_file-clause-shape g c = grind arith

pub returns-in-Err-upgrade_file-clause-spared : goal.returns-in-Err-upgrade_file-clause-spared
returns-in-Err-upgrade_file-clause-spared g c = grind arith

pub returns-in-Err-upgrade_file-clause-told : goal.returns-in-Err-upgrade_file-clause-told
returns-in-Err-upgrade_file-clause-told g c = grind arith

pub returns-in-Err-upgrade_file-clause-unharmed : goal.returns-in-Err-upgrade_file-clause-unharmed
returns-in-Err-upgrade_file-clause-unharmed g c = grind arith

pub returns-in-Err-upgrade_file-clause-version : goal.returns-in-Err-upgrade_file-clause-version
returns-in-Err-upgrade_file-clause-version g c = grind arith

pub returns-in-Ok-Damaged-clause-crash : goal.returns-in-Ok-Damaged-clause-crash
returns-in-Ok-Damaged-clause-crash g c = grind arith

pub returns-in-Ok-Damaged-clause-kept : goal.returns-in-Ok-Damaged-clause-kept
returns-in-Ok-Damaged-clause-kept g c = grind arith

pub returns-in-Ok-Damaged-clause-shape : goal.returns-in-Ok-Damaged-clause-shape
returns-in-Ok-Damaged-clause-shape g c = grind arith

pub returns-in-Ok-Damaged-clause-spares : goal.returns-in-Ok-Damaged-clause-spares
returns-in-Ok-Damaged-clause-spares g c = grind arith

pub returns-in-Ok-Damaged-clause-told : goal.returns-in-Ok-Damaged-clause-told
returns-in-Ok-Damaged-clause-told g c = grind arith

pub returns-in-Ok-Damaged-clause-version : goal.returns-in-Ok-Damaged-clause-version
returns-in-Ok-Damaged-clause-version g c = grind arith

pub returns-in-Ok-OtherVersion-clause-crash : goal.returns-in-Ok-OtherVersion-clause-crash
returns-in-Ok-OtherVersion-clause-crash g c = grind arith

pub returns-in-Ok-OtherVersion-clause-kept : goal.returns-in-Ok-OtherVersion-clause-kept
returns-in-Ok-OtherVersion-clause-kept g c = grind arith

pub returns-in-Ok-OtherVersion-clause-shape : goal.returns-in-Ok-OtherVersion-clause-shape
returns-in-Ok-OtherVersion-clause-shape g c = grind arith

pub returns-in-Ok-OtherVersion-clause-spares : goal.returns-in-Ok-OtherVersion-clause-spares
returns-in-Ok-OtherVersion-clause-spares g c = grind arith

pub returns-in-Ok-OtherVersion-clause-told : goal.returns-in-Ok-OtherVersion-clause-told
returns-in-Ok-OtherVersion-clause-told g c = grind arith

pub returns-in-Ok-OtherVersion-clause-version : goal.returns-in-Ok-OtherVersion-clause-version
returns-in-Ok-OtherVersion-clause-version g c = grind arith

pub returns-in-Ok-clause-early : goal.returns-in-Ok-clause-early
returns-in-Ok-clause-early g c = grind arith

pub returns-in-Ok-clause-opened : goal.returns-in-Ok-clause-opened
returns-in-Ok-clause-opened g c = grind arith

pub returns-in-Ok-clause-staged : goal.returns-in-Ok-clause-staged
returns-in-Ok-clause-staged g c = grind arith

pub returns-in-Ok-upgrade_file-clause-early : goal.returns-in-Ok-upgrade_file-clause-early
returns-in-Ok-upgrade_file-clause-early g c = grind arith

pub returns-in-Ok-upgrade_file-clause-opened : goal.returns-in-Ok-upgrade_file-clause-opened
returns-in-Ok-upgrade_file-clause-opened g c = grind arith

pub returns-in-Ok-upgrade_file-clause-staged : goal.returns-in-Ok-upgrade_file-clause-staged
returns-in-Ok-upgrade_file-clause-staged g c = grind arith
