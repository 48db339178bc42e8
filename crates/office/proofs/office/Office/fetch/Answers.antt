use Rattle.std.proofs.Common.{◌∙◌, ap, refl, arith}
use Rattle.office.specs.Crashes.{Endures, unchanged}
use Rattle.office.specs.Places.{place_at}
use Rattle.office.specs.Rules.{place_of}
use Rattle.office.proofs.Endurance.{asked_standing}
use Rattle.office.proofs.Replies.{fetched, not_fetched}
use Rattle.office.proofs.KeeperCalls.{looks_answered, looks_failed, looks_still}
use Rattle.office.proofs.office.Office.fetch.Goals as goal

pub returns-in-Ok-fetch-clause-replies : goal.returns-in-Ok-fetch-clause-replies
returns-in-Ok-fetch-clause-replies g c s r p now kept is is_fetch reached =
    let same = c.read_place-place.ensures ∙ ap place_of (c.deref.ensures.value ∙ c.in-Ok.ensures r p is) in
    fetched (Endures g.K.Keeper c.args.self.now.keeper c.look_for.new.self.keeper s) s r now p reached (place_at c.read_place-place.result) c.in-Ok-fetch.file is_fetch same
    (record { means = record { meant = c.look_for.ensures.rest.same s kept.means; lasts = unchanged refl (asked_standing c.look_for.ensures.rest kept.means kept.is_honest) }; sound = kept.sound })
    (c.in-Ok-fetch.ensures s c.read_place-place.result.in_box.now kept.sound (c.in-Ok-look_for.ensures.view s kept))

pub returns-clause-replies : goal.returns-clause-replies
returns-clause-replies g c s r p now kept is is_fetch reached other =
    let same = c.read_place-place.ensures ∙ ap place_of (c.deref.ensures.value ∙ c.in-Ok.ensures r p is) in
    not_fetched (Endures g.K.Keeper c.args.self.now.keeper c.look_for.new.self.keeper s) s r now p reached (place_at c.read_place-place.result) c.in-Err.refusal is_fetch same
    (c.in-Err.ensures s c.read_place-place.result.in_box.now kept.sound (c.in-Ok-look_for.ensures.view s kept))

pub returns-in-Ok-fetch-clause-plain : goal.returns-in-Ok-fetch-clause-plain
returns-in-Ok-fetch-clause-plain g c = grind arith

pub returns-in_default-clause-replies : goal.returns-in_default-clause-replies
returns-in_default-clause-replies g c = grind arith

pub returns-in_default-look_for-clause-replies : goal.returns-in_default-look_for-clause-replies
returns-in_default-look_for-clause-replies g c = grind arith

pub returns-in_default-clause-looks : goal.returns-in_default-clause-looks
returns-in_default-clause-looks g c = looks_still

pub returns-in_default-look_for-clause-looks : goal.returns-in_default-look_for-clause-looks
returns-in_default-look_for-clause-looks g c = looks_failed c.in_default-look_for.ensures.rest c.look_for.ensures.staged refl

pub returns-in-Ok-fetch-clause-looks : goal.returns-in-Ok-fetch-clause-looks
returns-in-Ok-fetch-clause-looks g c = looks_answered c.in-Ok-look_for.ensures.rest c.look_for.ensures.staged

pub returns-clause-looks : goal.returns-clause-looks
returns-clause-looks g c = looks_answered c.in-Ok-look_for.ensures.rest c.look_for.ensures.staged
