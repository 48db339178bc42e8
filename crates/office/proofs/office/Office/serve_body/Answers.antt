use Rattle.std.proofs.Common.{◌≡◌, ℕ, List, [], refl, subst, sym}
use Rattle.std.specs.Prelude.{IsTrue, Option, OnErr}
use Rattle.std.specs.Io.KnownBytes.{Consumes}
use Rattle.sigtext.specs.Counts.{Rose}
use Rattle.sigtext.specs.declared.refusal.Refusal.TheVariants as rule
use Rattle.office.specs.Premise.{IsFault}
use Rattle.office.specs.declared.requests.foreseeing.Body.{Body}
use Rattle.office.specs.declared.connections.receiving.Received.TheVariants as received
use Rattle.office.proofs.BodySteps.{broken_off_step, came_whole, given_up_step, lacking_step, whole_step}
use Rattle.office.proofs.BodyWaits.{awaits_more, begun_from, begun_so, either_way, expected_first, part_first, short_head, some_is, stands_by, stands_first, taken_all, waits_kept, waits_not_gave_up, whole_left_first}
use Rattle.office.proofs.Stagings.{nothing_read}
use Rattle.office.proofs.Endings.{broken_not_gave_up, lacking_not_gave_up, whole_not_gave_up}
use Rattle.office.specs.Frames.{Quiet}
use Rattle.office.proofs.KeeperCalls.{on_err, on_ok, quiet_both, quiet_less, quiet_then}
use Rattle.office.proofs.SessionSteps.{before_quiet}
use Rattle.wire.specs.Feeds.{reader_of, waits_in}
use Rattle.office.proofs.office.Office.serve_body.Goals as goal

pub receive-requires : goal.receive-requires
receive-requires g c = stands_first c.args.feed.now c.requires.none c.args.size c.requires.open

pub returns-in-Whole-clause-steps : goal.returns-in-Whole-clause-steps
returns-in-Whole-clause-steps g c s p known head kept x len =
    let r = c.in-Whole.ensures in
    let took = c.receive.new in
    let began = c.begin_staging.new.self.keeper in
    let is_ok = c.is_err.ensures.value in
    let quiet : Quiet g.K.Keeper c.args.self.now.keeper took.self.keeper (received.Whole c.in-Whole.digest ≡ received.GaveUp) =
    quiet_then (quiet_less (λ fault. on_ok ⊥ c.is_err.result c.begin_staging.result is_ok c.if-is_err.false fault) c.begin_staging.ensures.quiet) r.quiet in
    let told : Body = record { length = c.args.size; digest = c.in-Whole.digest } in
    let y = expected_first c.args.feed.now c.requires.none g.R.Read.remaining s c.args.size known c.args.foreseen c.args.to_head head x in
    whole_step g.R.Read.remaining c.args.size c.args.feed.now took.feed g.C.Clock.now_gives p known
    c.args.clock.now c.answer_now-answer.new.clock g.K.Keeper c.args.self.now.keeper took.self.keeper c.answer_now-answer.new.self.keeper s c.args.foreseen c.args.to_head y c.answer_now-answer.result told
    (came_whole g.R.Read.remaining c.args.size c.args.feed.now took.feed g.K.Keeper took.self.keeper c.args.foreseen c.is_upload-upload.result told y.opening.opens.small c.is_upload-upload.ensures
    r.passes
    (λ up. r.stages up (part_first c.args.feed.now c.requires.none g.K.Keeper began c.new-sha.result (on_ok (g.K.Keeper.stages began []) c.is_err.result c.begin_staging.result is_ok c.if-is_err.false (c.begin_staging.ensures.staged up)) c.new-sha.ensures)) refl)
    (before_quiet g.K.Keeper c.args.self.now.keeper took.self.keeper s (received.Whole c.in-Whole.digest ≡ received.GaveUp) quiet (whole_not_gave_up _) kept.means (c.answer_now-answer.ensures.rest.honest kept.is_honest))
    (λ request foresees tells head staged. c.answer_now-answer.ensures.handled s request (record { means = quiet.same s kept.means; is_honest = kept.is_honest; sound = kept.sound }) foresees tells head staged)

pub returns-then-is_err-clause-steps : goal.returns-then-is_err-clause-steps
returns-then-is_err-clause-steps g c s p known head kept x len = λ output output' e closed.
    let y = expected_first c.args.feed.now c.requires.none g.R.Read.remaining s c.args.size known c.args.foreseen c.args.to_head head x in
    let asked = on_err (IsTrue c.is_upload-upload.result) c.is_err.result c.begin_staging.result c.is_err.ensures.value c.if-is_err.true c.begin_staging.ensures.asked in
    let none = nothing_read (g.R.Read.remaining (reader_of c.args.feed.now).inner) (waits_in c.args.feed.now) in
    given_up_step g.R.Read.remaining c.args.size c.args.feed.now c.args.feed.now g.C.Clock.now_gives p known output output'
    c.args.clock.now g.K.Keeper c.args.self.now.keeper c.drop_staged.new.self.keeper s c.args.foreseen c.args.to_head y e none.0 _
    (quiet_both c.begin_staging.ensures.quiet c.drop_staged.ensures.quiet) kept (subst (λ (l : Option (List ℕ)). Consumes l (g.R.Read.remaining (reader_of c.args.feed.now).inner) none.0) (sym (whole_left_first c.args.feed.now c.requires.none g.R.Read.remaining)) none.1) (c.is_upload-upload.ensures.0 asked) closed

pub returns-in-Lacking-clause-steps : goal.returns-in-Lacking-clause-steps
returns-in-Lacking-clause-steps g c s p known head kept x len = λ output output' e closed.
    let r = c.in-Lacking.ensures in
    let took = c.receive.new in
    let left_off = c.refuse_lacking.ensures in
    let began = c.begin_staging.new.self.keeper in
    let is_ok = c.is_err.ensures.value in
    let first : Quiet g.K.Keeper c.args.self.now.keeper took.self.keeper (received.Lacking ≡ received.GaveUp) =
    quiet_then (quiet_less (λ fault. on_ok ⊥ c.is_err.result c.begin_staging.result is_ok c.if-is_err.false fault) c.begin_staging.ensures.quiet) r.quiet in
    let second : Quiet g.K.Keeper took.self.keeper c.refuse_lacking.new.self.keeper (c.refuse_lacking.result ≡ rule.TryAgain) = left_off.quiet in
    let y = expected_first c.args.feed.now c.requires.none g.R.Read.remaining s c.args.size known c.args.foreseen c.args.to_head head x in
    let held = λ (up : IsTrue c.is_upload-upload.result). part_first c.args.feed.now c.requires.none g.K.Keeper began c.new-sha.result (on_ok (g.K.Keeper.stages began []) c.is_err.result c.begin_staging.result is_ok c.if-is_err.false (c.begin_staging.ensures.staged up)) c.new-sha.ensures in
    lacking_step g.R.Read.remaining c.args.size c.args.feed.now took.feed g.C.Clock.now_gives p known output output'
    c.args.clock.now g.K.Keeper c.args.self.now.keeper c.refuse_lacking.new.self.keeper s c.args.foreseen c.args.to_head y c.refuse_lacking.result e took.self.keeper c.is_upload-upload.result
    (quiet_less lacking_not_gave_up first) second kept (either_way c.is_upload-upload.result r.passes (λ up. r.stages up (held up))) c.is_upload-upload.ensures.0 left_off.left_off closed

pub returns-in-Broken-clause-steps : goal.returns-in-Broken-clause-steps
returns-in-Broken-clause-steps g c s p known head kept x len = λ output.
    let r = c.in-Broken.ensures in
    let took = c.receive.new in
    let dropped = c.drop_staged-in-Broken.ensures in
    let began = c.begin_staging.new.self.keeper in
    let is_ok = c.is_err.ensures.value in
    let first : Quiet g.K.Keeper c.args.self.now.keeper took.self.keeper (received.Broken ≡ received.GaveUp) =
    quiet_then (quiet_less (λ fault. on_ok ⊥ c.is_err.result c.begin_staging.result is_ok c.if-is_err.false fault) c.begin_staging.ensures.quiet) r.quiet in
    let second : Quiet g.K.Keeper took.self.keeper c.drop_staged-in-Broken.new.self.keeper (IsFault c.drop_staged-in-Broken.result) = dropped.quiet in
    let y = expected_first c.args.feed.now c.requires.none g.R.Read.remaining s c.args.size known c.args.foreseen c.args.to_head head x in
    let held = λ (up : IsTrue c.is_upload-upload.result). part_first c.args.feed.now c.requires.none g.K.Keeper began c.new-sha.result (on_ok (g.K.Keeper.stages began []) c.is_err.result c.begin_staging.result is_ok c.if-is_err.false (c.begin_staging.ensures.staged up)) c.new-sha.ensures in
    let broke = either_way c.is_upload-upload.result r.passes (λ up. r.stages up (held up)) in
    broken_off_step g.R.Read.remaining c.args.size c.args.feed.now took.feed g.C.Clock.now_gives p known output c.args.clock.now
    g.K.Keeper c.args.self.now.keeper c.drop_staged-in-Broken.new.self.keeper s c.args.foreseen c.args.to_head y c.drop_staged-in-Broken.result c.is_upload-upload.result broke.0
    (quiet_then (quiet_less broken_not_gave_up first) second)
    (subst (λ (n : ℕ). OnErr c.drop_staged-in-Broken.result (Rose n (g.K.Keeper.faults c.drop_staged-in-Broken.new.self.keeper))) (first.rest.counted broken_not_gave_up) dropped.counts)
    kept dropped.asked c.is_upload-upload.ensures.0 broke.1 broke.2

pub returns-in-GaveUp-clause-steps : goal.returns-in-GaveUp-clause-steps
returns-in-GaveUp-clause-steps g c s p known head kept x len = λ output output' e closed.
    let r = c.in-GaveUp.ensures in
    let took = c.receive.new in
    let dropped = c.drop_staged-in-GaveUp.ensures in
    let began = c.begin_staging.new.self.keeper in
    let is_ok = c.is_err.ensures.value in
    let first : Quiet g.K.Keeper c.args.self.now.keeper took.self.keeper (received.GaveUp ≡ received.GaveUp) =
    quiet_then (quiet_less (λ fault. on_ok ⊥ c.is_err.result c.begin_staging.result is_ok c.if-is_err.false fault) c.begin_staging.ensures.quiet) r.quiet in
    let second : Quiet g.K.Keeper took.self.keeper c.drop_staged-in-GaveUp.new.self.keeper (IsFault c.drop_staged-in-GaveUp.result) = dropped.quiet in
    let y = expected_first c.args.feed.now c.requires.none g.R.Read.remaining s c.args.size known c.args.foreseen c.args.to_head head x in
    let up = (r.counts refl).0 in
    let held = part_first c.args.feed.now c.requires.none g.K.Keeper began c.new-sha.result (on_ok (g.K.Keeper.stages began []) c.is_err.result c.begin_staging.result is_ok c.if-is_err.false (c.begin_staging.ensures.staged up)) c.new-sha.ensures in
    let gave_up = r.stages up held in
    given_up_step g.R.Read.remaining c.args.size c.args.feed.now took.feed g.C.Clock.now_gives p known output output'
    c.args.clock.now g.K.Keeper c.args.self.now.keeper c.drop_staged-in-GaveUp.new.self.keeper s c.args.foreseen c.args.to_head y e gave_up.0 _
    (quiet_both first second) kept gave_up.1 (c.is_upload-upload.ensures.0 up) closed

pub returns-in-Waits-clause-steps : goal.returns-in-Waits-clause-steps
returns-in-Waits-clause-steps g c s p known head kept x len =
    let r = c.in-Waits.ensures in
    let took = c.receive.new in
    let keeps = c.keep-kept.ensures in
    let began = c.begin_staging.new.self.keeper in
    let is_ok = c.is_err.ensures.value in
    let first : Quiet g.K.Keeper c.args.self.now.keeper took.self.keeper (received.Waits ≡ received.GaveUp) =
    quiet_then (quiet_less (λ fault. on_ok ⊥ c.is_err.result c.begin_staging.result is_ok c.if-is_err.false fault) c.begin_staging.ensures.quiet) r.quiet in
    let all : Quiet g.K.Keeper c.args.self.now.keeper c.keep-kept.new.self.keeper ⊥ = quiet_then (quiet_less waits_not_gave_up first) keeps.quiet in
    let y = expected_first c.args.feed.now c.requires.none g.R.Read.remaining s c.args.size known c.args.foreseen c.args.to_head head x in
    let held = λ (up : IsTrue c.is_upload-upload.result). part_first c.args.feed.now c.requires.none g.K.Keeper began c.new-sha.result (on_ok (g.K.Keeper.stages began []) c.is_err.result c.begin_staging.result is_ok c.if-is_err.false (c.begin_staging.ensures.staged up)) c.new-sha.ensures in
    let waits = either_way c.is_upload-upload.result r.passes (λ up. (r.stages up (held up)).0) in
    let begun = begun_so g.R.Read.remaining g.K.Keeper c.args.size c.args.feed.now took.feed s known c.args.foreseen c.args.to_head y c.keep-kept.result c.is_upload-upload.result took.self.keeper took.sha waits c.is_upload-upload.ensures.0
    (λ k at. keeps.some.1 (some_is c.keep-kept.result k at)) (λ up. (r.stages up (held up)).1) keeps.kept in (
      (short_head y.opening.opens len, (rw (taken_all head len) begun, rw (taken_all head len) (waits_kept known _ _ head y.opening.front waits.kept))),
      stands_by all kept,
    )

pub returns-in-Waits-clause-stands : goal.returns-in-Waits-clause-stands
returns-in-Waits-clause-stands g c head has_length o readable len =
    let r = c.in-Waits.ensures in
    let took = c.receive.new in
    let keeps = c.keep-kept.ensures in
    let began = c.begin_staging.new.self.keeper in
    let is_ok = c.is_err.ensures.value in
    let held = λ (up : IsTrue c.is_upload-upload.result). part_first c.args.feed.now c.requires.none g.K.Keeper began c.new-sha.result (on_ok (g.K.Keeper.stages began []) c.is_err.result c.begin_staging.result is_ok c.if-is_err.false (c.begin_staging.ensures.staged up)) c.new-sha.ensures in
    let waits = either_way c.is_upload-upload.result r.passes (λ up. (r.stages up (held up)).0) in
    let begun = begun_from g.R.Read.remaining g.K.Keeper c.args.size c.args.feed.now took.feed c.args.foreseen o readable c.keep-kept.result c.is_upload-upload.result took.self.keeper took.sha waits c.is_upload-upload.ensures.0
    (λ k at. keeps.some.1 (some_is c.keep-kept.result k at)) (λ up. (r.stages up (held up)).1) keeps.kept in
    (short_head o len, (rw (taken_all head len) begun, rw (taken_all head len) (awaits_more g.R.Read.remaining c.args.size c.args.feed.now took.feed head has_length o waits)))

pub returns-in-Waits-clause-all : goal.returns-in-Waits-clause-all
returns-in-Waits-clause-all g c = c.in-Waits.ensures.all refl
