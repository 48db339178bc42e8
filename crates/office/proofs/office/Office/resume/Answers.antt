use Rattle.std.proofs.Common.{◌≡◌, ◌∙◌, ℕ, List, [], inl, inr, ap, refl, subst, sym, take}
use Rattle.std.specs.Prelude.{Bool, ⊤}
use Rattle.std.specs.Io.KnownBytes.{Keeps, prepend_known}
use Rattle.sigtext.specs.Readable.{IsReadable}
use Rattle.wire.specs.Feeding.{Opens}
use Rattle.wire.specs.Feeds.{whole_left}
use Rattle.wire.specs.Framing.{request_of}
use Rattle.wire.specs.Underways.{IsWholeHead, head_of}
use Rattle.office.specs.Frames.{Quiet}
use Rattle.office.specs.declared.connections.receiving.Received.TheVariants as received
use Rattle.office.specs.declared.requests.foreseeing.Body.{Body}
use Rattle.office.proofs.BodySteps.{has_come}
use Rattle.office.proofs.BodyWaits.{either_way, some_is, stands_by, still_awaits, waits_not_gave_up}
use Rattle.office.proofs.Endings.{broken_not_gave_up, lacking_not_gave_up, whole_not_gave_up}
use Rattle.office.proofs.Holding.{holds_less, holds_then}
use Rattle.office.proofs.KeeperCalls.{quiet_both, quiet_less, quiet_then}
use Rattle.office.proofs.Resumptions.{kept_readable, part_of, resumed_broken, resumed_given_up, resumed_lacking, resumed_whole, small_body, still_begun, still_kept, unkept}
use Rattle.office.proofs.SessionSteps.{before_quiet}
use Rattle.office.proofs.Told.{gives_up_later, reading_same, so_if_answer}
use Rattle.office.proofs.Unstaged.{ends_later}
use Rattle.office.proofs.office.Office.resume.Goals as goal

-- ---- what the calls ask for

pub serve_whole-response-requires : goal.serve_whole-response-requires
serve_whole-response-requires g c = subst (λ (t : List ℕ). IsWholeHead t c.args.underway.size) (sym (ap (take c.args.underway.len) c.deref.ensures)) c.requires.whole

pub look_again-requires : goal.look_again-requires
look_again-requires g c = subst (λ (t : List ℕ). IsWholeHead t c.args.underway.size) (sym (ap (take c.args.underway.len) c.deref-in-Lacking.ensures)) c.requires.whole

pub look_again-requires-in-Broken : goal.look_again-requires-in-Broken
look_again-requires-in-Broken g c = subst (λ (t : List ℕ). IsWholeHead t c.args.underway.size) (sym (ap (take c.args.underway.len) c.deref-in-Broken.ensures)) c.requires.whole

pub give_up_kept-requires-clause-whole : goal.give_up_kept-requires-clause-whole
give_up_kept-requires-clause-whole g c = subst (λ (t : List ℕ). IsWholeHead t c.args.underway.size) (sym (ap (take c.args.underway.len) c.deref-in-GaveUp.ensures)) c.requires.whole

pub give_up_kept-requires-clause-readable : goal.give_up_kept-requires-clause-readable
give_up_kept-requires-clause-readable g c =
    subst (λ (t : List ℕ). (has_length : Bool) (n : ℕ) (o : Opens t has_length n) → ∥ IsReadable (request_of o.head has_length []) ∥₁) (sym (ap (take c.args.underway.len) c.deref-in-GaveUp.ensures))
    (kept_readable (head_of c.args.underway) _ c.args.underway.kept (sym c.is_some-is_kept.ensures ∙ (c.in-GaveUp.ensures.counts refl).0) c.requires.holds)

-- ---- the whole body came

pub returns-in-Whole-clause-steps : goal.returns-in-Whole-clause-steps
returns-in-Whole-clause-steps g c s p known was kept =
    let r = c.in-Whole.ensures in
    let put = c.put_back-sha.ensures in
    let is = c.is_some-is_kept in
    let took = c.receive.new in
    let size = c.args.underway.size in
    let text = take c.args.underway.len c.deref.result.now in
    let part = part_of g.K.Keeper (head_of c.args.underway) c.args.feed.now c.args.underway.kept is.result c.put_back-sha.new.self.keeper c.put_back-sha.result is.ensures c.requires.holds put.staged put.octets put.hashed in
    let told : Body = record { length = size; digest = c.in-Whole.digest } in
    let come = has_come g.R.Read.remaining size c.args.feed.now took.feed g.K.Keeper took.self.keeper is.result told (small_body (head_of c.args.underway) size c.requires.whole) r.passes (λ t. r.stages t (part t)) refl in
    let quiet : Quiet g.K.Keeper c.args.self.now.keeper took.self.keeper ⊥ = quiet_then put.quiet (quiet_less (whole_not_gave_up _) r.quiet) in
    let ends = c.serve_whole-response.ensures.ends s come.body (record { means = quiet.same s was.means; is_honest = was.is_honest; sound = was.sound }) come.taken.0 come.staged in
    resumed_whole g.R.Read.remaining size c.args.feed.now took.feed g.C.Clock.now_gives p known c.args.clock.now c.serve_whole-response.new.clock g.K.Keeper c.args.self.now.keeper took.self.keeper c.serve_whole-response.new.self.keeper s text
    (subst (λ (t : List ℕ). Keeps known (prepend_known t (whole_left g.R.Read.remaining c.args.feed.now))) (sym (ap (take c.args.underway.len) c.deref.ensures)) kept)
    ends.0 ends.1 come.body c.serve_whole-response.result come.taken
    (before_quiet g.K.Keeper c.args.self.now.keeper took.self.keeper s ⊥ quiet (λ none. none) was.means (c.serve_whole-response.ensures.rest.honest was.is_honest)) ends.2

pub returns-in-Whole-clause-goes_on : goal.returns-in-Whole-clause-goes_on
returns-in-Whole-clause-goes_on g c =
    let r = c.in-Whole.ensures in
    let put = c.put_back-sha.ensures in
    let is = c.is_some-is_kept in
    let took = c.receive.new in
    let size = c.args.underway.size in
    let part = part_of g.K.Keeper (head_of c.args.underway) c.args.feed.now c.args.underway.kept is.result c.put_back-sha.new.self.keeper c.put_back-sha.result is.ensures c.requires.holds put.staged put.octets put.hashed in
    let told : Body = record { length = size; digest = c.in-Whole.digest } in
    let come = has_come g.R.Read.remaining size c.args.feed.now took.feed g.K.Keeper took.self.keeper is.result told (small_body (head_of c.args.underway) size c.requires.whole) r.passes (λ t. r.stages t (part t)) refl in
    so_if_answer c.serve_whole-response.result (come.taken.1, come.taken.2)

pub returns-in-Whole-clause-faults : goal.returns-in-Whole-clause-faults
returns-in-Whole-clause-faults g c = reading_same c.serve_whole-response.result _ _ c.serve_whole-response.ensures.read c.in-Whole.ensures.counted

pub returns-in-Whole-clause-same : goal.returns-in-Whole-clause-same
returns-in-Whole-clause-same g c = c.in-Whole.ensures.same

pub returns-in-Whole-clause-free : goal.returns-in-Whole-clause-free
returns-in-Whole-clause-free g c = λ f. (c.in-Whole.ensures.free f).0

pub returns-in-Whole-clause-unstaged : goal.returns-in-Whole-clause-unstaged
returns-in-Whole-clause-unstaged g c none =
    let r = c.in-Whole.ensures in
    let put = c.put_back-sha.ensures in
    let is = c.is_some-is_kept in
    let quiet : Quiet g.K.Keeper c.args.self.now.keeper c.receive.new.self.keeper ⊥ = quiet_then put.quiet (quiet_less (whole_not_gave_up _) r.quiet) in
    ends_later g.K.Keeper c.args.self.now.keeper c.receive.new.self.keeper c.serve_whole-response.new.self.keeper quiet.rest.never_less
    (c.serve_whole-response.ensures.unstaged (either_way is.result (λ f. inr (r.unstaged f (unkept c.args.underway.kept is.result is.ensures f (λ no. put.passed no none)))) (λ t. inl t)))

pub returns-in-Whole-clause-rest : goal.returns-in-Whole-clause-rest
returns-in-Whole-clause-rest g c =
    let r = c.in-Whole.ensures in
    let quiet : Quiet g.K.Keeper c.args.self.now.keeper c.receive.new.self.keeper ⊥ = quiet_then c.put_back-sha.ensures.quiet (quiet_less (whole_not_gave_up _) r.quiet) in
    holds_then quiet.rest
    (holds_less (gives_up_later g.K.Keeper c.args.self.now.keeper c.receive.new.self.keeper c.serve_whole-response.new.self.keeper c.serve_whole-response.result quiet.rest.never_less) c.serve_whole-response.ensures.rest)

-- ---- the stream ended within the body

pub returns-in-Lacking-clause-steps : goal.returns-in-Lacking-clause-steps
returns-in-Lacking-clause-steps g c s p known was kept = λ output output' e closed.
    let r = c.in-Lacking.ensures in
    let put = c.put_back-sha.ensures in
    let is = c.is_some-is_kept in
    let took = c.receive.new in
    let size = c.args.underway.size in
    let part = part_of g.K.Keeper (head_of c.args.underway) c.args.feed.now c.args.underway.kept is.result c.put_back-sha.new.self.keeper c.put_back-sha.result is.ensures c.requires.holds put.staged put.octets put.hashed in
    let quiet : Quiet g.K.Keeper c.args.self.now.keeper c.let_go_kept.new.self.keeper ⊥ = quiet_then (quiet_then put.quiet (quiet_less lacking_not_gave_up r.quiet)) c.let_go_kept.ensures.quiet in
    resumed_lacking g.R.Read.remaining size c.args.feed.now took.feed g.C.Clock.now_gives p known output output'
    c.args.clock.now g.K.Keeper c.args.self.now.keeper c.let_go_kept.new.self.keeper s (take c.args.underway.len c.deref-in-Lacking.result.now)
    (subst (λ (t : List ℕ). Keeps known (prepend_known t (whole_left g.R.Read.remaining c.args.feed.now))) (sym (ap (take c.args.underway.len) c.deref-in-Lacking.ensures)) kept)
    c.look_again.ensures.0 c.look_again.ensures.1 e quiet was (either_way is.result r.passes (λ t. r.stages t (part t))) closed

pub returns-in-Lacking-clause-faults : goal.returns-in-Lacking-clause-faults
returns-in-Lacking-clause-faults g c = c.in-Lacking.ensures.counted

pub returns-in-Lacking-clause-same : goal.returns-in-Lacking-clause-same
returns-in-Lacking-clause-same g c = c.in-Lacking.ensures.same

pub returns-in-Lacking-clause-free : goal.returns-in-Lacking-clause-free
returns-in-Lacking-clause-free g c = λ f. (c.in-Lacking.ensures.free f).0

pub returns-in-Lacking-clause-unstaged : goal.returns-in-Lacking-clause-unstaged
returns-in-Lacking-clause-unstaged g c none =
    let r = c.in-Lacking.ensures in
    let put = c.put_back-sha.ensures in
    let is = c.is_some-is_kept in
    inl (c.let_go_kept.ensures.unstaged refl (either_way is.result (λ f. inr (r.unstaged f (unkept c.args.underway.kept is.result is.ensures f (λ no. put.passed no none)))) (λ t. inl t)))

pub returns-in-Lacking-clause-rest : goal.returns-in-Lacking-clause-rest
returns-in-Lacking-clause-rest g c =
    let quiet : Quiet g.K.Keeper c.args.self.now.keeper c.let_go_kept.new.self.keeper ⊥ =
    quiet_then (quiet_then c.put_back-sha.ensures.quiet (quiet_less lacking_not_gave_up c.in-Lacking.ensures.quiet)) c.let_go_kept.ensures.quiet in
    holds_less (λ none. absurd none) quiet.rest

-- ---- a read failed within the body

pub returns-in-Broken-clause-steps : goal.returns-in-Broken-clause-steps
returns-in-Broken-clause-steps g c s p known was kept = λ output.
    let r = c.in-Broken.ensures in
    let put = c.put_back-sha.ensures in
    let is = c.is_some-is_kept in
    let took = c.receive.new in
    let size = c.args.underway.size in
    let part = part_of g.K.Keeper (head_of c.args.underway) c.args.feed.now c.args.underway.kept is.result c.put_back-sha.new.self.keeper c.put_back-sha.result is.ensures c.requires.holds put.staged put.octets put.hashed in
    let quiet : Quiet g.K.Keeper c.args.self.now.keeper c.let_go_kept-in-Broken.new.self.keeper ⊥ = quiet_then (quiet_then put.quiet (quiet_less broken_not_gave_up r.quiet)) c.let_go_kept-in-Broken.ensures.quiet in
    resumed_broken g.R.Read.remaining size c.args.feed.now took.feed g.C.Clock.now_gives p known output output
    c.args.clock.now g.K.Keeper c.args.self.now.keeper c.let_go_kept-in-Broken.new.self.keeper s (take c.args.underway.len c.deref-in-Broken.result.now)
    (subst (λ (t : List ℕ). Keeps known (prepend_known t (whole_left g.R.Read.remaining c.args.feed.now))) (sym (ap (take c.args.underway.len) c.deref-in-Broken.ensures)) kept)
    c.look_again-in-Broken.ensures.0 c.look_again-in-Broken.ensures.1 quiet was (either_way is.result r.passes (λ t. r.stages t (part t)))

pub returns-in-Broken-clause-faults : goal.returns-in-Broken-clause-faults
returns-in-Broken-clause-faults g c = c.in-Broken.ensures.counted

pub returns-in-Broken-clause-same : goal.returns-in-Broken-clause-same
returns-in-Broken-clause-same g c = c.in-Broken.ensures.same

pub returns-in-Broken-clause-free : goal.returns-in-Broken-clause-free
returns-in-Broken-clause-free g c = λ f. (c.in-Broken.ensures.free f).0

pub returns-in-Broken-clause-unstaged : goal.returns-in-Broken-clause-unstaged
returns-in-Broken-clause-unstaged g c none =
    let r = c.in-Broken.ensures in
    let put = c.put_back-sha.ensures in
    let is = c.is_some-is_kept in
    inl (c.let_go_kept-in-Broken.ensures.unstaged refl (either_way is.result (λ f. inr (r.unstaged f (unkept c.args.underway.kept is.result is.ensures f (λ no. put.passed no none)))) (λ t. inl t)))

pub returns-in-Broken-clause-rest : goal.returns-in-Broken-clause-rest
returns-in-Broken-clause-rest g c =
    let quiet : Quiet g.K.Keeper c.args.self.now.keeper c.let_go_kept-in-Broken.new.self.keeper ⊥ =
    quiet_then (quiet_then c.put_back-sha.ensures.quiet (quiet_less broken_not_gave_up c.in-Broken.ensures.quiet)) c.let_go_kept-in-Broken.ensures.quiet in
    holds_less (λ none. absurd none) quiet.rest

-- ---- the keeper refused a piece

pub returns-in-GaveUp-clause-steps : goal.returns-in-GaveUp-clause-steps
returns-in-GaveUp-clause-steps g c s p known was kept = λ output output' e closed.
    let r = c.in-GaveUp.ensures in
    let put = c.put_back-sha.ensures in
    let is = c.is_some-is_kept in
    let took = c.receive.new in
    let size = c.args.underway.size in
    let part = part_of g.K.Keeper (head_of c.args.underway) c.args.feed.now c.args.underway.kept is.result c.put_back-sha.new.self.keeper c.put_back-sha.result is.ensures c.requires.holds put.staged put.octets put.hashed in
    let up = (r.counts refl).0 in
    let gave_up = r.stages up (part up) in
    let first : Quiet g.K.Keeper c.args.self.now.keeper took.self.keeper (received.GaveUp ≡ received.GaveUp) = quiet_then put.quiet r.quiet in
    let second : Quiet g.K.Keeper took.self.keeper c.give_up_kept.new.self.keeper ⊤ = c.give_up_kept.ensures.quiet in
    resumed_given_up g.R.Read.remaining size c.args.feed.now took.feed g.C.Clock.now_gives p known output output'
    c.args.clock.now g.K.Keeper c.args.self.now.keeper c.give_up_kept.new.self.keeper s (take c.args.underway.len c.deref-in-GaveUp.result.now)
    (subst (λ (t : List ℕ). Keeps known (prepend_known t (whole_left g.R.Read.remaining c.args.feed.now))) (sym (ap (take c.args.underway.len) c.deref-in-GaveUp.ensures)) kept)
    c.give_up_kept.ensures.begun e gave_up.0 _ (quiet_both first second) was gave_up.1 closed

pub returns-in-GaveUp-clause-faults : goal.returns-in-GaveUp-clause-faults
returns-in-GaveUp-clause-faults g c =
    c.in-GaveUp.ensures.counted

pub returns-in-GaveUp-clause-same : goal.returns-in-GaveUp-clause-same
returns-in-GaveUp-clause-same g c = c.in-GaveUp.ensures.same

pub returns-in-GaveUp-clause-free : goal.returns-in-GaveUp-clause-free
returns-in-GaveUp-clause-free g c = λ f. (c.in-GaveUp.ensures.free f).0

pub returns-in-GaveUp-clause-unstaged : goal.returns-in-GaveUp-clause-unstaged
returns-in-GaveUp-clause-unstaged g c none =
    let first : Quiet g.K.Keeper c.args.self.now.keeper c.receive.new.self.keeper (received.GaveUp ≡ received.GaveUp) = quiet_then c.put_back-sha.ensures.quiet c.in-GaveUp.ensures.quiet in
    ends_later g.K.Keeper c.args.self.now.keeper c.receive.new.self.keeper c.give_up_kept.new.self.keeper first.rest.never_less c.give_up_kept.ensures.unstaged

pub returns-in-GaveUp-clause-rest : goal.returns-in-GaveUp-clause-rest
returns-in-GaveUp-clause-rest g c =
    let took = c.receive.new in
    let first : Quiet g.K.Keeper c.args.self.now.keeper took.self.keeper (received.GaveUp ≡ received.GaveUp) = quiet_then c.put_back-sha.ensures.quiet c.in-GaveUp.ensures.quiet in
    let second : Quiet g.K.Keeper took.self.keeper c.give_up_kept.new.self.keeper ⊤ = c.give_up_kept.ensures.quiet in
    holds_less (λ _. refl) (quiet_both first second).rest

-- ---- no more bytes may be read now

pub returns-in-Waits-clause-steps : goal.returns-in-Waits-clause-steps
returns-in-Waits-clause-steps g c s p known was kept =
    let r = c.in-Waits.ensures in
    let put = c.put_back-sha.ensures in
    let is = c.is_some-is_kept in
    let took = c.receive.new in
    let size = c.args.underway.size in
    let keeps = c.keep-kept.ensures in
    let head = head_of c.args.underway in
    let part = part_of g.K.Keeper head c.args.feed.now c.args.underway.kept is.result c.put_back-sha.new.self.keeper c.put_back-sha.result is.ensures c.requires.holds put.staged put.octets put.hashed in
    let quiet : Quiet g.K.Keeper c.args.self.now.keeper c.keep-kept.new.self.keeper ⊥ = quiet_then (quiet_then put.quiet (quiet_less waits_not_gave_up r.quiet)) keeps.quiet in
    let waits = either_way is.result r.passes (λ t. (r.stages t (part t)).0) in (
      (
        still_begun g.R.Read.remaining g.K.Keeper size c.args.feed.now took.feed head c.args.underway.kept c.requires c.keep-kept.result took.self.keeper took.sha waits
            (λ y at. sym is.ensures ∙ keeps.some.1 (some_is c.keep-kept.result y at)) (λ some. let t = is.ensures ∙ some in (r.stages t (part t)).1) keeps.kept,
        still_kept known (whole_left g.R.Read.remaining c.args.feed.now) (whole_left g.R.Read.remaining took.feed) head kept waits.kept,
      ),
      stands_by quiet was,
    )

pub returns-in-Waits-clause-stands : goal.returns-in-Waits-clause-stands
returns-in-Waits-clause-stands g c =
    let r = c.in-Waits.ensures in
    let put = c.put_back-sha.ensures in
    let is = c.is_some-is_kept in
    let took = c.receive.new in
    let size = c.args.underway.size in
    let keeps = c.keep-kept.ensures in
    let head = head_of c.args.underway in
    let part = part_of g.K.Keeper head c.args.feed.now c.args.underway.kept is.result c.put_back-sha.new.self.keeper c.put_back-sha.result is.ensures c.requires.holds put.staged put.octets put.hashed in
    let waits = either_way is.result r.passes (λ t. (r.stages t (part t)).0) in (
      still_begun g.R.Read.remaining g.K.Keeper size c.args.feed.now took.feed head c.args.underway.kept c.requires c.keep-kept.result took.self.keeper took.sha waits
          (λ y at. sym is.ensures ∙ keeps.some.1 (some_is c.keep-kept.result y at)) (λ some. let t = is.ensures ∙ some in (r.stages t (part t)).1) keeps.kept,
      still_awaits g.R.Read.remaining size c.args.feed.now took.feed head c.requires.whole waits,
    )

pub returns-in-Waits-clause-same : goal.returns-in-Waits-clause-same
returns-in-Waits-clause-same g c = c.in-Waits.ensures.same

pub returns-in-Waits-clause-free : goal.returns-in-Waits-clause-free
returns-in-Waits-clause-free g c = λ f. (c.in-Waits.ensures.free f).1 refl

pub returns-in-Waits-clause-unstaged : goal.returns-in-Waits-clause-unstaged
returns-in-Waits-clause-unstaged g c none =
    let r = c.in-Waits.ensures in
    let put = c.put_back-sha.ensures in
    let is = c.is_some-is_kept in
    inl (either_way is.result (λ f. c.keep-kept.ensures.passed f (r.unstaged f (unkept c.args.underway.kept is.result is.ensures f (λ no. put.passed no none)))) (λ t. c.keep-kept.ensures.empty t))

pub returns-in-Waits-clause-rest : goal.returns-in-Waits-clause-rest
returns-in-Waits-clause-rest g c =
    let quiet : Quiet g.K.Keeper c.args.self.now.keeper c.keep-kept.new.self.keeper ⊥ =
    quiet_then (quiet_then c.put_back-sha.ensures.quiet (quiet_less waits_not_gave_up c.in-Waits.ensures.quiet)) c.keep-kept.ensures.quiet in
    quiet.rest

pub returns-in-Waits-clause-all : goal.returns-in-Waits-clause-all
returns-in-Waits-clause-all g c = c.in-Waits.ensures.all refl
