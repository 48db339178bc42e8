use Rattle.std.proofs.lemmas.Bool.{both_ways}
use Rattle.std.proofs.Common.{◌≡◌, ◌∙◌, ◌++◌, List, ℕ, [], ap, drop, length, map, refl, subst, sym, take, inl}
use Rattle.sigtext.specs.Fields.{header_of}
use Rattle.sigtext.specs.Request.{Request}
use Rattle.wire.specs.Feeds.{left}
use Rattle.wire.specs.Framing.{request_of}
use Rattle.office.specs.Announcing.{request_with}
use Rattle.office.specs.Answering.{is_head}
use Rattle.office.specs.Foreseeing.{Foresees}
use Rattle.office.specs.Premise.{IsGivenUp}
use Rattle.sigtext.specs.Readable.{IsReadable}
use Rattle.office.specs.Stepping.{IsExpected, ReadsOn}
use Rattle.office.proofs.BodySteps.{head_given_up_step}
use Rattle.office.proofs.Foreseen.{upload_readable}
use Rattle.office.proofs.Handlings.{read_given_up, same_request}
use Rattle.office.proofs.Holding.{holds_less, holds_then}
use Rattle.office.specs.Frames.{Quiet}
use Rattle.office.proofs.BodyWaits.{taken_all}
use Rattle.office.proofs.SessionSteps.{before_quiet}
use Rattle.office.proofs.StepWaits.{copied_front, given_up_later, steps_in, steps_later, waits_in_block}
use Rattle.office.proofs.Unstaged.{ends_later}
use Rattle.office.proofs.office.Office.serve_head.Goals as goal

pub returns-then-is_given_up-clause-steps : goal.returns-then-is_given_up-clause-steps
returns-then-is_given_up-clause-steps g c s p known kept x = λ output output' e closed.
    let f = c.requires.parts in
    let foreseen = c.foresee-foreseen.ensures in
    let method = c.args.opening.now.head.method.now in
    let target = c.args.opening.now.head.target.now in
    let headers = map header_of (take c.args.opening.now.head.count c.args.fields.now) in
    let same : request_with c.announce_head-message.result [] ≡ request_of x.opens.head c.args.opening.now.has_length [] =
    c.announce_head-message.ensures.request [] ∙ same_request c.args.opening.now.text.now f.0 x.opens.head method target headers c.args.opening.now.has_length [] f.1 x.opens.tells.is_head f.2 f.3 f.5 in
    let quiet : Quiet g.K.Keeper c.args.self.now.keeper c.foresee-foreseen.new.self.keeper (IsGivenUp c.foresee-foreseen.result) = foreseen.looks.quiet in
    head_given_up_step g.R.Read.remaining c.args.feed.now g.C.Clock.now_gives p known output output' c.args.clock.now
    g.K.Keeper c.args.self.now.keeper c.foresee-foreseen.new.self.keeper s c.args.opening.now.text.now c.args.opening.now.has_length c.args.opening.now.length x e (IsGivenUp c.foresee-foreseen.result) quiet kept
    (subst IsReadable same (read_given_up (request_with c.announce_head-message.result []) c.foresee-foreseen.result (c.is_given_up.ensures.0 c.if-is_given_up.true) (foreseen.readable []))) closed

pub returns-clause-steps : goal.returns-clause-steps
returns-clause-steps g c s p known kept x =
    let f = c.requires.parts in
    let foreseen = c.foresee-foreseen.ensures in
    let result = c.foresee-foreseen.result in
    let mid = c.foresee-foreseen.new.self.keeper in
    let method = c.args.opening.now.head.method.now in
    let target = c.args.opening.now.head.target.now in
    let headers = map header_of (take c.args.opening.now.head.count c.args.fields.now) in
    let same : (body : List ℕ) → request_with c.announce_head-message.result body ≡ request_of x.opens.head c.args.opening.now.has_length body =
    λ body. c.announce_head-message.ensures.request body ∙ same_request c.args.opening.now.text.now f.0 x.opens.head method target headers c.args.opening.now.has_length body f.1 x.opens.tells.is_head f.2 f.3 f.5 in
    let quiet : Quiet g.K.Keeper c.args.self.now.keeper mid (IsGivenUp result) = foreseen.looks.quiet in
    let other : IsGivenUp result → ⊥ = λ is. both_ways c.is_given_up.result c.if-is_given_up.false (c.is_given_up.ensures.1 is) in
    let honest = c.serve_body.ensures.rest.honest kept.is_honest in
    let text = c.args.opening.now.text.now in
    let expected : IsExpected s c.args.opening.now.length known (left g.R.Read.remaining c.args.feed.now) result c.asks_head-to_head.result text = record {
      has_length = c.args.opening.now.has_length;
      opening = x;
      foresees = λ body len. subst (λ (r : Request). Foresees s r result) (same body) (foreseen.foresees s body (record { means = kept.means; is_honest = honest; sound = kept.sound }) (len ∙ sym c.announce_head-message.ensures.length));
      tells = other;
      head = λ body. c.asks_head-to_head.ensures ∙ ap is_head (same body);
    } in
    steps_in g.C.Clock.now_gives p known g.R.Read.remaining c.serve_body.new.feed c.args.clock.now c.serve_body.new.clock g.K.Keeper
    c.args.self.now.keeper c.serve_body.new.self.keeper s text (c.copy_from_slice.new.self ++ drop (length text) c.args.block.now) (length text) c.serve_body.result (copied_front text _ _ (ap (λ (l : List ℕ). l ++ drop (length text) c.args.block.now) c.copy_from_slice.ensures.after)) (taken_all text refl) c.serve_body.ensures.long
    (steps_later g.C.Clock.now_gives p known g.R.Read.remaining c.serve_body.new.feed c.args.clock.now c.serve_body.new.clock g.K.Keeper
    (ReadsOn g.R.Read.remaining known c.serve_body.new.feed text) c.args.self.now.keeper mid c.serve_body.new.self.keeper s c.serve_body.result
    (before_quiet g.K.Keeper c.args.self.now.keeper mid s (IsGivenUp result) quiet other kept.means honest)
    (c.serve_body.ensures.steps s p known text (record { means = foreseen.looks.quiet.same s kept.means; is_honest = kept.is_honest; sound = kept.sound }) expected refl))

pub returns-then-is_given_up-clause-unstaged : goal.returns-then-is_given_up-clause-unstaged
returns-then-is_given_up-clause-unstaged g c = λ none. inl (c.foresee-foreseen.ensures.looks.staged _ none)

pub returns-clause-unstaged : goal.returns-clause-unstaged
returns-clause-unstaged g c = λ none. ends_later g.K.Keeper _ _ _ c.foresee-foreseen.ensures.looks.quiet.rest.never_less (c.serve_body.ensures.unstaged (c.foresee-foreseen.ensures.looks.staged _ none))

pub returns-clause-rest : goal.returns-clause-rest
returns-clause-rest g c =
    holds_then (holds_less (λ is. both_ways c.is_given_up.result c.if-is_given_up.false (c.is_given_up.ensures.1 is)) c.foresee-foreseen.ensures.looks.quiet.rest)
    (holds_less (given_up_later g.K.Keeper c.args.self.now.keeper c.foresee-foreseen.new.self.keeper c.serve_body.new.self.keeper c.serve_body.result c.foresee-foreseen.ensures.looks.quiet.rest.never_less) c.serve_body.ensures.rest)

pub returns-clause-stands : goal.returns-clause-stands
returns-clause-stands g c o =
    let f = c.requires.parts in
    let text = c.args.opening.now.text.now in
    let headers = map header_of (take c.args.opening.now.head.count c.args.fields.now) in
    let same : request_with c.announce_head-message.result [] ≡ request_of o.head c.args.opening.now.has_length [] =
    c.announce_head-message.ensures.request [] ∙ same_request text f.0 o.head c.args.opening.now.head.method.now c.args.opening.now.head.target.now headers c.args.opening.now.has_length [] f.1 o.tells.is_head f.2 f.3 f.5 in
    waits_in_block c.serve_body.new.feed text (c.copy_from_slice.new.self ++ drop (length text) c.args.block.now) (length text) c.serve_body.result
    (copied_front text _ _ (ap (λ (l : List ℕ). l ++ drop (length text) c.args.block.now) c.copy_from_slice.ensures.after)) (taken_all text refl) c.serve_body.ensures.long
    (c.serve_body.ensures.stands text c.args.opening.now.has_length o
    (λ up. subst IsReadable same (upload_readable (request_with c.announce_head-message.result []) c.foresee-foreseen.result up (c.foresee-foreseen.ensures.readable []))) refl)

pub returns-clause-all : goal.returns-clause-all
returns-clause-all g c = c.serve_body.ensures.all
