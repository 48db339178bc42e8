use Rattle.std.proofs.Common.{◌≡◌, ◌∙◌, ◌⊎◌, ap, inl, map, refl, subst, sym, take}
use Rattle.sigtext.specs.Fields.{header_of}
use Rattle.sigtext.specs.Readable.{IsReadable}
use Rattle.sigtext.specs.Request.{Request}
use Rattle.wire.specs.Framing.{request_of}
use Rattle.office.specs.Announcing.{request_with}
use Rattle.office.specs.Answering.{is_head}
use Rattle.office.specs.Foreseeing.{Foresees}
use Rattle.office.specs.Frames.{Quiet}
use Rattle.office.specs.Premise.{IsGivenUp}
use Rattle.office.specs.Resuming.{given_up, handled}
use Rattle.office.proofs.Handlings.{same_request}
use Rattle.office.proofs.Holding.{holds_less, holds_then}
use Rattle.office.proofs.KeeperCalls.{quiet_both, quiet_less, quiet_then}
use Rattle.office.proofs.Resumptions.{had_later, lost_readable, unstaged_whole}
use Rattle.office.proofs.SessionSteps.{before_quiet}
use Rattle.office.proofs.Unstaged.{staged_later}
use Rattle.office.proofs.office.Office.serve_whole.Goals as goal

pub announce_again-message-requires : goal.announce_again-message-requires
announce_again-message-requires g c = c.reread-opening.ensures.parts.4

pub returns-then-is_lost-clause-ends : goal.returns-then-is_lost-clause-ends
returns-then-is_lost-clause-ends g c s bytes was len staged =
    let o = c.reread-opening.ensures.opens in
    let f = c.reread-opening.ensures.parts in
    let has_length = c.reread-opening.result.has_length in
    let head = c.reread-opening.result.head in
    let headers = map header_of (take head.count c.reread-opening.new.fields) in
    let foreseen = c.foresee-foreseen.ensures in
    let same : request_with c.announce_again-message.result bytes ≡ request_of o.head has_length bytes =
    c.announce_again-message.ensures.request bytes ∙ same_request c.args.head.now f.0 o.head head.method.now head.target.now headers has_length bytes f.1 o.tells.is_head f.2 f.3 f.5 in
    let quiet : Quiet g.K.Keeper c.args.self.now.keeper c.let_go_kept.new.self.keeper (IsGivenUp c.foresee-foreseen.result ⊎ ⊥) = quiet_both foreseen.looks.quiet c.let_go_kept.ensures.quiet in
    let readable = subst IsReadable same (lost_readable (request_with c.announce_again-message.result bytes) c.foresee-foreseen.result (c.is_lost.ensures.lost c.if-is_lost.true) (foreseen.readable bytes)) in
    (has_length, o, given_up refl quiet.rest.never_less (quiet.crash s was.means was.is_honest) (record { means = quiet.same s was.means; sound = was.sound }) readable)

pub returns-then-is_lost-clause-unstaged : goal.returns-then-is_lost-clause-unstaged
returns-then-is_lost-clause-unstaged g c had =
    inl (c.let_go_kept.ensures.unstaged refl (had_later g.K.Keeper c.args.self.now.keeper c.foresee-foreseen.new.self.keeper c.foresee-foreseen.ensures.looks.staged had))

pub returns-then-is_lost-clause-rest : goal.returns-then-is_lost-clause-rest
returns-then-is_lost-clause-rest g c =
    let quiet : Quiet g.K.Keeper c.args.self.now.keeper c.let_go_kept.new.self.keeper (IsGivenUp c.foresee-foreseen.result ⊎ ⊥) = quiet_both c.foresee-foreseen.ensures.looks.quiet c.let_go_kept.ensures.quiet in
    holds_less (λ _. refl) quiet.rest

pub returns-clause-ends : goal.returns-clause-ends
returns-clause-ends g c s bytes was len staged =
    let o = c.reread-opening.ensures.opens in
    let f = c.reread-opening.ensures.parts in
    let has_length = c.reread-opening.result.has_length in
    let head = c.reread-opening.result.head in
    let headers = map header_of (take head.count c.reread-opening.new.fields) in
    let foreseen = c.foresee-foreseen.ensures in
    let result = c.foresee-foreseen.result in
    let same : request_with c.announce_again-message.result bytes ≡ request_of o.head has_length bytes =
    c.announce_again-message.ensures.request bytes ∙ same_request c.args.head.now f.0 o.head head.method.now head.target.now headers has_length bytes f.1 o.tells.is_head f.2 f.3 f.5 in
    let low = c.let_go_kept-2.new.self.keeper in
    let go = c.let_go_kept-2.ensures in
    let other : IsGivenUp result → ⊥ = c.is_lost.ensures.told c.if-is_lost.false in
    let quiet : Quiet g.K.Keeper c.args.self.now.keeper low ⊥ = quiet_then (quiet_less other foreseen.looks.quiet) go.quiet in
    let honest = c.answer_now.ensures.rest.honest was.is_honest in
    let before = before_quiet g.K.Keeper c.args.self.now.keeper low s ⊥ quiet (λ none. none) was.means honest in
    let known : Foresees s (request_of o.head has_length bytes) result =
    subst (λ (r : Request). Foresees s r result) same (foreseen.foresees s bytes (record { means = was.means; is_honest = go.quiet.rest.honest honest; sound = was.sound }) (len ∙ sym (c.announce_again-message.ensures.length ∙ c.reread-opening.ensures.length))) in
    let handles = c.answer_now.ensures.handled s (request_of o.head has_length bytes) (record { means = quiet.same s was.means; is_honest = was.is_honest; sound = was.sound }) known other
    (c.asks_head-to_head.ensures ∙ ap is_head same)
    (λ up. staged_later (go.still (c.is_upload-upload.ensures.1 up)) (staged_later foreseen.looks.staged (staged (c.is_lost.ensures.kept c.if-is_lost.false up)))) in (
      has_length,
      o,
      handled low c.answer_now.result (before.faults, before.open_still) before.adds handles,
    )

pub returns-clause-unstaged : goal.returns-clause-unstaged
returns-clause-unstaged g c =
    let quiet : Quiet g.K.Keeper c.args.self.now.keeper c.let_go_kept-2.new.self.keeper ⊥ =
    quiet_then (quiet_less (c.is_lost.ensures.told c.if-is_lost.false) c.foresee-foreseen.ensures.looks.quiet) c.let_go_kept-2.ensures.quiet in
    unstaged_whole g.K.Keeper c.args.self.now.keeper c.foresee-foreseen.new.self.keeper c.let_go_kept-2.new.self.keeper c.answer_now.new.self.keeper c.is_upload-upload.result quiet.rest.never_less
    c.foresee-foreseen.ensures.looks.staged c.let_go_kept-2.ensures.unstaged c.is_upload-upload.ensures.0 c.answer_now.ensures.unstaged

pub returns-clause-rest : goal.returns-clause-rest
returns-clause-rest g c =
    let quiet : Quiet g.K.Keeper c.args.self.now.keeper c.let_go_kept-2.new.self.keeper ⊥ =
    quiet_then (quiet_less (c.is_lost.ensures.told c.if-is_lost.false) c.foresee-foreseen.ensures.looks.quiet) c.let_go_kept-2.ensures.quiet in
    holds_then quiet.rest c.answer_now.ensures.rest
