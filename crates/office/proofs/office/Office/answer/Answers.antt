use Rattle.std.proofs.Common.{◌∙◌, ap, inr, rules, subst, sym, arith}
use Rattle.sigtext.specs.Request.{Request}
use Rattle.wire.specs.Messages.{request_in}
use Rattle.office.specs.Announcing.{request_with}
use Rattle.office.specs.Answering.{is_head}
use Rattle.office.specs.Foreseeing.{Foresees}
use Rattle.sigtext.specs.Readable.{IsReadable}
use Rattle.office.proofs.Alikeness.{the_answer}
use Rattle.office.proofs.Endurance.{adds_less, then_adds, then_answered, then_asked}
use Rattle.office.proofs.Foreseen.{no_fault, of_err, of_ok, upload_readable}
use Rattle.office.proofs.Unstaged.{rose_later, then_holds}
use Rattle.office.proofs.KeeperCalls.{unstaged_served}
use Rattle.office.proofs.office.Office.answer.Goals as goal

pub returns-then-is_err-clause-readable : goal.returns-then-is_err-clause-readable
returns-then-is_err-clause-readable g c again =
    let body = c.args.message.now.body.now in
    let upload = c.is_upload-upload.ensures.0 (of_err c.stage_upload.result c.if-is_err.ensures.value c.stage_upload.ensures.asked) in
    subst IsReadable c.announce-head.ensures.request
    (upload_readable (request_with c.announce-head.result body) c.foresee-foreseen.result upload (c.foresee-foreseen.ensures.readable body))

pub returns-clause-answers : goal.returns-clause-answers
returns-clause-answers g c s kept =
    let body = c.args.message.now.body.now in
    let honest-2 = c.answer_whole.ensures.rest.honest kept.is_honest in
    let honest-1 = c.stage_upload.ensures.quiet.rest.honest honest-2 in
    let means-1 = c.foresee-foreseen.ensures.looks.quiet.same s kept.means in
    let means-2 = c.stage_upload.ensures.quiet.same s means-1 in
    let foresees = subst (λ (r : Request). Foresees s r c.foresee-foreseen.result) c.announce-head.ensures.request
    (c.foresee-foreseen.ensures.foresees s body (record { means = kept.means; is_honest = honest-1; sound = kept.sound }) (sym c.announce-head.ensures.length)) in
    then_answered c.answer_whole.new.self.keeper s (request_in c.args.message.now) c.args.now c.answer_whole.result
    (then_adds (c.foresee-foreseen.ensures.looks.quiet.crash s kept.means honest-1) (c.stage_upload.ensures.quiet.crash s means-1 honest-2))
    (c.answer_whole.ensures.answers s (request_in c.args.message.now) (record { means = means-2; is_honest = kept.is_honest; sound = kept.sound }) foresees
    (c.asks_head-to_head.ensures ∙ ap is_head c.announce-head.ensures.request)
    (λ upload. record {
      staged = of_ok c.stage_upload.result (search rules) (c.stage_upload.ensures.staged (c.is_upload-upload.ensures.1 upload));
      octets = c.stage_upload.ensures.octets;
      short = c.args.message.now.short;
      length_is = search rules;
      digest = c.digest.ensures;
    }))

pub returns-clause-alike : goal.returns-clause-alike
returns-clause-alike g c s other kept alike =
    the_answer _ s (request_in c.args.message.now) other c.args.now _ alike (returns-clause-answers g c s kept)

pub returns-clause-readable : goal.returns-clause-readable
returns-clause-readable g c again =
    let body = c.args.message.now.body.now in
    subst IsReadable c.announce-head.ensures.request
    (c.answer_whole.ensures.readable again (request_with c.announce-head.result body) (c.foresee-foreseen.ensures.readable body))

pub returns-clause-rest : goal.returns-clause-rest
returns-clause-rest g c =
    then_holds
    (then_holds c.foresee-foreseen.ensures.looks.quiet.rest c.stage_upload.ensures.quiet.rest (λ not given. not (c.answer_whole.ensures.given_up given)) (λ not fault. no_fault c.stage_upload.result (search rules) fault))
    c.answer_whole.ensures.rest (λ not none. not none) (λ not again. not again)

pub returns-clause-crash : goal.returns-clause-crash
returns-clause-crash g c s kept again =
    let body = c.args.message.now.body.now in
    let honest-2 = c.answer_whole.ensures.rest.honest kept.is_honest in
    let honest-1 = c.stage_upload.ensures.quiet.rest.honest honest-2 in
    let means-1 = c.foresee-foreseen.ensures.looks.quiet.same s kept.means in
    let means-2 = c.stage_upload.ensures.quiet.same s means-1 in
    let foresees = subst (λ (r : Request). Foresees s r c.foresee-foreseen.result) c.announce-head.ensures.request
    (c.foresee-foreseen.ensures.foresees s body (record { means = kept.means; is_honest = honest-1; sound = kept.sound }) (sym c.announce-head.ensures.length)) in
    then_asked (then_adds (c.foresee-foreseen.ensures.looks.quiet.crash s kept.means honest-1) (c.stage_upload.ensures.quiet.crash s means-1 honest-2))
    (c.answer_whole.ensures.crash s (request_in c.args.message.now) (record { means = means-2; is_honest = kept.is_honest; sound = kept.sound }) foresees
    (λ upload. record {
      staged = of_ok c.stage_upload.result (search rules) (c.stage_upload.ensures.staged (c.is_upload-upload.ensures.1 upload));
      octets = c.stage_upload.ensures.octets;
      short = c.args.message.now.short;
      length_is = search rules;
      digest = c.digest.ensures;
    }) again)

pub returns-then-is_err-clause-rest : goal.returns-then-is_err-clause-rest
returns-then-is_err-clause-rest g c = then_holds c.foresee-foreseen.ensures.looks.quiet.rest c.stage_upload.ensures.quiet.rest (λ not _. not c.refused.ensures.reply) (λ not _. not c.refused.ensures.reply)

pub returns-then-is_err-clause-unstaged : goal.returns-then-is_err-clause-unstaged
returns-then-is_err-clause-unstaged g c = λ none. inr (rose_later _ _ _ c.foresee-foreseen.ensures.looks.quiet.rest.never_less (of_err c.stage_upload.result c.if-is_err.ensures.value c.stage_upload.ensures.fault))

pub returns-clause-again : goal.returns-clause-again
returns-clause-again g c = λ again s means. c.answer_whole.ensures.again again s (c.stage_upload.ensures.quiet.same s (c.foresee-foreseen.ensures.looks.quiet.same s means))

pub returns-clause-unstaged : goal.returns-clause-unstaged
returns-clause-unstaged g c = unstaged_served g.K.Keeper c.args.self.now.keeper c.stage_upload.new.self.keeper c.answer_whole.new.self.keeper c.is_upload-upload.result (let first = c.foresee-foreseen.ensures.looks.quiet.rest.never_less in let second = c.stage_upload.ensures.quiet.rest.never_less in omega (arith, first, second)) (λ no bytes at. c.stage_upload.ensures.passed no bytes (c.foresee-foreseen.ensures.looks.staged bytes at)) c.is_upload-upload.ensures.0 c.answer_whole.ensures.unstaged

pub returns-then-is_err-clause-answers : goal.returns-then-is_err-clause-answers
returns-then-is_err-clause-answers g c s kept other = absurd (other c.refused.ensures.reply)

pub returns-then-is_err-clause-again : goal.returns-then-is_err-clause-again
returns-then-is_err-clause-again g c again s means = c.stage_upload.ensures.quiet.same s (c.foresee-foreseen.ensures.looks.quiet.same s means)

pub returns-then-is_err-clause-crash : goal.returns-then-is_err-clause-crash
returns-then-is_err-clause-crash g c s kept again =
    let means = c.foresee-foreseen.ensures.looks.quiet.same s kept.means in
    adds_less (then_adds (c.foresee-foreseen.ensures.looks.quiet.crash s kept.means (c.stage_upload.ensures.quiet.rest.honest kept.is_honest)) (c.stage_upload.ensures.quiet.crash s means kept.is_honest))

pub returns-then-is_err-clause-alike : goal.returns-then-is_err-clause-alike
returns-then-is_err-clause-alike g c = grind arith
