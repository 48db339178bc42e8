use Rattle.std.proofs.Common.{◌∙◌, Bool, Ok, Err, ap, refl}
use Rattle.sigtext.specs.declared.refusal.Refusal.TheVariants as rule
use Rattle.wire.specs.Answers.{answer_text}
use Rattle.wire.specs.Answers as said
use Rattle.wire.specs.Shown.{said_of}
use Rattle.office.specs.Answering.{accepts, is_head, shown}
use Rattle.office.specs.Crashes.{unchanged}
use Rattle.office.proofs.Answered.{again_is, is_again, refused_text}
use Rattle.office.proofs.Foreseen.{err_is, ok_no_err}
use Rattle.office.proofs.Holding.{answered_holds, holds_less}
use Rattle.office.proofs.office.Office.answer_whole.Goals as goal

pub returns-in-Ok-clause-answers : goal.returns-in-Ok-clause-answers
returns-in-Ok-clause-answers g c s r kept f head staged other =
    let x = c.in-Ok.ensures.replies.replied s r kept (f, staged) in (
      x.1,
      x.3,
      record {
        reply = shown x.0;
        replies = accepts x.0 x.1 x.2;
        is = ap (λ (b : Bool). answer_text b (said_of c.in-Ok.reply)) head ∙ ap (answer_text (is_head r)) x.4;
      },
    )

pub returns-in-Err-clause-answers : goal.returns-in-Err-clause-answers
returns-in-Err-clause-answers g c s r kept f head staged other =
    let q = c.in-Err.refusal in
    let fails = c.in-Err.ensures.replies.replied s r kept (f, staged) (λ again. other (is_again c.refused.result q c.refused.ensures.reply again)) in
    let text = c.refused.ensures.text ∙ ap (λ (b : Bool). answer_text b (said.Refused q)) head in
    let lasts = unchanged refl ((c.in-Err.ensures.replies.crash s r kept (f, staged)).1 (λ again. other (is_again c.refused.result q c.refused.ensures.reply again))) in
    (s, record { means = record { meant = c.in-Err.ensures.replies.same s kept.means; lasts = lasts }; sound = kept.sound }, refused_text s r c.args.now c.refused.result q text fails)

pub returns-in-Err-clause-crash : goal.returns-in-Err-clause-crash
returns-in-Err-clause-crash g c s r kept f staged again = (c.in-Err.ensures.replies.crash s r kept (f, staged)).0

pub returns-in-Ok-clause-readable : goal.returns-in-Ok-clause-readable
returns-in-Ok-clause-readable g c again r is = absurd (c.in-Ok.ensures.replies.plain rule.TryAgain again)

pub returns-in-Err-clause-readable : goal.returns-in-Err-clause-readable
returns-in-Err-clause-readable g c again r is = c.in-Err.ensures.readable (again_is c.refused.result c.in-Err.refusal c.refused.ensures.reply again) r is

pub returns-in-Ok-clause-given_up : goal.returns-in-Ok-clause-given_up
returns-in-Ok-clause-given_up g c given = absurd (ok_no_err c.in-Ok.reply rule.TryAgain (Ok c.in-Ok.reply) refl (c.in-Ok.ensures.given_up given))

pub returns-in-Err-clause-given_up : goal.returns-in-Err-clause-given_up
returns-in-Err-clause-given_up g c given =
    is_again c.refused.result c.in-Err.refusal c.refused.ensures.reply (err_is c.in-Err.refusal rule.TryAgain (Err c.in-Err.refusal) refl (c.in-Err.ensures.given_up given))

pub returns-in-Ok-clause-unstaged : goal.returns-in-Ok-clause-unstaged
returns-in-Ok-clause-unstaged g c = c.reply_to.ensures.unstaged

pub returns-in-Err-clause-unstaged : goal.returns-in-Err-clause-unstaged
returns-in-Err-clause-unstaged g c = c.reply_to.ensures.unstaged

pub returns-in-Ok-clause-rest : goal.returns-in-Ok-clause-rest
returns-in-Ok-clause-rest g c = answered_holds c.in-Ok.ensures.replies.rest

pub returns-in-Err-clause-rest : goal.returns-in-Err-clause-rest
returns-in-Err-clause-rest g c = holds_less (λ given. is_again c.refused.result c.in-Err.refusal c.refused.ensures.reply (err_is c.in-Err.refusal rule.TryAgain (Err c.in-Err.refusal) refl given)) c.in-Err.ensures.replies.rest

pub returns-in-Err-clause-again : goal.returns-in-Err-clause-again
returns-in-Err-clause-again g c = λ again s means. c.in-Err.ensures.replies.same s means

pub returns-in-Ok-clause-again : goal.returns-in-Ok-clause-again
returns-in-Ok-clause-again g c = λ again. absurd (c.in-Ok.ensures.replies.plain rule.TryAgain again)

pub returns-in-Ok-clause-crash : goal.returns-in-Ok-clause-crash
returns-in-Ok-clause-crash g c s r kept f staged again = absurd (c.in-Ok.ensures.replies.plain rule.TryAgain again)
