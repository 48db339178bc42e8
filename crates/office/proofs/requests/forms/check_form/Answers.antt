use Rattle.std.proofs.Common.{◌≡◌, ◌∙◌, arith, length, ap, sym}
use Rattle.std.proofs.lemmas.Grind.{common_steps}
use Rattle.links.specs.Methods.{method_text}
use Rattle.links.proofs.Texts.{clash}
use Rattle.office.specs.Announcing.{request_with}
use Rattle.office.proofs.Deciding.{length_missing, body_not_taken}
use Rattle.office.proofs.Forming.{is_put}
use Rattle.office.proofs.requests.forms.check_form.Goals as goal

pub returns-then-not-message : goal.returns-then-not-message
returns-then-not-message c s body now p k long admitted may =
    length_missing s (request_with c.args.message.now body) now p k admitted may (c.requires ∙ ap method_text (c.is_put.ensures.0 c.if-is_put.true)) c.if-not-message.true

pub returns-then-message-gt0 : goal.returns-then-message-gt0
returns-then-message-gt0 c s body now p k long admitted may =
    body_not_taken s (request_with c.args.message.now body) now p k admitted may
    (λ put. clash c.is_put-2.result c.if-not-is_put.true (c.is_put-2.ensures.1 (is_put c.args.method (sym c.requires ∙ put))))
    (λ none. let zero : length body ≡ 0 = ap length none in omega (arith, long, zero, c.if-message-gt0.true))

pub returns : goal.returns
returns c = grind (arith, common_steps)
