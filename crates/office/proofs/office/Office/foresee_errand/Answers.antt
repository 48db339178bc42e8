use Rattle.std.proofs.Common.{◌∙◌, ap, inl, inr}
use Rattle.links.specs.Methods.{method_text}
use Rattle.office.specs.Announcing.{request_with}
use Rattle.office.proofs.Deciding.{reaches_boxes}
use Rattle.office.proofs.KeeperCalls.{looks_passed, looks_refused, looks_then}
use Rattle.office.proofs.office.Office.foresee_errand.Goals as goal

pub returns-in-Err-clause-comes : goal.returns-in-Err-clause-comes
returns-in-Err-clause-comes g c s body p k kept long is signed role other now admitted =
    c.in-Err.ensures.reaches s (request_with c.args.message.now body) now p k kept is c.requires admitted role other

pub returns-in-Err-check_form-clause-comes : goal.returns-in-Err-check_form-clause-comes
returns-in-Err-check_form-clause-comes g c s body p k kept long is signed role other now admitted =
    c.in-Err-check_form.ensures s body now p k long admitted (c.in-Ok.ensures.reaches s (request_with c.args.message.now body) now p k kept is c.requires admitted role)

pub returns-in-Put-clause-comes : goal.returns-in-Put-clause-comes
returns-in-Put-clause-comes g c s body p k kept long is signed role =
    let r = request_with c.args.message.now body in
    let honest = c.foresee_upload.ensures.looks.quiet.rest.honest kept.is_honest in
    c.foresee_upload.ensures.comes s r p k (record { means = c.in-Ok.ensures.looks.quiet.same s kept.means; is_honest = kept.is_honest; sound = kept.sound }) is (c.requires ∙ ap method_text c.in-Put.is)
    (λ now admitted. reaches_boxes s r now p k admitted (c.in-Ok-check_form.ensures s body now p k long admitted
    (c.in-Ok.ensures.reaches s r now p k (record { means = kept.means; is_honest = honest; sound = kept.sound }) is c.requires admitted role)))

pub returns-in-Get-clause-comes : goal.returns-in-Get-clause-comes
returns-in-Get-clause-comes g c s body p k kept long is signed role =
    let r = request_with c.args.message.now body in (
      inl (c.requires ∙ ap method_text c.in-Get.is),
      λ now admitted. reaches_boxes s r now p k admitted (c.in-Ok-check_form.ensures s body now p k long admitted (c.in-Ok.ensures.reaches s r now p k kept is c.requires admitted role)),
    )

pub returns-in-Head-clause-comes : goal.returns-in-Head-clause-comes
returns-in-Head-clause-comes g c s body p k kept long is signed role =
    let r = request_with c.args.message.now body in (
      inr (c.requires ∙ ap method_text c.in-Head.is),
      λ now admitted. reaches_boxes s r now p k admitted (c.in-Ok-check_form.ensures s body now p k long admitted (c.in-Ok.ensures.reaches s r now p k kept is c.requires admitted role)),
    )

pub returns-in-Post-clause-comes : goal.returns-in-Post-clause-comes
returns-in-Post-clause-comes g c s body p k kept long is signed role =
    let r = request_with c.args.message.now body in (
      c.requires ∙ ap method_text c.in-Post.is,
      λ now admitted. reaches_boxes s r now p k admitted (c.in-Ok-check_form.ensures s body now p k long admitted (c.in-Ok.ensures.reaches s r now p k kept is c.requires admitted role)),
    )

pub returns-in-Err-clause-looks : goal.returns-in-Err-clause-looks
returns-in-Err-clause-looks g c = looks_refused c.in-Err.ensures.looks

pub returns-in-Err-check_form-clause-looks : goal.returns-in-Err-check_form-clause-looks
returns-in-Err-check_form-clause-looks g c = looks_passed c.in-Ok.ensures.looks

pub returns-in-Get-clause-looks : goal.returns-in-Get-clause-looks
returns-in-Get-clause-looks g c = looks_passed c.in-Ok.ensures.looks

pub returns-in-Head-clause-looks : goal.returns-in-Head-clause-looks
returns-in-Head-clause-looks g c = looks_passed c.in-Ok.ensures.looks

pub returns-in-Post-clause-looks : goal.returns-in-Post-clause-looks
returns-in-Post-clause-looks g c = looks_passed c.in-Ok.ensures.looks

pub returns-in-Put-clause-looks : goal.returns-in-Put-clause-looks
returns-in-Put-clause-looks g c = looks_then (looks_passed c.in-Ok.ensures.looks) c.foresee_upload.ensures.looks
