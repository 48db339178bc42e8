use Rattle.std.proofs.Common.{◌≡◌, ◌∙◌, ap, sym, refl, arith}
use Rattle.std.specs.FinMap.{get}
use Rattle.boxes.specs.State.{Place}
use Rattle.boxes.proofs.Asked.{refused_at_place}
use Rattle.office.specs.Places.{place_at}
use Rattle.office.specs.Rules.{place_of, upload_of}
use Rattle.office.proofs.Deciding.{first_put}
use Rattle.office.proofs.KeeperCalls.{looks_answered, looks_failed, looks_still}
use Rattle.office.proofs.office.Office.foresee_upload.Goals as goal

pub returns-in-Ok-place-clause-comes : goal.returns-in-Ok-place-clause-comes
returns-in-Ok-place-clause-comes g c s r p k kept is is_put reaches =
    let path = c.deref.ensures.value ∙ c.in-Ok.ensures r p is in
    let same : place_at c.read_place-at.result ≡ place_of p.path = c.read_place-at.ensures ∙ ap place_of path in
    let box = c.in-Ok-box_row.ensures.value s kept.means kept.sound kept.is_honest ∙ ap (λ (x : Place). get s.boxes x.box) same in
    let rules = c.in-Ok-place.ensures s (place_of p.path) box (ap (λ (x : Place). x.name) (sym same)) in
    ((is_put, c.in-Ok.ensures r p is, box, rules), reaches)

pub returns-in-Err-clause-comes : goal.returns-in-Err-clause-comes
returns-in-Err-clause-comes g c s r p k kept is is_put reaches other now admitted =
    let path = c.deref.ensures.value ∙ c.in-Ok.ensures r p is in
    let same : place_at c.read_place-at.result ≡ place_of p.path = c.read_place-at.ensures ∙ ap place_of path in
    let box = c.in-Ok-box_row.ensures.value s kept.means kept.sound kept.is_honest ∙ ap (λ (x : Place). get s.boxes x.box) same in
    let least = c.in-Err.ensures s (place_of p.path) box (ap (λ (x : Place). x.name) (sym same)) in
    first_put s r now p (reaches now admitted) c.in-Err.refusal is_put (refused_at_place s (upload_of r now p) c.in-Err.refusal least)

pub returns-in_default-box_row-clause-comes : goal.returns-in_default-box_row-clause-comes
returns-in_default-box_row-clause-comes g c = grind arith

pub returns-in_default-clause-comes : goal.returns-in_default-clause-comes
returns-in_default-clause-comes g c = grind arith

pub returns-in_default-clause-looks : goal.returns-in_default-clause-looks
returns-in_default-clause-looks g c = looks_still

pub returns-in_default-box_row-clause-looks : goal.returns-in_default-box_row-clause-looks
returns-in_default-box_row-clause-looks g c = looks_failed c.in_default-box_row.ensures.rest c.box_row.ensures.staged refl

pub returns-in-Ok-place-clause-looks : goal.returns-in-Ok-place-clause-looks
returns-in-Ok-place-clause-looks g c = looks_answered c.in-Ok-box_row.ensures.rest c.box_row.ensures.staged

pub returns-in-Err-clause-looks : goal.returns-in-Err-clause-looks
returns-in-Err-clause-looks g c = looks_answered c.in-Ok-box_row.ensures.rest c.box_row.ensures.staged
