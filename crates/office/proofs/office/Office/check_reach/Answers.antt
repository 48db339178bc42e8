use Rattle.std.proofs.Common.{◌≡◌, ◌∙◌, ℕ, List, ap, subst, sym, refl, arith}
use Rattle.boxes.specs.Limits.{MayUse}
use Rattle.boxes.specs.State.{Place}
use Rattle.links.specs.Methods.{method_text}
use Rattle.links.specs.declared.methods.Method.TheVariants as method
use Rattle.links.proofs.Texts.{clash}
use Rattle.office.specs.Rules.{place_of}
use Rattle.office.proofs.Deciding.{box_barred, box_used, no_clerk_posts, role_not_allowed}
use Rattle.office.proofs.Forming.{is_post, link_no_clerk, uses_boxes}
use Rattle.office.proofs.KeeperCalls.{looks_answered, looks_failed, looks_still}
use Rattle.office.proofs.office.Office.check_reach.Goals as goal

pub returns-then-is_post-clause-reaches : goal.returns-then-is_post-clause-reaches
returns-then-is_post-clause-reaches g c s r now p k kept is by admitted role other =
    role_not_allowed s r now p k admitted
    (no_clerk_posts s r now p k admitted (by ∙ ap method_text (c.is_post.ensures.0 c.if-is_post.true)) (λ clerk. link_no_clerk (sym c.in-Link.is ∙ sym role ∙ clerk)))

pub returns-in-Ok-true-clause-reaches : goal.returns-in-Ok-true-clause-reaches
returns-in-Ok-true-clause-reaches g c s r now p k kept is by admitted role =
    let no_post : c.args.method ≡ method.Post → ⊥ = λ e. clash c.is_post.result c.if-is_post.false (c.is_post.ensures.1 e) in
    let same = ap (λ (x : Place). x.box) (c.read_place-place.ensures ∙ ap place_of (c.deref.ensures.value ∙ c.in-Ok.ensures r p is)) in
    let may = (c.in-Ok-true.ensures.value s kept.means kept.sound kept.is_honest).0 c.in-Ok-true.field-0-test in
    box_used s r now p k admitted (λ post. no_post (is_post c.args.method (sym by ∙ post)))
    (subst (λ (box : List ℕ). MayUse s p.key_id box) same (subst (λ (id : List ℕ). MayUse s id c.read_place-place.result.in_box.now) (c.key_id.ensures r p is) may))

pub returns-in-Ok-false-clause-reaches : goal.returns-in-Ok-false-clause-reaches
returns-in-Ok-false-clause-reaches g c s r now p k kept is by admitted role other =
    let no_post : c.args.method ≡ method.Post → ⊥ = λ e. clash c.is_post.result c.if-is_post.false (c.is_post.ensures.1 e) in
    let same = ap (λ (x : Place). x.box) (c.read_place-place.ensures ∙ ap place_of (c.deref.ensures.value ∙ c.in-Ok.ensures r p is)) in
    let asked = c.in-Ok-false.ensures.value s kept.means kept.sound kept.is_honest in
    role_not_allowed s r now p k admitted
    (box_barred s r now p k admitted (uses_boxes r c.args.method by no_post)
    (λ may. clash c.in-Ok-false.field-0 c.in-Ok-false.field-0-test (asked.1
    (subst (λ (id : List ℕ). MayUse s id c.read_place-place.result.in_box.now) (sym (c.key_id.ensures r p is)) (subst (λ (box : List ℕ). MayUse s p.key_id box) (sym same) may)))))

pub returns-clause-reaches : goal.returns-clause-reaches
returns-clause-reaches g c = grind arith

pub returns-in_default-clause-reaches : goal.returns-in_default-clause-reaches
returns-in_default-clause-reaches g c = grind arith

pub returns-in-Clerk-clause-looks : goal.returns-in-Clerk-clause-looks
returns-in-Clerk-clause-looks g c = looks_still

pub returns-then-is_post-clause-looks : goal.returns-then-is_post-clause-looks
returns-then-is_post-clause-looks g c = looks_still

pub returns-in_default-clause-looks : goal.returns-in_default-clause-looks
returns-in_default-clause-looks g c = looks_still

pub returns-in-Ok-true-clause-looks : goal.returns-in-Ok-true-clause-looks
returns-in-Ok-true-clause-looks g c = looks_answered c.in-Ok-true.ensures.rest c.may_use.ensures.staged

pub returns-in-Ok-false-clause-looks : goal.returns-in-Ok-false-clause-looks
returns-in-Ok-false-clause-looks g c = looks_answered c.in-Ok-false.ensures.rest c.may_use.ensures.staged

pub returns-clause-looks : goal.returns-clause-looks
returns-clause-looks g c = looks_failed c.in-Err.ensures.rest c.may_use.ensures.staged refl
