use Rattle.std.proofs.Common.{◌≡◌, None, ap, inr, refl, subst, sym, ◌∙◌, ⊎_elim, arith}
use Rattle.std.specs.Prelude.{IsTrue, ⊤}
use Rattle.boxes.specs.Sound.{IsSound}
use Rattle.lists.specs.Published.{IsPublished, with_held}
use Rattle.lists.specs.declared.publisher.Publisher.{Publisher}
use Rattle.commands.proofs.Crowds.{less}
use Rattle.commands.proofs.Landing.{looks, more, unasked, within}
use Rattle.commands.proofs.manifesting.serve_published.Goals as goal

pub returns-in_default : goal.returns-in_default
returns-in_default g c = rw c.unserved.ensures.ending (unasked refl (λ s. inr (looks s, c.unserved.ensures.fault, refl)))

pub returns-in_default-create : goal.returns-in_default-create
returns-in_default-create g c =
    rw (c.published.ensures.ending, ← c.new-office.ensures)
    (more (less _ _ _ _ _ _ _ _ _ _ _ _ _ c.published.ensures.done) c.serve_at-session.ensures)

pub returns : goal.returns
returns g c =
    let k = g.K.Keeper in
    let P = Publisher g.row.K.Denot _ _ in
    let begun = c.begin-publisher.ensures in
    let (told, stays, whole) = begun.stays in
    let same = ap (λ (p : P). p.keeper) c.new-office-2.ensures ∙ c.unless_placed.ensures.keeper in
    rw (c.into_inner.ensures.same, c.published-2.ensures.ending)
    (more (less _ _ _ _ _ _ _ _ _ _ _ _ _ c.published-2.ensures.done) (within
    (record {
      honest = λ honest. honest;
      before = λ honest. stays.honest (subst k.is_honest same honest);
      ungrouped = λ alone. subst (λ (p : P). k.is_alone p.keeper × (p.held ≡ None)) (sym c.new-office-2.ensures) (c.unless_placed.ensures.alone (begun.alone alone));
      ungrouped_too = λ alone. alone.0;
      means = λ s means clean. subst (λ (p : P). k.means p.keeper s × (k.is_honest p.keeper → IsSound s → ⊤ × (IsTrue p.is_whole → IsPublished s (with_held p.held None)))) (sym c.new-office-2.ensures) (c.unless_placed.ensures.means s (begun.means s means tt));
      within = λ s means. means.0;
      alone = λ s means clean alone. record {
        alone = λ t at. ⊎_elim (alone.alone t) (λ (is : t ≡ s). is) (stays.crash s t means (subst k.is_honest same clean) (subst (λ x. k.leaves x t) same at));
        whole = subst k.leaves_whole (sym same) (stays.whole s means (subst k.is_honest same clean) alone.whole);
      };
      leaves = λ t at. at;
      whole = λ whole. whole;
    })
    c.serve_at-session-2.ensures))

pub fact_in-format : goal.fact_in-format
fact_in-format g c = grind arith
