use Rattle.std.proofs.Common.{ℕ, ◌+◌, ◌-◌, List, length, take, drop, subst, sym, arith, length-drop}
use Rattle.std.specs.Prelude.{◌↔◌}
use Rattle.std.proofs.lemmas.List.{drop-drop, take_all}
use Rattle.std.proofs.lemmas.Grind.{common_steps}
use Rattle.sigtext.specs.Targets.{SpellsSome}
use Rattle.sigtext.proofs.target.is_spelling.Goals as goal

-- one more byte's spelling
one_more : (barred text : List ℕ) (at n : ℕ) {whole : Type 0}
    → (SpellsSome barred (drop n (take (length text - at) (drop at text))) ↔ SpellsSome barred (take (length text - at) (drop at text)))
    → (SpellsSome barred (drop at text) ↔ whole) → SpellsSome barred (drop (at + n) text) ↔ whole
one_more barred text at n some same =
    let rest = take_all (length text - at) (drop at text) (omega (arith, length-drop at text)) in
    let here = subst (λ (t : List ℕ). SpellsSome barred (drop n t) ↔ SpellsSome barred t) rest some in
    let later = drop-drop n at text in
    (λ s. same.0 (here.0 (subst (SpellsSome barred) (sym later) s)), λ w. subst (SpellsSome barred) later (here.1 (same.1 w)))

pub loop-at-preserved : goal.loop-at-preserved
loop-at-preserved c =
    let text = c.args.text.now in
    let at = c.loop-at.at in
    record {
      within = omega (arith, c.in-Some.ensures.within.1, length-drop at text, take_all (length text - at) (drop at text), c.loop-at.invariant.within);
      rest = one_more c.args.barred.now text at c.in-Some.n c.in-Some.ensures.some c.loop-at.invariant.rest;
    }

pub returns : goal.returns
returns c = grind (arith, common_steps)

pub returns-in-None : goal.returns-in-None
returns-in-None c = grind (arith, common_steps)
