use Rattle.std.proofs.Common.{arith, ◌≡◌, ap, subst, take, ◌∙◌, ℕ, List, refl}
use Rattle.std.proofs.lemmas.Grind.{common_steps}
use Rattle.wire.specs.Extents.{headed, long}
use Rattle.wire.specs.Heads.{HasNoHeadEnd, IsHeadEnd}
use Rattle.wire.proofs.Backlogs.{take_least}
use Rattle.wire.proofs.extent.message_len.Goals as goal

pub returns-in-Some-clause-some : goal.returns-in-Some-clause-some
returns-in-Some-clause-some c =
    let xs = c.args.bytes.now in
    let window : take c.min.result xs ≡ take 8192 xs = ap (λ (k : ℕ). take k xs) c.min.ensures ∙ take_least 8192 xs in
    headed c.in-Some.size (subst (λ (t : List ℕ). IsHeadEnd t c.in-Some.size) window c.in-Some.ensures.found) c.len_with_body.ensures

pub returns-in-None-2-clause-some : goal.returns-in-None-2-clause-some
returns-in-None-2-clause-some c =
    let xs = c.args.bytes.now in
    let window : take c.min.result xs ≡ take 8192 xs = ap (λ (k : ℕ). take k xs) c.min.ensures ∙ take_least 8192 xs in
    long (subst HasNoHeadEnd window c.in-None.ensures.none) (omega arith) refl

pub returns-in-None-clause-none : goal.returns-in-None-clause-none
returns-in-None-clause-none c = grind (arith, common_steps)

pub slice_bounds-len_with_body-end : goal.slice_bounds-len_with_body-end
slice_bounds-len_with_body-end c = grind (arith, common_steps)
