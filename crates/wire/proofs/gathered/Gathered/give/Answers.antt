use Rattle.std.proofs.Common.{length, ap, sym, ◌∙◌, arith}
use Rattle.std.proofs.lemmas.Grind.{common_steps}
use Rattle.wire.proofs.GivenFirst.{given_first}
use Rattle.wire.proofs.gathered.Gathered.give.Goals as goal

pub returns-clause-given : goal.returns-clause-given
returns-clause-given g c =
    given_first c.args.self.now.bytes.items c.copy_from_slice.new.self _ c.ahead-2.result.now c.args.self.now.start c.min-n.result c.ahead-2.ensures
    (omega (arith, c.min-n.ensures, ap length (c.ahead.ensures ∙ sym c.ahead-2.ensures))) c.copy_from_slice.ensures.after

pub copy_from_slice-requires : goal.copy_from_slice-requires
copy_from_slice-requires g c = grind (arith, common_steps)

pub invariant_of-self : goal.invariant_of-self
invariant_of-self g c = grind (arith, common_steps)

pub returns-clause-some : goal.returns-clause-some
returns-clause-some g c = grind (arith, common_steps)

pub slice_bounds-copy_from_slice-end-2 : goal.slice_bounds-copy_from_slice-end-2
slice_bounds-copy_from_slice-end-2 g c = grind (arith, common_steps)

pub slice_bounds-copy_from_slice-end-3 : goal.slice_bounds-copy_from_slice-end-3
slice_bounds-copy_from_slice-end-3 g c = grind (arith, common_steps)
