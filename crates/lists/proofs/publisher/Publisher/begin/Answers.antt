use Rattle.std.proofs.Common.{Some, subst, sym, arith}
use Rattle.std.proofs.lemmas.Bool.{both_ways}
use Rattle.lists.specs.Published.{IsBegun, IsPublished, with_held}
use Rattle.lists.proofs.Begun.{begun_blank, begun_put, published_put}
use Rattle.lists.proofs.publisher.Publisher.begin.Goals as goal

pub returns-in-Err-clause-means : goal.returns-in-Err-clause-means
returns-in-Err-clause-means g c = λ s means blank. (
  subst (λ k. g.K.Keeper.means k s) (sym c.give_up.ensures.keeper) (c.in-Err.ensures.stays.same s means),
  λ honest sound. (
    subst (λ sheet. IsBegun s (g.S.Sheet.text sheet)) (sym c.give_up.ensures.sheet) (begun_blank s _ blank),
    λ whole. absurd (both_ways c.give_up.new.self.is_whole c.give_up.ensures.none whole),
  ),
)

pub returns-in-Ok-clause-means : goal.returns-in-Ok-clause-means
returns-in-Ok-clause-means g c = λ s means blank. (
  subst (λ k. g.K.Keeper.means k s) (sym c.put.ensures.keeper) (c.in-Ok.ensures.stays.same s means),
  λ honest sound.
      let text = c.in-Ok.ensures.text s means sound (subst g.K.Keeper.is_honest c.put.ensures.keeper honest) in
      let published = subst (λ t. IsPublished s (Some t)) (sym c.deref.ensures.value) text in (
        begun_put s _ _ _ blank published c.put.ensures.front,
        λ whole. subst (λ held. IsPublished s (with_held held (g.S.Sheet.text c.put.new.self.sheet))) (sym c.put.ensures.held) (published_put s _ _ _ blank published (c.put.ensures.added whole)),
      ),
)

pub returns-in-Err-clause-honest : goal.returns-in-Err-clause-honest
returns-in-Err-clause-honest g c = grind arith

pub returns-in-Err-clause-leaves : goal.returns-in-Err-clause-leaves
returns-in-Err-clause-leaves g c = grind arith

pub returns-in-Err-clause-meant : goal.returns-in-Err-clause-meant
returns-in-Err-clause-meant g c = grind arith

pub returns-in-Err-clause-never_less : goal.returns-in-Err-clause-never_less
returns-in-Err-clause-never_less g c = grind arith

pub returns-in-Err-clause-opened : goal.returns-in-Err-clause-opened
returns-in-Err-clause-opened g c = grind arith

pub returns-in-Err-clause-staged : goal.returns-in-Err-clause-staged
returns-in-Err-clause-staged g c = grind arith

pub returns-in-Err-clause-stages : goal.returns-in-Err-clause-stages
returns-in-Err-clause-stages g c = grind arith

pub returns-in-Err-clause-stays : goal.returns-in-Err-clause-stays
returns-in-Err-clause-stays g c = grind arith

pub returns-in-Err-clause-store : goal.returns-in-Err-clause-store
returns-in-Err-clause-store g c = grind arith

pub returns-in-Err-clause-whole : goal.returns-in-Err-clause-whole
returns-in-Err-clause-whole g c = grind arith

pub returns-in-Ok-clause-honest : goal.returns-in-Ok-clause-honest
returns-in-Ok-clause-honest g c = grind arith

pub returns-in-Ok-clause-leaves : goal.returns-in-Ok-clause-leaves
returns-in-Ok-clause-leaves g c = grind arith

pub returns-in-Ok-clause-meant : goal.returns-in-Ok-clause-meant
returns-in-Ok-clause-meant g c = grind arith

pub returns-in-Ok-clause-never_less : goal.returns-in-Ok-clause-never_less
returns-in-Ok-clause-never_less g c = grind arith

pub returns-in-Ok-clause-opened : goal.returns-in-Ok-clause-opened
returns-in-Ok-clause-opened g c = grind arith

pub returns-in-Ok-clause-staged : goal.returns-in-Ok-clause-staged
returns-in-Ok-clause-staged g c = grind arith

pub returns-in-Ok-clause-stages : goal.returns-in-Ok-clause-stages
returns-in-Ok-clause-stages g c = grind arith

pub returns-in-Ok-clause-stays : goal.returns-in-Ok-clause-stays
returns-in-Ok-clause-stays g c = grind arith

pub returns-in-Ok-clause-store : goal.returns-in-Ok-clause-store
returns-in-Ok-clause-store g c = grind arith

pub returns-in-Ok-clause-whole : goal.returns-in-Ok-clause-whole
returns-in-Ok-clause-whole g c = grind arith
