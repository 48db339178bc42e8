use Rattle.std.proofs.Common.{eqb, ◌≡◌, ◌∷◌, [], ◌++◌, List, map, ◌∙◌, rules, tests}
use Rattle.std.proofs.lemmas.Iterator.Consumers.{YieldsList-end}
use Rattle.std.proofs.lemmas.Iterator.Splits.{YieldsList-from_slice_split}
use Rattle.std.proofs.lemmas.List.{map-append}
use Rattle.links.proofs.desk.settings.read_texts.Goals as goal

-- two lists that map to the same texts, with one more item each
one_more : {X Y Z : Type 0} (f : X → Z) (g : Y → Z) (xs : List X) (ys : List Y) (x : X) (y : Y) → map f xs ≡ map g ys → f x ≡ g y
    → map f (xs ++ x ∷ []) ≡ map g (ys ++ y ∷ [])
one_more f g xs ys x y same last = simp map-append (cc)

pub loop-text-preserved : goal.loop-text-preserved
loop-text-preserved c =
    let more : map (λ t. t.items) (c.loop-text.texts.items ++ c.in_ok-from_slice.field-0 ∷ []) ≡ map (λ t. t.now) (c.loop-text.yielded ++ c.in-Some.text ∷ []) =
    one_more (λ t. t.items) (λ t. t.now) c.loop-text.texts.items c.loop-text.yielded c.in_ok-from_slice.field-0 c.in-Some.text c.loop-text.invariant.so_far c.in_ok-from_slice.ensures.items in
    record { can = search rules; finite = tt; so_far = rw c.in_ok-push.ensures.items more }

pub returns : goal.returns
returns c =
    let end = YieldsList-end (YieldsList-from_slice_split _ (λ b. eqb b 44) c.args.list.now (search rules) (search rules) (search rules) (λ x r q k. search (rules, tests))) c.loop-text.yielded _ c.loop-text.yielded_by _ c.next.new.self c.in-None.is c.next.ensures.steps in
    c.loop-text.invariant.so_far ∙ end.0
