use Rattle.std.proofs.Common.{rules, int_cmp}
use Rattle.std.specs.Ordering.{is_lt}
use Rattle.std.proofs.lemmas.List.Sorted.{answers_always}
use Rattle.sqlaudit.proofs.Apart.{answered_rising}
use Rattle.sqlaudit.proofs.lines.rise.Goals as goal

pub returns : goal.returns
returns c = answered_rising c.args.numbers.now c.is_sorted_by.result (c.is_sorted_by.ensures.cases (λ x y. is_lt (int_cmp x y)) (answers_always _ _ _ (λ f a r g k. search rules)))
