use Rattle.std.proofs.Common.{rules}
use Rattle.std.specs.Ordering.{is_lt}
use Rattle.std.proofs.lemmas.List.Sorted.{answers_always}
use Rattle.sigtext.specs.Bytes.{bytes_cmp}
use Rattle.sigtext.proofs.OrderedParams.{encoded_name, tested_neighbours}
use Rattle.sigtext.proofs.params.names_ascend.Goals as goal

pub returns : goal.returns
returns c =
    tested_neighbours c.args.items.now c.is_sorted_by.result
    (c.is_sorted_by.ensures.cases (λ x y. is_lt (bytes_cmp (encoded_name x) (encoded_name y))) (answers_always _ _ _ (λ f a r g k. search rules)))
