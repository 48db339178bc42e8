use Rattle.std.proofs.Common.{rules}
use Rattle.std.specs.Ordering.{is_lt}
use Rattle.std.proofs.lemmas.Cmp.{nat_list_cmp_total}
use Rattle.std.proofs.lemmas.List.Sorted.{answers_always, ranks_by, IsPermutation-map}
use Rattle.sigtext.specs.Bytes.{bytes_cmp}
use Rattle.sigtext.specs.Fields.{header_of}
use Rattle.sigtext.specs.declared.field.Field.{Field}
use Rattle.links.proofs.writing.signed_fields.Goals as goal

pub returns-clause-moved : goal.returns-clause-moved
returns-clause-moved c =
    IsPermutation-map header_of _ _ (rw (c.in_ok-extend_from_slice.ensures.items, c.in_ok-push.ensures.items, c.new-fields.ensures.items) at c.sort_unstable_by.ensures.permutation)

pub returns-clause-sorted : goal.returns-clause-sorted
returns-clause-sorted c =
    c.sort_unstable_by.ensures.sorted (λ x y. is_lt (bytes_cmp x.name.now y.name.now)) (ranks_by nat_list_cmp_total (λ (f : Field). f.name.now)) (answers_always _ _ _ (λ f a r g k. search rules))
