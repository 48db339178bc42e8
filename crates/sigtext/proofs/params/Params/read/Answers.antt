use Rattle.std.proofs.Common.{List, ap, refl, rules, ◌∙◌, map}
use Rattle.std.specs.Ordering.{is_lt}
use Rattle.std.proofs.lemmas.Cmp.{nat_list_cmp_total}
use Rattle.std.proofs.lemmas.List.Sorted.{answers_always, ranks_by}
use Rattle.sigtext.specs.declared.target.RawParam.{RawParam}
use Rattle.sigtext.specs.Bytes.{bytes_cmp}
use Rattle.sigtext.specs.CanonicalQuery.{ascends}
use Rattle.sigtext.proofs.NamedParams.{stands_twice}
use Rattle.sigtext.proofs.OrderedParams.{encoded_name, never_fall, holds}
use Rattle.sigtext.proofs.params.Params.read.Goals as goal

pub returns-then-names_ascend-clause-ok : goal.returns-then-names_ascend-clause-ok
returns-then-names_ascend-clause-ok c = λ path params s.
    let up = c.if-names_ascend.ensures ∙ ap (λ (raws : List RawParam). ascends (map encoded_name raws)) c.as_slice.ensures.value in
    holds (record { items = c.sort_unstable_by.new.self }) c.in-Ok.items.items params (c.in-Ok.ensures path params s) c.sort_unstable_by.ensures.permutation up

pub returns-clause-err : goal.returns-clause-err
returns-clause-err c = λ other. (
  refl,
  λ path params s once.
      let sorted = c.sort_unstable_by.ensures.sorted (λ x y. is_lt (bytes_cmp (encoded_name x) (encoded_name y))) (ranks_by nat_list_cmp_total encoded_name) (answers_always _ _ _ (λ f a r g k. search rules)) in
      let not_up = c.if-names_ascend.ensures ∙ ap (λ (raws : List RawParam). ascends (map encoded_name raws)) c.as_slice.ensures.value in
      stands_twice c.in-Ok.items.items c.sort_unstable_by.new.self.items params (c.in-Ok.ensures path params s) c.sort_unstable_by.ensures.permutation (never_fall c.sort_unstable_by.new.self.items sorted) not_up once,
)
