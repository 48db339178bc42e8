use Rattle.std.proofs.Common.{arith, ◌∙◌, [], ◌∷◌, ◌++◌, length, refl, sym, ap, append_assoc, length-append}
use Rattle.std.specs.Prelude.{◌==◌}
use Rattle.std.proofs.lemmas.Bool.{false≢true}
use Rattle.std.proofs.lemmas.Grind.{common_steps}
use borrow.Author.Tests.{eqb-true}
use Rattle.lists.proofs.Parts.{cleaned_more}
use Rattle.lists.proofs.names.push_part.Goals as goal

pub bytes-preserved : goal.bytes-preserved
bytes-preserved c =
    let (part, are, size, items) = c.bytes.invariant in
    let b = c.cleaned.result in (
      part ++ b ∷ [],
      cleaned_more c.args.text.now part c.bytes.index b are size c.bytes-test.true c.cleaned.ensures.kept c.cleaned.ensures.other,
      omega (arith, size, length-append part (b ∷ [])),
      c.in_ok-push-2.ensures.items ∙ ap (λ t. t ++ b ∷ []) items ∙ append_assoc _ part (b ∷ []),
    )

pub returns-then-is_empty : goal.returns-then-is_empty
returns-then-is_empty c = (
  95 ∷ [],
  record { none = λ none. refl; some = λ some. absurd (omega (arith, eqb-true (length c.args.text.now) 0 (sym c.if-is_empty.ensures), some)) },
  c.in_ok-push.ensures.items,
)

pub returns : goal.returns
returns c =
    let (part, are, size, items) = c.bytes.invariant in (
      part,
      record {
        none = λ none. absurd (false≢true (c.if-is_empty.ensures ∙ ap (λ n. n == 0) none));
        some = λ some. (are, omega (arith, size, c.bytes-test.false, c.bytes.auto.index-end));
      },
      items,
    )

pub bytes-init : goal.bytes-init
bytes-init c = grind (arith, common_steps)

pub cleaned-requires-clause-are : goal.cleaned-requires-clause-are
cleaned-requires-clause-are c = grind arith

pub cleaned-requires-clause-end : goal.cleaned-requires-clause-end
cleaned-requires-clause-end c = grind arith

pub cleaned-requires-clause-inside : goal.cleaned-requires-clause-inside
cleaned-requires-clause-inside c = grind arith
