use Rattle.std.proofs.Common.{rules}
use Rattle.std.specs.Prelude.{int_lt}
use Rattle.std.proofs.lemmas.List.Sorted.{answers_always}
use Rattle.sqlaudit.proofs.ReceiptOrder.{rise_answered}
use Rattle.sqlaudit.proofs.receipt_rules.are_rising.Goals as goal

pub returns : goal.returns
returns c = rise_answered c.args.lines.now c.is_sorted_by.result (c.is_sorted_by.ensures.cases (λ x y. int_lt x.number y.number) (answers_always _ _ _ (λ f a r g k. search rules)))
