use Rattle.std.proofs.Common.{◌∙◌, sym, arith}
use Rattle.std.proofs.lemmas.Bool.{false≢true}
use Rattle.sqlaudit.specs.Sorting.{given_in}
use Rattle.sqlaudit.proofs.ReceiptEntries.{forms_of}
use Rattle.sqlaudit.proofs.receipt_rules.is_receipt.Goals as goal

pub returns-then-not-has_forms : goal.returns-then-not-has_forms
returns-then-not-has_forms c ks bs hk hb = (
  λ t. absurd (false≢true t),
  λ rule. sym c.if-not-has_forms.true ∙ c.has_forms.ensures.1 (forms_of ks bs (given_in c.args.entry.now) hb.good rule),
)

pub returns-else-has_key : goal.returns-else-has_key
returns-else-has_key c = grind arith

pub returns-then-has_key : goal.returns-then-has_key
returns-then-has_key c = grind arith
