use Rattle.std.proofs.Common.{arith}
use Rattle.sigtext.proofs.DigitTexts.{digits_utf8, unread}
use Rattle.sigtext.proofs.digits.read_digits.Goals as goal

pub returns-in_default-clause-none : goal.returns-in_default-clause-none
returns-in_default-clause-none c word = c.in_default.ensures.cases.0 (digits_utf8 c.args.text.now word.each)

pub returns-clause-none : goal.returns-clause-none
returns-clause-none c =
    rw c.ok.ensures.value (unread c.args.text.now c.in-Ok.digits.now c.args.most c.parse.result (c.in-Ok.ensures.cases.0) c.requires c.parse.ensures.value.0)

pub returns-clause-form : goal.returns-clause-form
returns-clause-form c = grind arith

pub returns-clause-value : goal.returns-clause-value
returns-clause-value c = grind arith
