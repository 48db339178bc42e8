use Rattle.std.proofs.Common.{[], ◌∷◌, ◌∙◌, sym}
use Rattle.lists.proofs.ListTexts.{seven_days}
use Rattle.lists.proofs.words.days_text.Goals as goal

pub returns : goal.returns
returns c =
    (λ i. c.digit_of.ensures i ∷ c.digit_of-2.ensures i ∷ c.digit_of-3.ensures i ∷ c.digit_of-4.ensures i ∷ c.digit_of-5.ensures i ∷ c.digit_of-6.ensures i ∷ c.digit_of-7.ensures i ∷ [])
    ∙ sym (seven_days c.args.days.now c.told-days)
