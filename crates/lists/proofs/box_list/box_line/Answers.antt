use Rattle.std.proofs.Common.{[], ◌∷◌, ◌∙◌}
use Rattle.std.proofs.lemmas.Result.{IfOk-weaker}
use Rattle.lists.proofs.box_list.box_line.Goals as goal

pub returns-clause-line : goal.returns-clause-line
returns-clause-line c opens closes =
    let quota = c.as_bytes.ensures.value ∙ c.format.ensures.text in
    let files = c.as_bytes-2.ensures.value ∙ c.format-2.ensures.text in
    let rule = c.deref-2.ensures.value ∙ c.in-Ok.ensures in
    let used = c.as_bytes-3.ensures.value ∙ c.format-3.ensures.text in
    let count = c.as_bytes-4.ensures.value ∙ c.format-4.ensures.text in
    IfOk-weaker c.line_of.result _ _ (λ text is. (
      _,
      record {
        opens = c.moment_text.result;
        closes = c.moment_text-2.result;
        is_opens = c.moment_text.ensures opens;
        is_closes = c.moment_text-2.ensures closes;
        are = λ i. c.deref.ensures.value i ∷ c.moment_text.result ∷ c.moment_text-2.result ∷ c.days_text.ensures i ∷ c.minute_text.ensures i ∷ c.minute_text-2.ensures i
            ∷ quota i ∷ files i ∷ c.mode_text.ensures i ∷ rule i ∷ used i ∷ count i ∷ [];
      },
      is,
    )) c.line_of.ensures.line
