use Rattle.std.proofs.Common.{[], ◌∷◌, ◌∙◌}
use Rattle.std.proofs.lemmas.Result.{IfOk-weaker}
use Rattle.lists.proofs.file_list.file_line.Goals as goal

pub returns-clause-line : goal.returns-clause-line
returns-clause-line c moment =
    let size = c.as_bytes.ensures.value ∙ c.format.ensures.text in
    let number = c.as_bytes-2.ensures.value ∙ c.format-2.ensures.text in
    IfOk-weaker c.line_of.result _ _ (λ text is. (
      _,
      record {
        moment = c.moment_text.result;
        is_moment = c.moment_text.ensures moment;
        are = λ i. c.deref.ensures.value i ∷ c.deref-2.ensures.value i ∷ size i ∷ c.hex_digits.ensures i ∷ number i ∷ c.moment_text.result ∷ c.deref-3.ensures.value i ∷ [];
      },
      is,
    )) c.line_of.ensures.line
