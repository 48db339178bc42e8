use Rattle.std.proofs.Common.{[], ◌∷◌, refl, ◌∙◌}
use Rattle.std.proofs.lemmas.Result.{on_ok_weaker}
use Rattle.lists.proofs.manifests.write_receipt.Goals as goal

pub returns-clause-written : goal.returns-clause-written
returns-clause-written c moment =
    let number = c.as_bytes.ensures.value ∙ c.format.ensures.text in
    let size = c.as_bytes-2.ensures.value ∙ c.format-2.ensures.text in
    on_ok_weaker c.write_line.result (λ written. (
      _,
      (
        _,
        record {
          moment = c.moment_text.result;
          is_moment = c.moment_text.ensures moment;
          are = λ i. number i ∷ c.deref.ensures.value i ∷ c.deref-2.ensures.value i ∷ size i ∷ c.hex_digits.ensures i ∷ c.moment_text.result ∷ c.deref-3.ensures.value i ∷ [];
        },
        refl,
      ),
      written,
    )) c.write_line.ensures.written
