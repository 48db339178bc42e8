use Rattle.std.proofs.Common.{[], ◌∷◌, ap, ◌∙◌}
use Rattle.std.specs.Fmt.{decimal}
use Rattle.lists.proofs.texts.row_text.Goals as goal

pub returns-in-Ok-clause-row : goal.returns-in-Ok-clause-row
returns-in-Ok-clause-row c moment =
    let number = c.as_bytes.ensures.value ∙ c.format.ensures.text in
    let size = c.as_bytes-2.ensures.value ∙ c.format-2.ensures.text ∙ ap decimal (c.len.ensures ∙ c.args.file.now.bytes.ok.0) in (
      _,
      record {
        moment = c.moment_text.result;
        is_moment = c.moment_text.ensures moment;
        are = λ i. c.args.path.now ∷ c.deref.ensures.value i ∷ c.deref-2.ensures.value i ∷ number i ∷ size i ∷ c.requires i ∷ c.moment_text.result ∷ c.deref-3.ensures.value i ∷ [];
      },
      c.in-Ok.ensures.line,
    )
