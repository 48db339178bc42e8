use Rattle.std.proofs.Common.{sym, ◌∙◌}
use Rattle.links.proofs.Texts.{texts_equal, texts_same}
use Rattle.links.proofs.judging.is_signed_by.Goals as goal

pub returns : goal.returns
returns c signed are =
    let (text, only, means) = c.sign-digits.ensures _ c.hasher.ensures signed are in (
      text,
      only,
      λ date writes. (
        λ same. sym c.signature.ensures ∙ texts_equal _ _ (sym c.eq.ensures ∙ same) ∙ c.as_slice.ensures ∙ means date writes,
        λ is. c.eq.ensures ∙ texts_same _ _ (c.signature.ensures ∙ is ∙ sym (means date writes) ∙ sym c.as_slice.ensures),
      ),
    )
