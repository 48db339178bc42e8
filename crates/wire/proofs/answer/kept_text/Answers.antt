use Rattle.std.proofs.Common.{◌∙◌, arith}
use Rattle.std.proofs.lemmas.Grind.{common_steps}
use Rattle.hex.specs.Hex.{encode_lower}
use Rattle.wire.proofs.Texts.{kept_shown}
use Rattle.wire.proofs.answer.kept_text.Goals as goal

pub returns-clause-text : goal.returns-clause-text
returns-clause-text c =
    c.success_text.ensures.text
    ∙ kept_shown c.args.is_head c.args.number c.args.size (encode_lower c.args.digest) _ c.kept_body_text-len.ensures.text

pub slice_bounds-success_text-end : goal.slice_bounds-success_text-end
slice_bounds-success_text-end c = grind (arith, common_steps)
