use Rattle.std.proofs.Common.{◌∙◌, arith}
use Rattle.std.proofs.lemmas.Grind.{common_steps}
use Rattle.hex.specs.Hex.{encode_lower}
use Rattle.wire.proofs.Texts.{file_head_joined}
use Rattle.wire.proofs.found.head_text.Goals as goal

pub returns-clause-text : goal.returns-clause-text
returns-clause-text c =
    c.join.ensures.joined
    ∙ file_head_joined _ _ _ c.args.number (encode_lower c.args.digest) c.args.bytes.now (c.as_bytes-length_text.ensures.value ∙ c.format.ensures.text)
    (c.as_bytes-number_text.ensures.value ∙ c.format-2.ensures.text) c.hex_digits.ensures

pub join-requires : goal.join-requires
join-requires c = grind (arith, common_steps)
