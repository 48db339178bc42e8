use Rattle.std.proofs.Common.{ap, sym, ◌∙◌, arith}
use Rattle.std.proofs.lemmas.Grind.{common_steps}
use Rattle.hex.specs.Hex.{encode_lower}
use Rattle.wire.specs.Answers.{Found, answer_text}
use Rattle.wire.proofs.Texts.{found_shown, found_to_head}
use Rattle.wire.proofs.Written.{sends_both, sends_no_more, sends_same}
use Rattle.wire.proofs.found.put_file.Goals as goal

pub returns-then-is_head-clause-sent : goal.returns-then-is_head-clause-sent
returns-then-is_head-clause-sent g c =
    let bytes = c.args.bytes.now in
    let digits = encode_lower c.args.digest in
    sends_same
    (c.head_text-len.ensures.text ∙ found_to_head c.args.number digits bytes
    ∙ ap (λ b. answer_text b (Found c.args.number digits bytes)) (sym c.if-is_head.true))
    c.send.ensures.sent

pub returns-in-Ok-clause-sent : goal.returns-in-Ok-clause-sent
returns-in-Ok-clause-sent g c =
    let bytes = c.args.bytes.now in
    let digits = encode_lower c.args.digest in
    sends_same
    (c.front_text-len.ensures.text ∙ found_shown c.args.number digits bytes
    ∙ ap (λ b. answer_text b (Found c.args.number digits bytes)) (sym c.if-is_head.false))
    (sends_both _ _ _ _ _ _ c.send-in-Ok.result c.in-Ok.ensures.sent c.send-in-Ok.ensures.sent)

pub returns-in-Err-clause-sent : goal.returns-in-Err-clause-sent
returns-in-Err-clause-sent g c =
    let bytes = c.args.bytes.now in
    let digits = encode_lower c.args.digest in
    sends_same
    (c.front_text-len.ensures.text ∙ found_shown c.args.number digits bytes
    ∙ ap (λ b. answer_text b (Found c.args.number digits bytes)) (sym c.if-is_head.false))
    (sends_no_more _ c.front_text-len.result.1.now _ _ c.in-Err.fault c.in-Err.ensures.sent)

pub returns-in-Ok-clause-count : goal.returns-in-Ok-clause-count
returns-in-Ok-clause-count g c = grind arith

pub slice_bounds-send-end : goal.slice_bounds-send-end
slice_bounds-send-end g c = grind (arith, common_steps)

pub slice_bounds-send-end-2 : goal.slice_bounds-send-end-2
slice_bounds-send-end-2 g c = grind (arith, common_steps)
