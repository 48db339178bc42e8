use Rattle.std.proofs.Common.{◌∙◌}
use Rattle.wire.proofs.Texts.{done_shown}
use Rattle.wire.proofs.answer.done_text.Goals as goal

pub returns-clause-text : goal.returns-clause-text
returns-clause-text c = c.success_text.ensures.text ∙ done_shown c.args.is_head
