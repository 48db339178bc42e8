use Rattle.std.proofs.Common.{lit≤}
use Rattle.wire.proofs.Texts.{success_fits}
use Rattle.wire.proofs.answer.success_text.Goals as goal

pub plain_text-requires-clause-room : goal.plain_text-requires-clause-room
plain_text-requires-clause-room c = success_fits c.args.body.now _ c.requires (lit≤ tt)

pub plain_text-requires-else-is_head-clause-room : goal.plain_text-requires-else-is_head-clause-room
plain_text-requires-else-is_head-clause-room c = success_fits c.args.body.now _ c.requires c.requires
