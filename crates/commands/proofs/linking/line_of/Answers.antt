use Rattle.std.proofs.Common.{arith}
use Rattle.commands.proofs.linking.line_of.Goals as goal

pub as_bytes-host-requires-text-self : goal.as_bytes-host-requires-text-self
as_bytes-host-requires-text-self c = grind arith

pub as_bytes-region-requires-text-self : goal.as_bytes-region-requires-text-self
as_bytes-region-requires-text-self c = grind arith

pub as_bytes-requires-text-self : goal.as_bytes-requires-text-self
as_bytes-requires-text-self c = grind arith

pub fact_in-format : goal.fact_in-format
fact_in-format c = grind arith

pub slice_bounds-command-end-2 : goal.slice_bounds-command-end-2
slice_bounds-command-end-2 c = grind arith

pub slice_bounds-order-end : goal.slice_bounds-order-end
slice_bounds-order-end c = grind arith
