use Rattle.std.proofs.Common.{take, length-drop, arith}
use Rattle.std.proofs.lemmas.List.{length-take-le}
use Rattle.wire.proofs.Written.{take-filled, filled_within}
use Rattle.wire.proofs.Backlogs.{same_front}
use Rattle.wire.proofs.gathered.read_from.Goals as goal

pub returns-in-Ok-clause-came : goal.returns-in-Ok-clause-came
returns-in-Ok-clause-came g c =
    let n = c.in-Ok.n in
    let buf = c.read.new.buf in
    let bound = c.in-Ok.ensures.bound.0 in
    (take n buf, length-take-le n buf bound, filled_within c.args.at n c.args.bytes.now buf _ c.requires bound, take-filled c.args.at n c.args.bytes.now buf _ c.requires bound, c.in-Ok.ensures.bytes.0)

pub returns-in-Ok-clause-end : goal.returns-in-Ok-clause-end
returns-in-Ok-clause-end g c =
    λ none room. c.in-Ok.ensures.bytes.1 none (omega (arith, room, c.read.auto.buf, length-drop c.args.at c.args.bytes.now))

pub returns-in-Err-clause-kept : goal.returns-in-Err-clause-kept
returns-in-Err-clause-kept g c = (same_front c.args.at c.args.bytes.now c.read.new.buf _ c.requires, c.in-Err.ensures.bytes)
