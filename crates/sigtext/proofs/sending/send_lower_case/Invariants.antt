use Rattle.std.proofs.Common.{drop}
use Rattle.sigtext.specs.SignedHeaders.{lower_case}
use Rattle.sigtext.proofs.Sent.{Sent}
use Rattle.sigtext.proofs.sending.send_lower_case.Given as goal

abbrev pub invariant-loop-byte : goal.invariant-loop-byte
invariant-loop-byte g l = Sent g.S.ByteSink.takes l.fn.sink (lower_case l.name) (lower_case (drop l.byte-index l.name)) l.sink
