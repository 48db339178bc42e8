use Rattle.percent_encoding.specs.Percent.{percent_decode}
use Rattle.percent_encoding.specs.Iter.{decoded_bytes}
use Rattle.sigtext.specs.UriEncode.{uri_encoded}
use Rattle.sigtext.proofs.Sent.{Sent}
use Rattle.sigtext.proofs.sending.send_recoded.Given as goal

abbrev pub invariant-loop-byte : goal.invariant-loop-byte
invariant-loop-byte g l =
    Sent g.S.ByteSink.takes l.fn.sink (uri_encoded l.slash (percent_decode l.raw)) (uri_encoded l.slash (decoded_bytes l.byte-iterator)) l.sink
