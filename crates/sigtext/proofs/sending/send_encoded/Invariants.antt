use Rattle.percent_encoding.specs.Iter.{encoded_text}
use Rattle.sigtext.specs.UriEncode.{uri_encoded}
use Rattle.sigtext.proofs.Sent.{Sent}
use Rattle.sigtext.proofs.sending.send_encoded.Given as goal

abbrev pub invariant-loop-piece : goal.invariant-loop-piece
invariant-loop-piece g l = Sent g.S.ByteSink.takes l.fn.sink (uri_encoded l.fn.slash l.bytes) (encoded_text l.piece-iterator) l.sink
