use Rattle.std.proofs.Common.{drop, map}
use Rattle.std.specs.List.{join_with_byte}
use Rattle.sigtext.specs.CanonicalQuery.{signed_params, param_text}
use Rattle.sigtext.specs.Decoded.{decoded_param}
use Rattle.sigtext.proofs.JoinedTexts.{joined_behind}
use Rattle.sigtext.proofs.Sent.{Sent}
use Rattle.sigtext.proofs.canonical.send_query.Given as goal

abbrev pub invariant-loop-raw : goal.invariant-loop-raw
invariant-loop-raw g l =
    Sent g.S.ByteSink.takes l.fn.sink (join_with_byte 38 (map param_text (signed_params (map decoded_param l.items))))
    (joined_behind l.separator 38 (map param_text (signed_params (map decoded_param (drop l.raw-index l.items))))) l.sink
