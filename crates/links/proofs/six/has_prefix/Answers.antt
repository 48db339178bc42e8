use Rattle.std.proofs.Common.{codes}
use Rattle.std.proofs.lemmas.Iterator.{YieldsList-from_slice, YieldsList-from_take}
use Rattle.std.proofs.lemmas.Iterator.Consumers.{YieldsList-from_first, YieldsList-from_copied, YieldsList-at}
use Rattle.percent_encoding.specs.Iter.{decoded_bytes}
use Rattle.sigtext.proofs.Compared.{eq_from_yields_list}
use Rattle.links.proofs.six.has_prefix.Goals as goal

pub returns : goal.returns
returns c =
    eq_from_yields_list c.take.result c.eq.result c.eq.ensures.ran (YieldsList-from_copied (YieldsList-from_slice (codes "X-Amz-") cc))
    (YieldsList-from_take 6 (YieldsList-at c.take.ensures.source (YieldsList-from_first (λ x. x) decoded_bytes _ c.percent_decode.ensures.bytes)) c.take.ensures.count)
