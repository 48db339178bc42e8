use Rattle.std.proofs.Common.{sym, ◌∙◌}
use Rattle.std.proofs.lemmas.Iterator.{YieldsList-from_slice}
use Rattle.std.proofs.lemmas.Iterator.Consumers.{YieldsList-from_first, YieldsList-from_copied}
use Rattle.std.proofs.lemmas.Slice.Eq.{bytes_eq-Decides}
use Rattle.percent_encoding.specs.Iter.{decoded_bytes}
use Rattle.percent_encoding.specs.Percent.{percent_decode}
use Rattle.sigtext.proofs.Compared.{eq_from_yields_list}
use Rattle.sigtext.proofs.escapes.decodes_to.Goals as goal

pub returns : goal.returns
returns c =
    let answer =
    eq_from_yields_list c.copied.result c.eq-2.result c.eq-2.ensures.ran
    (YieldsList-from_first (λ x. x) decoded_bytes _ c.percent_decode.ensures.bytes)
    (YieldsList-from_copied (YieldsList-from_slice c.args.bytes.now cc)) in
    let decides = bytes_eq-Decides (percent_decode c.args.text.now) c.args.bytes.now in
    (λ t. decides.0 (sym answer ∙ t), λ e. answer ∙ decides.1 e)
