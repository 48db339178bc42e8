-- Decoding inverts UriEncode.
use Rattle.std.proofs.Common.{◌≡◌, ◌<◌, ℕ, List, refl, sym, ap, ◌∙◌, true}
use Rattle.std.proofs.lemmas.List.Elements.{All-from_recursion}
use Rattle.percent_encoding.specs.Percent.{percent_decode}
use Rattle.percent_encoding.specs.AsciiSet.{contains}
use Rattle.percent_encoding.proofs.PercentLemmas.{round_trip}
use Rattle.sigtext.specs.declared.encode.Slash.TheVariants.{Encoded}
use Rattle.sigtext.specs.declared.encode.TheConstants.{ESCAPED}
use Rattle.sigtext.specs.Bytes.{AreBytes}
use Rattle.sigtext.specs.UriEncode.{uri_encoded}
use Rattle.sigtext.proofs.Encoding.{encoded_table, percent_encode-is}

pub decodes : (bytes : List ℕ) → AreBytes bytes → percent_decode (uri_encoded Encoded bytes) ≡ bytes
decodes bytes small =
    let all = All-from_recursion (λ b. b < 256) bytes small in
    ap percent_decode (sym (percent_encode-is Encoded ESCAPED bytes encoded_table all)) ∙ round_trip ESCAPED bytes has_percent all
  where
    has_percent : contains ESCAPED 37 ≡ true
    has_percent = refl
