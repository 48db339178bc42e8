-- UriEncode (Amazon S3 API Reference, "Authenticating Requests: Using Query Parameters (AWS
-- Signature Version 4)"): each byte has one text.
use Rattle.std.specs.Prelude.{ℕ, ◌/◌, ◌%◌, ◌<◌, ◌≡◌, Bool, true, not, ◌||◌, ◌==◌, List, [], ◌∷◌, if◌then◌else◌}
use Rattle.std.specs.List.{flat_map}
use Rattle.std.specs.Char.{is_ascii_alphanumeric}
use Rattle.std.specs.Fmt.{digit_glyph}
use Rattle.percent_encoding.specs.declared.ascii_set.AsciiSet.{AsciiSet}
use Rattle.percent_encoding.specs.AsciiSet.{should_percent_encode}
use Rattle.sigtext.specs.declared.encode.Slash.{Slash}
use Rattle.sigtext.specs.declared.encode.Slash.TheVariants.{Kept, Encoded}

-- A-Z a-z 0-9 - . _ ~
abbrev pub is_unreserved : ℕ → Bool
is_unreserved b = is_ascii_alphanumeric b || (b == 45 || b == 46 || b == 95 || b == 126)

-- a byte that is kept; `/` is one if slashes are kept
abbrev pub stays : Slash → ℕ → Bool
stays Kept b = is_unreserved b || b == 47
stays Encoded b = is_unreserved b

-- `%` and two upper-case hexadecimal digits
abbrev pub escape : ℕ → List ℕ
escape b = 37 ∷ digit_glyph true (b / 16) ∷ digit_glyph true (b % 16) ∷ []

abbrev pub encoded_byte : Slash → ℕ → List ℕ
encoded_byte slash b = if stays slash b then b ∷ [] else escape b

-- the text of each byte, in order
unfoldable pub uri_encoded : Slash → List ℕ → List ℕ
uri_encoded slash bytes = flat_map (encoded_byte slash) bytes

-- the set escapes exactly the bytes that are not kept
unfoldable pub EscapesTheRest : Slash → AsciiSet → Type 0
EscapesTheRest slash set = (b : ℕ) → b < 256 → should_percent_encode set b ≡ not (stays slash b)
