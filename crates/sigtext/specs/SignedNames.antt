-- The names of the signed headers in a link (Amazon S3 API Reference, "Authenticating Requests: Using Query
-- Parameters", `X-Amz-SignedHeaders`).
use Rattle.std.specs.Prelude.{◌≡◌, ℕ, Bool, ◌||◌, ◌==◌, IsTrue, List, codes, Contains}
use Rattle.std.specs.List.{join_with_byte, AllByRecursion}
use Rattle.std.specs.Char.{is_ascii_digit, is_ascii_lowercase}
use Rattle.sigtext.specs.Bytes.{IsWord}
use Rattle.sigtext.specs.CanonicalQuery.{ascends}

-- a-z 0-9 - _ .
abbrev pub is_header_name_byte : ℕ → Bool
is_header_name_byte b = is_ascii_lowercase b || is_ascii_digit b || (b == 45 || b == 95 || b == 46)

abbrev pub IsHeaderName : List ℕ → Type 0
IsHeaderName text = IsWord is_header_name_byte 64 text

-- the names in strictly ascending byte order, joined by `;`, with `host` among them
pub record AreSignedNames (text : List ℕ) (names : List (List ℕ)) : Type 0 where
  pub joined : text ≡ join_with_byte 59 names
  pub forms : AllByRecursion IsHeaderName names
  pub ascend : IsTrue (ascends names)
  pub host : Contains names (codes "host")
