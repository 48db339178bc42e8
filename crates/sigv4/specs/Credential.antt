-- The credential of a link: key id, day, region, service and the fixed last word.
use Rattle.std.specs.Prelude.{◌≡◌, ℕ, Bool, ◌||◌, ◌==◌, IsTrue, List, ◌∷◌, ◌++◌, length}
use Rattle.std.specs.List.{list_all}
use Rattle.std.specs.Char.{is_ascii_alphanumeric, is_ascii_digit, is_ascii_lowercase}
use Rattle.sigtext.specs.Bytes.{IsWord, is_visible, begins_with}
use Rattle.sigv4.specs.Signature.{CredentialScope, scope_text}

-- A-Z a-z 0-9 - _
abbrev pub is_key_byte : ℕ → Bool
is_key_byte b = is_ascii_alphanumeric b || (b == 45 || b == 95)

abbrev pub IsKeyId : List ℕ → Type 0
IsKeyId text = IsWord is_key_byte 64 text

-- the form of a key's secret: 1 to 128 bytes 0x21 to 0x7E
abbrev pub IsSecret : List ℕ → Type 0
IsSecret secret = IsWord is_visible 128 secret

-- a-z 0-9 -
abbrev pub is_region_byte : ℕ → Bool
is_region_byte b = is_ascii_lowercase b || is_ascii_digit b || b == 45

abbrev pub IsRegion : List ℕ → Type 0
IsRegion text = IsWord is_region_byte 32 text

-- <key id>/<yyyyMMdd>/<region>/s3/aws4_request, where the day is the first eight bytes of the date
pub record IsCredential (text date key_id : List ℕ) (scope : CredentialScope) : Type 0 where
  pub joined : text ≡ key_id ++ 47 ∷ scope_text scope
  pub key_form : IsKeyId key_id
  pub day_length : length scope.date ≡ 8
  pub day_digits : IsTrue (list_all is_ascii_digit scope.date)
  pub same_day : IsTrue (begins_with date scope.date)
  pub region_form : IsRegion scope.region
