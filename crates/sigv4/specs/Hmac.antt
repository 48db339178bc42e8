-- HMAC (RFC 2104, section 2) over SHA-256 (FIPS 180-4), whose block has 64 bytes.
use Rattle.std.specs.Prelude.{ℕ, ◌-◌, List, ◌++◌, length, map, replicate, nat_lt, bit_xor, if◌then◌else◌}
unfoldable pub use Rattle.sha2.specs.Sha256.{sha256}

-- the key, or the digest of a key longer than a block
abbrev pub short_key : List ℕ → List ℕ
short_key key = if nat_lt 64 (length key) then sha256 key else key

-- the short key, followed by zeros up to a block
abbrev pub block_key : List ℕ → List ℕ
block_key key = short_key key ++ replicate (64 - length (short_key key)) 0

-- each byte of the block xor this one: 0x36 for the inner pad, 0x5c for the outer
abbrev pub masked_block : ℕ → List ℕ → List ℕ
masked_block pad block = map (λ b. bit_xor b pad) block

abbrev pub masked_key : ℕ → List ℕ → List ℕ
masked_key pad key = masked_block pad (block_key key)

-- H((K xor opad) H((K xor ipad) text))
unfoldable pub hmac : List ℕ → List ℕ → List ℕ
hmac key message = sha256 (masked_key 0x5c key ++ sha256 (masked_key 0x36 key ++ message))
