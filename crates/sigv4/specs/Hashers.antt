-- What the two kinds of hasher hold. A hasher's state does not show its message, so this is a relation.
use Rattle.std.specs.Prelude.{ℕ, List, ◌++◌}
use Rattle.sha2.specs.Hashers.{Holds256}
use Rattle.sigv4.specs.Hmac.{masked_key}
use Rattle.sigv4.specs.declared.hash.Sha.{Sha}
use Rattle.sigv4.specs.declared.hash.Hmac.{Hmac}

-- the hasher was fed this message
pub record ShaHolds (s : Sha) (message : List ℕ) : Type 0 where
  pub inner : Holds256 s.inner message

-- the hasher was made from this key, and fed this message
pub record HmacHolds (h : Hmac) (key message : List ℕ) : Type 0 where
  pub inner : Holds256 h.inner (masked_key 0x36 key ++ message)
  pub outer : Holds256 h.outer (masked_key 0x5c key)
