-- What two orders of links have in common.
use Rattle.std.specs.Prelude.{◌≡◌, map, IsPermutation}
use Rattle.links.specs.Orders.{Terms}

-- what a target tells about its order is the same, but the parameters and the names of the signed headers may be rearranged.
-- A target does not contain the method, the host and the headers' values. Only the signature depends on them.
pub record TellTheSame (t u : Terms) : Type 0 where
  pub path : u.path ≡ t.path
  pub params : IsPermutation t.params u.params
  pub names : IsPermutation (map (λ h. h.name) t.headers) (map (λ h. h.name) u.headers)
  pub start : u.start ≡ t.start
  pub expires : u.expires ≡ t.expires
  pub key_id : u.key_id ≡ t.key_id
  pub region : u.region ≡ t.region

-- everything except the secret is the same, but the parameters and the headers may be rearranged
pub record OrdersTheSame (t u : Terms) : Type 0 where
  pub method : u.method ≡ t.method
  pub path : u.path ≡ t.path
  pub params : IsPermutation t.params u.params
  pub headers : IsPermutation t.headers u.headers
  pub start : u.start ≡ t.start
  pub expires : u.expires ≡ t.expires
  pub key_id : u.key_id ≡ t.key_id
  pub host : u.host ≡ t.host
  pub region : u.region ≡ t.region
