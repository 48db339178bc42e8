-- A request, as the rules see it.
use Rattle.std.specs.Prelude.{ℕ, Bool, List}
use Rattle.sigtext.specs.SignedHeaders.{Header}

pub record Request : Type 0 where
  pub method : List ℕ
  pub target : List ℕ
  pub headers : List Header
  pub has_length : Bool  -- whether a Content-Length was given
  pub body : List ℕ
