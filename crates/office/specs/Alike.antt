-- Requests whose signed text, signature text and body are the same.
use Rattle.std.specs.Prelude.{◌≡◌}
use Rattle.sigtext.specs.Request.{Request}
use Rattle.links.specs.WellFormed.{LinkValues, IsWellFormed}
use Rattle.links.specs.Alike.{SameText}
use Rattle.office.specs.Rules.{IsPut}

-- Both are well formed and have the same canonical request, signature and body; for a PUT it is also the same
-- whether a Content-Length was given. Everything else in their heads may differ: the spelling of the target
-- and of field names, the order of parameters and fields, and fields that are not signed.
pub record AreAlike (r other : Request) : Type 0 where
  pub mine : LinkValues
  pub its : LinkValues
  pub formed : IsWellFormed r mine
  pub other_formed : IsWellFormed other its
  pub text : SameText r other mine its
  pub signature : mine.signature ≡ its.signature
  pub body : r.body ≡ other.body
  pub length : IsPut r → r.has_length ≡ other.has_length
