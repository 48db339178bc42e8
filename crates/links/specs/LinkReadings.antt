-- The meaning of the parts of a link that was read.
use Rattle.std.specs.Prelude.{◌≡◌, List, length}
use Rattle.sigtext.specs.Request.{Request}
use Rattle.sigtext.specs.SignedHeaders.{Header}
use Rattle.sigtext.specs.Targets.{IsReadFrom}
use Rattle.sigtext.specs.Signing.{AreOf}
use Rattle.sigtext.specs.declared.target.Target.{Target}
use Rattle.sigv4.specs.Credential.{IsCredential}
use Rattle.links.specs.WellFormed.{LinkValues, IsWellFormed}
use Rattle.links.specs.Methods.{method_text}
use Rattle.links.specs.SixValues.{texts_of}
use Rattle.links.specs.Admits.{signed_of}
use Rattle.links.specs.declared.link_parts.LinkParts.{LinkParts}
use Rattle.links.specs.declared.methods.Method.{Method}

-- the request has this method, a target with this reading, and these headers
pub record IsAskedBy (method : Method) (target : Target) (headers : List Header) (r : Request) : Type 0 where
  pub method_is : r.method ≡ method_text method
  pub read : IsReadFrom r.target target
  pub headers_are : r.headers ≡ headers

-- the link's parts are these parts of the request
pub record IsLinkOf (l : LinkParts) (r : Request) (p : LinkValues) : Type 0 where
  pub signed : AreOf l.parts (signed_of r p)
  pub credential : IsCredential (texts_of l.six).credential (texts_of l.six).date p.key_id p.scope
  pub key_id_length : length p.key_id ≡ l.key_id_length
  pub date : p.date ≡ (texts_of l.six).date
  pub start : p.start ≡ l.start
  pub expires : p.expires ≡ l.expires
  pub signature : p.signature ≡ (texts_of l.six).signature
  pub well_formed : IsWellFormed r p
