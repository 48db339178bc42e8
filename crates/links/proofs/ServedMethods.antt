-- The texts of the served methods.
use Rattle.std.proofs.Common.{◌≡◌, ℕ, List, refl, sym, subst}
use Rattle.std.specs.Prelude.{IsTrue}
use Rattle.std.specs.List.{list_any}
use Rattle.sigtext.specs.Bytes.{same_bytes}
use Rattle.sigtext.specs.Readable.{methods}
use Rattle.links.specs.Methods.{method_text}
use Rattle.links.specs.declared.methods.Method.{Method}
use Rattle.links.specs.declared.methods.Method.TheVariants as method

text_served : (m : Method) → IsTrue (list_any (same_bytes (method_text m)) methods)
text_served method.Put = refl
text_served method.Get = refl
text_served method.Head = refl
text_served method.Post = refl

-- a text that is the text of one of the methods is served
pub served_method : (text : List ℕ) (m : Method) → text ≡ method_text m → IsTrue (list_any (same_bytes text) methods)
served_method text m is = subst (λ (t : List ℕ). IsTrue (list_any (same_bytes t) methods)) (sym is) (text_served m)
