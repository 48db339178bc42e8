-- The texts of the methods.
use Rattle.std.specs.Prelude.{ℕ, List, codes}
use Rattle.links.specs.declared.methods.Method.{Method}
use Rattle.links.specs.declared.methods.Method.TheVariants as method

abbrev pub method_text : Method → List ℕ
method_text method.Put = codes "PUT"
method_text method.Get = codes "GET"
method_text method.Head = codes "HEAD"
method_text method.Post = codes "POST"
