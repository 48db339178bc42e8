-- Bytes that were put back are still the first that a connection has left.
use Rattle.std.proofs.Common.{◌≡◌, ◌++◌, ◌∙◌, ℕ, List, Option, None, Some, ap, append_assoc, subst, sym}
use Rattle.std.specs.Io.KnownBytes.{Keeps, prepend_known}

-- bytes that the feed had went back to those that were read ahead
pub put_back : (x y : Option (List ℕ)) (a b c d : List ℕ) → y ≡ x → c ++ d ≡ a ++ b → Keeps (prepend_known a (prepend_known b x)) (prepend_known c (prepend_known d y))
put_back None y a b c d same is = tt
put_back (Some x) y a b c d same is =
    subst (λ z. Keeps (prepend_known a (prepend_known b (Some x))) (prepend_known c (prepend_known d z))) (sym same)
    (sym (append_assoc c d x) ∙ ap (λ l. l ++ x) is ∙ append_assoc a b x)
