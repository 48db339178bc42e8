-- Names joined by `;`: a text joins at most one list of names.
use Rattle.std.proofs.Common.{◌≡◌, ℕ, ◌<◌, false, eqb, List, [], ◌∷◌, length, refl, sym, ap, ◌∙◌, arith, All}
use Rattle.std.specs.Prelude.{IsTrue}
use Rattle.std.specs.List.{list_all, slice_split, AllByRecursion}
use Rattle.sigtext.specs.SignedNames.{is_header_name_byte, IsHeaderName, AreSignedNames}
use Rattle.sigtext.proofs.Cuts.{split_joined, lacks_failing}

pub lacks_semicolon : (text : List ℕ) → IsTrue (list_all is_header_name_byte text) → All (λ b. eqb b 59 ≡ false) text
lacks_semicolon text h = lacks_failing is_header_name_byte 59 text refl h

pub lack_semicolons : (names : List (List ℕ)) → AllByRecursion IsHeaderName names → AllByRecursion (All (λ b. eqb b 59 ≡ false)) names
lack_semicolons [] h = tt
lack_semicolons (name ∷ names) h = (lacks_semicolon name h.0.each, lack_semicolons names h.1)

-- the names are the pieces of the text at `;`
pub names_are : (text : List ℕ) (names : List (List ℕ)) → AreSignedNames text names → names ≡ slice_split (λ b. eqb b 59) text
names_are text names h =
    let some : 0 < length names = omega (arith, h.host.1) in
    sym (ap (slice_split (λ b. eqb b 59)) h.joined ∙ split_joined 59 names some (lack_semicolons names h.forms))

-- a text joins at most one list of names
pub names_once : (text : List ℕ) (names others : List (List ℕ)) → AreSignedNames text names → AreSignedNames text others → others ≡ names
names_once text names others h k = names_are text others k ∙ sym (names_are text names h)
