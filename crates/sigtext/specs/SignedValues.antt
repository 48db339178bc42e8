-- The rules on signed values, and which fields must be signed (Amazon S3 API Reference, "Authenticating Requests: Using
-- Query Parameters").
use Rattle.std.specs.Prelude.{◌≢◌, ℕ, Bool, ◌&&◌, ◌||◌, not, nat_le, IsTrue, List, ◌∷◌, ◌++◌, codes, ⊤}
use Rattle.std.specs.List.{list_all, list_any, AllByRecursion}
use Rattle.sigtext.specs.declared.refusal.Refusal.{Refusal}
use Rattle.sigtext.specs.declared.refusal.Refusal.TheVariants as rule
use Rattle.sigtext.specs.Bytes.{same_bytes, begins_with}
use Rattle.sigtext.specs.SignedHeaders.{Header, lower_case, AreSignedValues}

-- bytes 0x20 to 0x7E, and no two adjacent spaces
pub record IsFitValue (value : List ℕ) : Type 0 where
  pub plain : IsTrue (list_all (λ b. nat_le 0x20 b && nat_le b 0x7E) value)
  pub single : (a b : List ℕ) → value ≢ a ++ 32 ∷ 32 ∷ b

-- each field whose name begins with `x-amz-`, in any case, is signed
abbrev pub is_covered : List Header → Header → Bool
is_covered signed h =
    not (begins_with (lower_case h.name) (codes "x-amz-")) || list_any (λ s. same_bytes s.name (lower_case h.name)) signed

-- the rules on the signed values of these names in these fields
abbrev pub ValueRule : List Header → List (List ℕ) → Refusal → List Header → Type 0
ValueRule headers names rule.SignedValues signed =
    AreSignedValues headers names signed × AllByRecursion (λ s. IsFitValue s.value) signed
ValueRule headers names rule.HeaderNotSigned signed = IsTrue (list_all (is_covered signed) headers)
ValueRule headers names _ signed = ⊤
