-- What the code's types for the signed parts of a request mean.
use Rattle.std.specs.Prelude.{◌≡◌, List, [], ◌∷◌, map, IsPermutation, ⊤}
use Rattle.sigtext.specs.Spelling.{Spells}
use Rattle.sigtext.specs.Target.{Param}
use Rattle.sigtext.specs.Targets.{SpellRawParam}
use Rattle.sigtext.specs.CanonicalQuery.{Ascend}
use Rattle.sigtext.specs.CanonicalRequest.{Signed}
use Rattle.sigtext.specs.SignedHeaders.{Header, lower_case}
use Rattle.sigtext.specs.declared.target.RawParam.{RawParam}
use Rattle.sigtext.specs.declared.field.Field.{Field}
use Rattle.sigtext.specs.declared.params.Params.{Params}
use Rattle.sigtext.specs.declared.values.Values.{Values}
use Rattle.sigtext.specs.declared.canonical.Parts.{Parts}

-- each raw name and value spells the parameter at the same place
abbrev pub SpellRawParams : List RawParam → List Param → Type 0
SpellRawParams [] [] = ⊤
SpellRawParams (raw ∷ raws) (p ∷ params) = SpellRawParam raw p × SpellRawParams raws params
SpellRawParams [] (p ∷ params) = ⊥
SpellRawParams (raw ∷ raws) [] = ⊥

-- the sorted raw parameters spell these parameters, in the order in which the encoded names ascend strictly
pub record HoldsParams (sorted : Params) (params : List Param) : Type 0 where
  pub ordered : List Param
  pub rearranged : IsPermutation params ordered
  pub ascend : Ascend ordered
  pub spelled : SpellRawParams sorted.items.items ordered

-- a signed header: the field's name in lower case, and the value
abbrev pub signed_header : Field → Header
signed_header f = record { name = lower_case f.name.now; value = f.value.now }

-- the signed headers, in the order of their names
abbrev pub values_of : Values → List Header
values_of values = map signed_header values.fields.items

-- the parts of the code are these signed parts
pub record AreOf (parts : Parts) (signed : Signed) : Type 0 where
  pub method : signed.method ≡ parts.method.now
  pub path : Spells (63 ∷ []) parts.target.path.now signed.path
  pub params : HoldsParams parts.params signed.params
  pub headers : signed.headers ≡ values_of parts.values
