-- The values of the six signing parameters, and the rules on their forms.
use Rattle.std.specs.Prelude.{◌≡◌, ℕ, ◌-◌, List, take, drop, ◌∷◌, [], codes, ⊤, IsTrue, ◌⊎◌}
use Rattle.std.specs.List.{list_any}
use Rattle.sigtext.specs.declared.refusal.Refusal.{Refusal}
use Rattle.sigtext.specs.declared.refusal.Refusal.TheVariants as rule
use Rattle.sigtext.specs.declared.params.Params.{Params}
use Rattle.sigtext.specs.Spelling.{Spells}
use Rattle.sigtext.specs.Target.{Param}
use Rattle.sigtext.specs.SignedNames.{AreSignedNames}
use Rattle.sigtext.specs.Signing.{HoldsParams}
use Rattle.sigv4.specs.Signature.{CredentialScope}
use Rattle.sigv4.specs.Credential.{IsCredential}
use Rattle.sigv4.specs.Dates.{WritesMoment}
use Rattle.links.specs.Forms.{IsExpiry, IsHexDigest}
use Rattle.links.specs.WellFormed.{HasValue, AreTheSix}
use Rattle.sigtext.specs.Readable.{is_signing_name}
use Rattle.links.specs.declared.six.RawSix.{RawSix}
use Rattle.links.specs.declared.six_values.SixValues.{SixValues}

-- the text spells a value, and exactly one parameter has this name, with that value
abbrev pub SpellsValue : List ℕ → List Param → List ℕ → Type 0
SpellsValue text params name = (value : List ℕ) × Spells (38 ∷ []) text value × HasValue params name value

-- the raw values are those of the six parameters
pub record AreRawSix (six : RawSix) (params : List Param) : Type 0 where
  pub algorithm : SpellsValue six.algorithm.now params (codes "X-Amz-Algorithm")
  pub credential : SpellsValue six.credential.now params (codes "X-Amz-Credential")
  pub date : SpellsValue six.date.now params (codes "X-Amz-Date")
  pub expires : SpellsValue six.expires.now params (codes "X-Amz-Expires")
  pub names : SpellsValue six.names.now params (codes "X-Amz-SignedHeaders")
  pub signature : SpellsValue six.signature.now params (codes "X-Amz-Signature")

-- the values of the six
pub record SixTexts : Type 0 where
  pub algorithm : List ℕ
  pub credential : List ℕ
  pub date : List ℕ
  pub expires : List ℕ
  pub names : List ℕ
  pub signature : List ℕ

-- the part of a text from one place up to another
abbrev pub between : ℕ → ℕ → List ℕ → List ℕ
between start end text = take (end - start) (drop start text)

-- the pieces of the buffer
abbrev pub texts_of : SixValues → SixTexts
texts_of six = record {
  algorithm = take six.algorithm_end six.bytes.items;
  credential = between six.algorithm_end six.credential_end six.bytes.items;
  date = between six.credential_end six.date_end six.bytes.items;
  expires = between six.date_end six.expires_end six.bytes.items;
  names = between six.expires_end six.names_end six.bytes.items;
  signature = drop six.names_end six.bytes.items;
}

-- the values are those of the six parameters
pub record AreSixOf (six : SixTexts) (params : List Param) : Type 0 where
  pub algorithm : HasValue params (codes "X-Amz-Algorithm") six.algorithm
  pub credential : HasValue params (codes "X-Amz-Credential") six.credential
  pub date : HasValue params (codes "X-Amz-Date") six.date
  pub expires : HasValue params (codes "X-Amz-Expires") six.expires
  pub names : HasValue params (codes "X-Amz-SignedHeaders") six.names
  pub signature : HasValue params (codes "X-Amz-Signature") six.signature

-- what the values say
pub record SixParts : Type 0 where
  pub key_id : List ℕ
  pub scope : CredentialScope
  pub start : ℕ
  pub expires : ℕ
  pub names : List (List ℕ)

-- the rules on the values' forms
abbrev pub SixRule : SixTexts → Refusal → SixParts → Type 0
SixRule six rule.Algorithm p = six.algorithm ≡ codes "AWS4-HMAC-SHA256"
SixRule six rule.Credential p = IsCredential six.credential six.date p.key_id p.scope
SixRule six rule.Date p = WritesMoment six.date p.start
SixRule six rule.Expiry p = IsExpiry six.expires p.expires
SixRule six rule.SignedHeaders p = AreSignedNames six.names p.names
SixRule six rule.SignatureText p = IsHexDigest six.signature
SixRule six _ p = ⊤

-- the rules before the rule of the names hold
pub record HoldBeforeNames (six : SixTexts) (p : SixParts) : Type 0 where
  pub algorithm : SixRule six rule.Algorithm p
  pub credential : SixRule six rule.Credential p
  pub date : SixRule six rule.Date p
  pub expires : SixRule six rule.Expiry p

-- the parameters have the right names, and these are the sorted parameters and the values of the six
pub record AreRightParams (sorted : Params) (six : SixTexts) (params : List Param) : Type 0 where
  pub signed : IsTrue (list_any (λ p. is_signing_name p.name) params)
  pub are_six : AreTheSix params
  pub holds : HoldsParams sorted params
  pub values : AreSixOf six params

-- none of the six names is present, or some are but the names are not right
abbrev pub AreWrongParams : Refusal → List Param → Type 0
AreWrongParams q params =
    ((q ≡ rule.NotSigned) × (IsTrue (list_any (λ p. is_signing_name p.name) params) → ⊥))
    ⊎ ((q ≡ rule.Parameters) × IsTrue (list_any (λ p. is_signing_name p.name) params) × (AreTheSix params → ⊥))
