-- The lowest rule on the forms of the six values that fails.
use Rattle.std.proofs.Common.{◌≡◌, ◌≢◌, ℕ, ◌<◌, List, [], codes, arith}
use Rattle.sigtext.specs.declared.refusal.Refusal.{Refusal}
use Rattle.sigtext.specs.declared.refusal.Refusal.TheVariants as rule
use Rattle.sigtext.specs.Refusals.{number_of}
use Rattle.sigtext.specs.Rules.{IsFirstToFail, AllHold}
use Rattle.sigtext.specs.SignedNames.{AreSignedNames}
use Rattle.sigv4.specs.Signature.{CredentialScope}
use Rattle.sigv4.specs.Credential.{IsCredential}
use Rattle.sigv4.specs.Dates.{WritesMoment}
use Rattle.links.specs.Forms.{IsExpiry, IsHexDigest}
use Rattle.links.specs.SixValues.{SixTexts, SixParts, SixRule, HoldBeforeNames}

-- the rules below a number hold
before : (six : SixTexts) (p : SixParts) (n : ℕ) → (11 < n → SixRule six rule.Algorithm p) → (12 < n → SixRule six rule.Credential p) → (13 < n → SixRule six rule.Date p)
    → (14 < n → SixRule six rule.Expiry p) → (15 < n → SixRule six rule.SignedHeaders p) → (16 < n → SixRule six rule.SignatureText p) → (q : Refusal) → number_of q < n → SixRule six q p
before six p n a c d e h s rule.Algorithm lt = a lt
before six p n a c d e h s rule.Credential lt = c lt
before six p n a c d e h s rule.Date lt = d lt
before six p n a c d e h s rule.Expiry lt = e lt
before six p n a c d e h s rule.SignedHeaders lt = h lt
before six p n a c d e h s rule.SignatureText lt = s lt
before six p n a c d e h s _ lt = tt

abbrev parts : List ℕ → CredentialScope → ℕ → ℕ → List (List ℕ) → SixParts
parts key_id scope start expires names = record { key_id = key_id; scope = scope; start = start; expires = expires; names = names }

abbrev no_scope : CredentialScope
no_scope = record { date = []; region = [] }

pub algorithm_fails : (six : SixTexts) → (six.algorithm ≢ codes "AWS4-HMAC-SHA256") → IsFirstToFail (SixRule six) rule.Algorithm
algorithm_fails six other = record {
  parts = parts [] no_scope 0 0 [];
  before = before six _ 11 (λ lt. absurd (omega arith)) (λ lt. absurd (omega arith)) (λ lt. absurd (omega arith)) (λ lt. absurd (omega arith)) (λ lt. absurd (omega arith)) (λ lt. absurd (omega arith));
  fails = λ p hold bad. other bad;
}

pub credential_fails : (six : SixTexts) → six.algorithm ≡ codes "AWS4-HMAC-SHA256" → ((key_id : List ℕ) (scope : CredentialScope) → IsCredential six.credential six.date key_id scope → ⊥)
    → IsFirstToFail (SixRule six) rule.Credential
credential_fails six a none = record {
  parts = parts [] no_scope 0 0 [];
  before = before six _ 12 (λ lt. a) (λ lt. absurd (omega arith)) (λ lt. absurd (omega arith)) (λ lt. absurd (omega arith)) (λ lt. absurd (omega arith)) (λ lt. absurd (omega arith));
  fails = λ p hold bad. none p.key_id p.scope bad;
}

pub date_fails : (six : SixTexts) (key_id : List ℕ) (scope : CredentialScope) → six.algorithm ≡ codes "AWS4-HMAC-SHA256" → IsCredential six.credential six.date key_id scope
    → ((m : ℕ) → WritesMoment six.date m → ⊥) → IsFirstToFail (SixRule six) rule.Date
date_fails six key_id scope a c none = record {
  parts = parts key_id scope 0 0 [];
  before = before six _ 13 (λ lt. a) (λ lt. c) (λ lt. absurd (omega arith)) (λ lt. absurd (omega arith)) (λ lt. absurd (omega arith)) (λ lt. absurd (omega arith));
  fails = λ p hold bad. none p.start bad;
}

pub expiry_fails : (six : SixTexts) (key_id : List ℕ) (scope : CredentialScope) (start : ℕ) → six.algorithm ≡ codes "AWS4-HMAC-SHA256" → IsCredential six.credential six.date key_id scope
    → WritesMoment six.date start → ((n : ℕ) → IsExpiry six.expires n → ⊥) → IsFirstToFail (SixRule six) rule.Expiry
expiry_fails six key_id scope start a c d none = record {
  parts = parts key_id scope start 0 [];
  before = before six _ 14 (λ lt. a) (λ lt. c) (λ lt. d) (λ lt. absurd (omega arith)) (λ lt. absurd (omega arith)) (λ lt. absurd (omega arith));
  fails = λ p hold bad. none p.expires bad;
}

pub names_fail : (six : SixTexts) (p : SixParts) → HoldBeforeNames six p → ((names : List (List ℕ)) → AreSignedNames six.names names → ⊥) → IsFirstToFail (SixRule six) rule.SignedHeaders
names_fail six p held none = record {
  parts = p;
  before = before six p 15 (λ lt. held.algorithm) (λ lt. held.credential) (λ lt. held.date) (λ lt. held.expires) (λ lt. absurd (omega arith)) (λ lt. absurd (omega arith));
  fails = λ q hold bad. none q.names bad;
}

abbrev pub with_names : SixParts → List (List ℕ) → SixParts
with_names p names = parts p.key_id p.scope p.start p.expires names

pub signature_fails : (six : SixTexts) (p : SixParts) (names : List (List ℕ)) → HoldBeforeNames six p → AreSignedNames six.names names → (IsHexDigest six.signature → ⊥)
    → IsFirstToFail (SixRule six) rule.SignatureText
signature_fails six p names held are none = record {
  parts = with_names p names;
  before = before six _ 16 (λ lt. held.algorithm) (λ lt. held.credential) (λ lt. held.date) (λ lt. held.expires) (λ lt. are) (λ lt. absurd (omega arith));
  fails = λ q hold bad. none bad;
}

pub all_hold : (six : SixTexts) (p : SixParts) (names : List (List ℕ)) → HoldBeforeNames six p → AreSignedNames six.names names → IsHexDigest six.signature → AllHold (SixRule six) (with_names p names)
all_hold six p names held are digits rule.Algorithm = held.algorithm
all_hold six p names held are digits rule.Credential = held.credential
all_hold six p names held are digits rule.Date = held.date
all_hold six p names held are digits rule.Expiry = held.expires
all_hold six p names held are digits rule.SignedHeaders = are
all_hold six p names held are digits rule.SignatureText = digits
all_hold six p names held are digits _ = tt
