-- What the text of a head announces, and why it may be refused.
use Rattle.std.specs.Prelude.{◌≡◌, ℕ, ◌<◌, Bool, true, List, [], codes}
use Rattle.httparse.specs.Grammar.{RequestHead}
use Rattle.sigtext.specs.declared.refusal.Refusal.{Refusal}
use Rattle.sigtext.specs.declared.refusal.Refusal.TheVariants as rule
use Rattle.sigtext.specs.SignedHeaders.{Header, named}
use Rattle.sigtext.specs.Limits.{most_body}
use Rattle.wire.specs.Framing.{IsHead, IsCoded, Announces, headers_of}

-- the text is this whole head, which obeys the rules on transfer codings and on the form of the length
pub record HeadAnnounces (text : List ℕ) (head : RequestHead) (has_length : Bool) (n : ℕ) : Type 0 where
  pub is_head : IsHead text head
  pub uncoded : named (codes "transfer-encoding") (headers_of head) ≡ []
  pub announces : Announces (headers_of head) has_length n

-- the first rule that the text of a head breaks
pub data Breaks (text : List ℕ) : Refusal → Type 0 where
  malformed : ((head : RequestHead) → IsHead text head → ⊥) → Breaks text rule.HeadMalformed
  coded : (head : RequestHead) → IsHead text head → IsCoded (headers_of head) → Breaks text rule.TransferCoding
  no_length : (head : RequestHead) → IsHead text head → named (codes "transfer-encoding") (headers_of head) ≡ []
      → ((has_length : Bool) (n : ℕ) → Announces (headers_of head) has_length n → ⊥) → Breaks text rule.LengthMalformed
  too_large : (head : RequestHead) (n : ℕ) → HeadAnnounces text head true n → most_body < n → Breaks text rule.BodyTooLarge

-- the first rule that the fields of a head break
pub data FieldsBreak (headers : List Header) : Refusal → Type 0 where
  by_coding : IsCoded headers → FieldsBreak headers rule.TransferCoding
  by_form : named (codes "transfer-encoding") headers ≡ [] → ((has_length : Bool) (n : ℕ) → Announces headers has_length n → ⊥) → FieldsBreak headers rule.LengthMalformed
  by_size : (n : ℕ) → named (codes "transfer-encoding") headers ≡ [] → Announces headers true n → most_body < n → FieldsBreak headers rule.BodyTooLarge
