-- How a stream is cut into messages (RFC 9112, sections 2, 5 and 6; the limits are the office's own).
use Rattle.std.specs.Prelude.{◌≡◌, ◌≢◌, ℕ, ◌<◌, ◌≤◌, Bool, true, false, IsTrue, List, [], ◌∷◌, ◌++◌, length, map, codes}
use Rattle.std.specs.List.{list_all}
use Rattle.std.specs.Char.{is_ascii_digit}
use Rattle.std.specs.Str.Parse.{digits_value}
use Rattle.httparse.specs.Grammar.{RequestHead, Field, field_value, ReadsRequest}
use Rattle.sigtext.specs.declared.refusal.Refusal.{Refusal}
use Rattle.sigtext.specs.declared.refusal.Refusal.TheVariants as rule
use Rattle.sigtext.specs.Limits.{most_body, most_fields, most_head}
use Rattle.sigtext.specs.Request.{Request}
use Rattle.sigtext.specs.SignedHeaders.{Header, named}

-- the bytes end in CR LF CR LF
abbrev pub EndsHead : List ℕ → Type 0
EndsHead bytes = (front : List ℕ) × (bytes ≡ front ++ 13 ∷ 10 ∷ 13 ∷ 10 ∷ [])

-- head is the shortest front of the stream that ends in CR LF CR LF, and has at most 8192 bytes
pub record IsFront (stream head rest : List ℕ) : Type 0 where
  pub whole : stream ≡ head ++ rest
  pub ends : EndsHead head
  pub short : length head ≤ most_head
  pub shortest : (front more : List ℕ) → head ≡ front ++ more → EndsHead front → more ≡ []

abbrev pub HasNoFront : List ℕ → Type 0
HasNoFront stream = (head rest : List ℕ) → IsFront stream head rest → ⊥

-- the bytes are one whole request head with at most 64 fields
pub record IsHead (bytes : List ℕ) (head : RequestHead) : Type 0 where
  pub reads : ReadsRequest bytes head []
  pub few : length head.fields ≤ most_fields

-- a field, its value without the white space around it
abbrev pub framed_header : Field → Header
framed_header f = record { name = f.name; value = field_value f }

abbrev pub headers_of : RequestHead → List Header
headers_of head = map framed_header head.fields

-- 1 to 10 digits, and their number
pub record IsLength (text : List ℕ) (n : ℕ) : Type 0 where
  pub some : 0 < length text
  pub short : length text ≤ 10
  pub digits : IsTrue (list_all is_ascii_digit text)
  pub value : n ≡ digits_value 10 text

-- the length of the body: no Content-Length is given, or one alone, which is well formed
pub data Announces (headers : List Header) : Bool → ℕ → Type 0 where
  nothing : named (codes "content-length") headers ≡ [] → Announces headers false 0
  given : (h : Header) (n : ℕ) → named (codes "content-length") headers ≡ h ∷ [] → IsLength h.value n
      → Announces headers true n

abbrev pub IsCoded : List Header → Type 0
IsCoded headers = named (codes "transfer-encoding") headers ≢ []

-- the head of the stream's front, which holds the rules on transfer codings and on the length's form
pub record HasHead (stream : List ℕ) (head : RequestHead) (has_length : Bool) (n : ℕ) (rest : List ℕ) : Type 0 where
  pub front : List ℕ
  pub is_front : IsFront stream front rest
  pub is_head : IsHead front head
  pub uncoded : named (codes "transfer-encoding") (headers_of head) ≡ []
  pub announces : Announces (headers_of head) has_length n

-- the request that a head and a body are
abbrev pub request_of : RequestHead → Bool → List ℕ → Request
request_of head has_length body = record {
  method = head.method;
  target = head.target;
  headers = headers_of head;
  has_length = has_length;
  body = body;
}

-- what comes next on a stream
pub data Step : Type 0 where
  Message : (request : Request) → Step
  Refused : (refusal : Refusal) → Step
  Ended : Step
  Truncated : Step

-- the first step of a stream, and the rest after it. The rules are asked in the order in which they
-- stand here: the length of the head before its form, and the body's last.
pub data Next (stream : List ℕ) : Step → List ℕ → Type 0 where
  ended : stream ≡ [] → Next stream Ended []
  truncated : 0 < length stream → length stream < most_head → HasNoFront stream → Next stream Truncated []
  too_long : most_head ≤ length stream → HasNoFront stream → Next stream (Refused rule.HeadTooLong) []
  malformed : (front rest : List ℕ) → IsFront stream front rest → ((head : RequestHead) → IsHead front head → ⊥)
      → Next stream (Refused rule.HeadMalformed) []
  coded : (front rest : List ℕ) (head : RequestHead) → IsFront stream front rest → IsHead front head → IsCoded (headers_of head)
      → Next stream (Refused rule.TransferCoding) []
  no_length : (front rest : List ℕ) (head : RequestHead) → IsFront stream front rest → IsHead front head
      → named (codes "transfer-encoding") (headers_of head) ≡ []
      → ((has_length : Bool) (n : ℕ) → Announces (headers_of head) has_length n → ⊥) → Next stream (Refused rule.LengthMalformed) []
  too_large : (head : RequestHead) (n : ℕ) (rest : List ℕ) → HasHead stream head true n rest → most_body < n
      → Next stream (Refused rule.BodyTooLarge) []
  incomplete : (head : RequestHead) (n : ℕ) (rest : List ℕ) → HasHead stream head true n rest → n ≤ most_body → length rest < n
      → Next stream (Refused rule.BodyIncomplete) []
  whole : (head : RequestHead) (has_length : Bool) (n : ℕ) (body rest : List ℕ) → HasHead stream head has_length n (body ++ rest)
      → n ≤ most_body → length body ≡ n → Next stream (Message (request_of head has_length body)) rest
