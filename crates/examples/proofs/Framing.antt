-- The edges of framing: the lengths of heads, streams and bodies, and the forms of Content-Length.
use Rattle.std.proofs.Common.{◌≡◌, ◌<◌, ◌≤◌, ℕ, Bool, true, List, [], ◌∷◌, ◌++◌, length, codes, lit<, lit≤, arith, refl, sym, ap, ◌∙◌}
use Rattle.std.specs.Prelude.{IsTrue}
use Rattle.std.specs.List.{list_all}
use Rattle.std.specs.Char.{is_ascii_digit}
use Rattle.std.specs.Str.Parse.{digits_value}
use Rattle.httparse.specs.Grammar.{RequestHead, ReadsRequest}
use Rattle.sigtext.specs.declared.refusal.Refusal.TheVariants as rule
use Rattle.sigtext.specs.Request.{Request}
use Rattle.sigtext.specs.SignedHeaders.{Header, named}
use Rattle.wire.specs.Framing.{EndsHead, IsFront, HasNoFront, IsHead, IsLength, Announces, nothing, given, HasHead, request_of, Message, Refused, Truncated, Next, truncated, too_long, too_large, incomplete, whole}
use Rattle.wire.proofs.Fronts.{same_length, same_rest}

-- a head of 8192 bytes may be a front
pub front_of_8192 : (head rest : List ℕ) → length head ≡ 8192 → EndsHead head
    → ((front more : List ℕ) → head ≡ front ++ more → EndsHead front → more ≡ []) → IsFront (head ++ rest) head rest
front_of_8192 head rest long ends shortest = record { whole = refl; ends = ends; short = omega arith; shortest = shortest }

-- one of 8193 may not
pub no_front_of_8193 : (stream head rest : List ℕ) → length head ≡ 8193 → IsFront stream head rest → ⊥
no_front_of_8193 stream head rest long front = let short : length head ≤ 8192 = front.short in omega arith

-- a stream without a front is another step at 8191 bytes or fewer than at 8192 or more
pub truncated_at_8191 : (stream : List ℕ) → length stream ≡ 8191 → HasNoFront stream → Next stream Truncated []
truncated_at_8191 stream long none = truncated (omega arith) (omega arith) none

pub too_long_at_8192 : (stream : List ℕ) → length stream ≡ 8192 → HasNoFront stream → Next stream (Refused rule.HeadTooLong) []
too_long_at_8192 stream long none = too_long (omega arith) none

truncated_is : (stream rest : List ℕ) → Next stream Truncated rest → (0 < length stream) × (length stream < 8192)
truncated_is stream _ (truncated some short none) = (some, short)

too_long_is : (stream rest : List ℕ) → Next stream (Refused rule.HeadTooLong) rest → 8192 ≤ length stream
too_long_is stream _ (too_long long none) = long

pub not_too_long_at_8191 : (stream rest : List ℕ) → length stream ≡ 8191 → Next stream (Refused rule.HeadTooLong) rest → ⊥
not_too_long_at_8191 stream rest long next = let least = too_long_is stream rest next in omega arith

pub not_truncated_at_8192 : (stream rest : List ℕ) → length stream ≡ 8192 → Next stream Truncated rest → ⊥
not_truncated_at_8192 stream rest long next = let most = (truncated_is stream rest next).1 in omega arith

-- a head of 64 fields is read, and one of 65 is not
pub head_of_64 : (bytes : List ℕ) (head : RequestHead) → ReadsRequest bytes head [] → length head.fields ≡ 64 → IsHead bytes head
head_of_64 bytes head reads many = record { reads = reads; few = omega arith }

pub no_head_of_65 : (bytes : List ℕ) (head : RequestHead) → length head.fields ≡ 65 → IsHead bytes head → ⊥
no_head_of_65 bytes head many is = let few : length head.fields ≤ 64 = is.few in omega arith

-- a body of 8388608 bytes makes a message
pub full_body : (stream body rest : List ℕ) (head : RequestHead) → length body ≡ 8388608 → HasHead stream head true 8388608 (body ++ rest)
    → Next stream (Message (request_of head true body)) rest
full_body stream body rest head long has = whole head true 8388608 body rest has (omega arith) long

-- if that many were announced, one byte fewer is a body that is incomplete, not one that is too large
pub short_body : (stream rest : List ℕ) (head : RequestHead) → length rest ≡ 8388607 → HasHead stream head true 8388608 rest
    → Next stream (Refused rule.BodyIncomplete) []
short_body stream rest head long has = incomplete head 8388608 rest has (omega arith) (omega arith)

-- one more is refused as too large, however many follow
pub large_body : (stream rest : List ℕ) (head : RequestHead) → HasHead stream head true 8388609 rest → Next stream (Refused rule.BodyTooLarge) []
large_body stream rest head has = too_large head 8388609 rest has (omega arith)

-- what each of these says of the length: a body that is too large, one that is incomplete, and a message
pub record HasLengthOf (stream : List ℕ) (Holds : ℕ → Type 0) : Type 0 where
  pub head : RequestHead
  pub has_length : Bool
  pub n : ℕ
  pub rest : List ℕ
  pub has : HasHead stream head has_length n rest
  pub holds : Holds n

pub large_is : (stream rest : List ℕ) → Next stream (Refused rule.BodyTooLarge) rest → HasLengthOf stream (λ n. 8388608 < n)
large_is stream _ (too_large head n rest has large) = record { head = head; has_length = true; n = n; rest = rest; has = has; holds = large }

pub incomplete_is : (stream rest : List ℕ) → Next stream (Refused rule.BodyIncomplete) rest → HasLengthOf stream (λ n. n ≤ 8388608)
incomplete_is stream _ (incomplete head n rest has fits short) = record { head = head; has_length = true; n = n; rest = rest; has = has; holds = fits }

pub message_is : (stream rest : List ℕ) (r : Request) → Next stream (Message r) rest → HasLengthOf stream (λ n. n ≤ 8388608)
message_is stream rest _ (whole head has_length n body _ has fits long) =
    record { head = head; has_length = has_length; n = n; rest = body ++ rest; has = has; holds = fits }

-- no stream is refused for both reasons, and a stream with a body that is too large is no message
pub not_both : (stream rest more : List ℕ) → Next stream (Refused rule.BodyTooLarge) rest → Next stream (Refused rule.BodyIncomplete) more → ⊥
not_both stream rest more x y =
    let a = large_is stream rest x in
    let b = incomplete_is stream more y in
    let same : a.n ≡ b.n = same_length stream a.head b.head a.has_length b.has_length a.n b.n a.rest b.rest a.has b.has in
    let large = a.holds in
    let fits = b.holds in
    omega arith

pub large_is_no_message : (stream rest more : List ℕ) (r : Request) → Next stream (Refused rule.BodyTooLarge) rest → Next stream (Message r) more → ⊥
large_is_no_message stream rest more r x y =
    let a = large_is stream rest x in
    let b = message_is stream more r y in
    let same : a.n ≡ b.n = same_length stream a.head b.head a.has_length b.has_length a.n b.n a.rest b.rest a.has b.has in
    let large = a.holds in
    let fits = b.holds in
    omega arith

-- a body that is there whole is not incomplete
pub incomplete_lacks : (stream rest : List ℕ) → Next stream (Refused rule.BodyIncomplete) rest
    → (head : RequestHead) × (n : ℕ) × (more : List ℕ) × HasHead stream head true n more × (length more < n)
incomplete_lacks stream _ (incomplete head n more has fits short) = (head, n, more, has, short)

pub whole_is_not_incomplete : (stream rest more : List ℕ) (head : RequestHead) (n : ℕ) → HasHead stream head true n rest → length rest ≡ n
    → Next stream (Refused rule.BodyIncomplete) more → ⊥
whole_is_not_incomplete stream rest more head n has long next =
    let (other, m, left, too, short) = incomplete_lacks stream more next in
    let same = same_length stream head other true true n m rest left has too in
    let rests = same_rest stream has.front rest too.front left has.is_front too.is_front in
    omega (arith, ap length rests)

-- Content-Length: ten digits are a length, eleven are not
pub ten_digits : (text : List ℕ) → length text ≡ 10 → IsTrue (list_all is_ascii_digit text) → IsLength text (digits_value 10 text)
ten_digits text long digits = record { some = omega arith; short = omega arith; digits = digits; value = refl }

pub no_eleven_digits : (text : List ℕ) (n : ℕ) → length text ≡ 11 → IsLength text n → ⊥
no_eleven_digits text n long is = let short : length text ≤ 10 = is.short in omega arith

pub zeros_in_front : IsLength (codes "0000000003") 3
zeros_in_front = record { some = lit< tt; short = lit≤ tt; digits = refl; value = refl }

pub greatest_length : IsLength (codes "9999999999") 9999999999
greatest_length = record { some = lit< tt; short = lit≤ tt; digits = refl; value = refl }

pub no_empty_length : (n : ℕ) → IsLength [] n → ⊥
no_empty_length n is = let some : 0 < length {A = ℕ} [] = is.some in omega arith

pub no_sign : (n : ℕ) → IsLength (codes "+3") n → ⊥
no_sign n is = let digits = is.digits in absurd cc

-- two fields of that name announce nothing
pub no_two_lengths : (headers : List Header) (h k : Header) (more : List Header) (b : Bool) (n : ℕ)
    → named (codes "content-length") headers ≡ h ∷ k ∷ more → Announces headers b n → ⊥
no_two_lengths headers h k more _ _ two (nothing none) = let clash : h ∷ k ∷ more ≡ [] = sym two ∙ none in absurd cc
no_two_lengths headers h k more _ _ two (given g n one is) = let clash : h ∷ k ∷ more ≡ g ∷ [] = sym two ∙ one in absurd cc
