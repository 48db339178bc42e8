-- Digests are bytes, and signatures are digits.
use Rattle.std.proofs.Common.{◌≡◌, ℕ, zero, suc, ◌/◌, ◌%◌, ◌<◌, Bool, true, List, [], ◌∷◌, length, codes, refl, arith, All}
use Rattle.std.specs.Prelude.{IsTrue, slice_index}
use Rattle.std.specs.Int.{byte_at, bytes_high_first, to_be_bytes, w32}
use Rattle.std.specs.List.{list_all}
use Rattle.std.proofs.lemmas.Bool.{and_from}
use Rattle.std.proofs.lemmas.List.Elements.{All-nil, All-cons, All-append, All-head, All-tail}
use Rattle.std.proofs.lemmas.List.Sums.{AllPass-from_list_all}
use Rattle.hex.specs.Hex.{encode_lower, encode_with, lower_digits}
use Rattle.hex.proofs.HexLemmas.{length-encode_with}
use Rattle.sha2.specs.Sha256.{digest_bytes, sha256}
use Rattle.sha2.proofs.Facts256.{length-sha256}
use Rattle.sigv4.specs.Hmac.{hmac}
use Rattle.sigv4.specs.Signature.{CredentialScope, signature_of}

-- ---- bytes

small_byte : (k n : ℕ) → byte_at k n < 256
small_byte zero n = omega arith
small_byte (suc k) n = omega arith

small_bytes : (k n : ℕ) → All (λ b. b < 256) (bytes_high_first k n)
small_bytes zero n = All-nil (λ b. b < 256)
small_bytes (suc k) n = All-cons (λ b. b < 256) (byte_at k n) (bytes_high_first k n) (small_byte k n) (small_bytes k n)

small_word : (n : ℕ) → All (λ b. b < 256) (to_be_bytes w32 n)
small_word n = small_bytes 4 n

small_words : (h : List ℕ) (n : ℕ) → All (λ b. b < 256) (digest_bytes h n)
unfolding digest_bytes
small_words h zero = All-nil (λ b. b < 256)
small_words h (suc n) = All-append (λ b. b < 256) (digest_bytes h n) (to_be_bytes w32 (slice_index h n)) (small_words h n) (small_word (slice_index h n))

pub small_sha256 : (message : List ℕ) → All (λ b. b < 256) (sha256 message)
unfolding sha256
small_sha256 message = small_words _ 8

-- ---- signatures

digit_at : (test : ℕ → Bool) → IsTrue (list_all test lower_digits) → (d : ℕ) → d < 16 → test (slice_index lower_digits d) ≡ true
digit_at test h d within = AllPass-from_list_all test lower_digits h d 0 within

-- each digit is one of the sixteen, so it passes each test that these pass
each_digit : (test : ℕ → Bool) → IsTrue (list_all test lower_digits) → (bytes : List ℕ) → All (λ b. b < 256) bytes → IsTrue (list_all test (encode_lower bytes))
unfolding encode_with
each_digit test h [] small = refl
each_digit test h (b ∷ bytes) small =
    let byte = All-head (λ x. x < 256) b bytes small in
    and_from _ _ (digit_at test h (b / 16) (omega (arith, byte)))
    (and_from _ _ (digit_at test h (b % 16) (omega arith)) (each_digit test h bytes (All-tail (λ x. x < 256) b bytes small)))

-- a signature has 64 digits
pub length-signature_of : (secret moment : List ℕ) (scope : CredentialScope) (canonical : List ℕ) → length (signature_of secret moment scope canonical) ≡ 64
unfolding signature_of hmac
length-signature_of secret moment scope canonical = two_each _ (length-sha256 _)
  where
    two_each : (bytes : List ℕ) → length bytes ≡ 32 → length (encode_lower bytes) ≡ 64
    two_each bytes long = omega (arith, long, length-encode_with lower_digits bytes)

-- each test that the sixteen digits pass, the digits of a signature pass
pub signature_digits : (test : ℕ → Bool) → IsTrue (list_all test (codes "0123456789abcdef")) → (secret moment : List ℕ) (scope : CredentialScope) (canonical : List ℕ)
    → IsTrue (list_all test (signature_of secret moment scope canonical))
unfolding signature_of hmac
signature_digits test h secret moment scope canonical = each_digit test h _ (small_sha256 _)
