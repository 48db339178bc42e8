-- What a link's parts say has only one text.
use Rattle.std.proofs.Common.{◌≡◌, ℕ, ◌^◌, ◌<◌, List, [], ◌∷◌, ◌++◌, length, take, get_or, sym, ap, ◌∙◌, arith}
use Rattle.std.specs.Fmt.{decimal}
use Rattle.std.specs.Str.Parse.{AllDigits, digits_value}
use Rattle.std.proofs.lemmas.Fmt.{decimal-digits_value}
use Rattle.std.proofs.lemmas.Slice.Eq.{bytes_eq-Decides}
use Rattle.std.proofs.lemmas.Str.Parse.{tells_digits, numerals_by_value}
use Rattle.sigv4.specs.Signature.{CredentialScope, scope_text}
use Rattle.sigv4.specs.Credential.{IsCredential}
use Rattle.links.specs.Forms.{IsExpiry}
use Rattle.sigtext.proofs.DigitTexts.{all_digits}

-- ---- the expiry

not_zero : (text : List ℕ) → ((rest : List ℕ) → text ≡ 48 ∷ rest → ⊥) → get_or text 0 0 ≡ 48 → ⊥
not_zero [] h e = absurd (omega (arith, e))
not_zero (b ∷ text) h e = h text (ap (λ (x : ℕ). x ∷ text) e)

-- an expiry is written as the decimal text of its number
pub expiry_decimal : (text : List ℕ) (n : ℕ) → IsExpiry text n → text ≡ decimal n
expiry_decimal text n h =
    let value = h.value in
    let small : digits_value 10 text < 2 ^ 64 = omega (arith, value, h.most) in
    let is = decimal-digits_value (numerals_by_value (AllDigits 10) tells_digits) text (all_digits text h.digits.each)
    h.digits.some (λ e. absurd (not_zero text h.first e)) small in
    sym is ∙ ap decimal (sym value)

pub expiry_text : (text other : List ℕ) (n : ℕ) → IsExpiry text n → IsExpiry other n → other ≡ text
expiry_text text other n h k = expiry_decimal other n k ∙ sym (expiry_decimal text n h)

-- ---- the credential

-- the credential's day is the first eight bytes of the date
pub day_taken : (text date key : List ℕ) (scope : CredentialScope) → IsCredential text date key scope
    → scope.date ≡ take 8 date
day_taken text date key scope h =
    (bytes_eq-Decides scope.date (take (length scope.date) date)).0 h.same_day ∙ ap (λ (n : ℕ). take n date) h.day_length

same_scope : (s t : CredentialScope) → t.date ≡ s.date → t.region ≡ s.region → t ≡ s
same_scope s t date region =
    let made : List ℕ → List ℕ → CredentialScope = λ d r. record { date = d; region = r } in
    ap (λ (d : List ℕ). made d t.region) date ∙ ap (λ (r : List ℕ). made s.date r) region

-- so the date and the region determine the scope
pub scope_said : (text other date key id : List ℕ) (s t : CredentialScope) → IsCredential text date key s
    → IsCredential other date id t → t.region ≡ s.region → t ≡ s
scope_said text other date key id s t h k region =
    same_scope s t (day_taken other date id t k ∙ sym (day_taken text date key s h)) region

-- and together with the key id they determine the credential's text
pub credential_text : (text other date key : List ℕ) (s t : CredentialScope) → IsCredential text date key s
    → IsCredential other date key t → t.region ≡ s.region → other ≡ text
credential_text text other date key s t h k region =
    let scope = scope_said text other date key key s t h k region in
    k.joined ∙ ap (λ (x : CredentialScope). key ++ 47 ∷ scope_text x) scope ∙ sym h.joined
