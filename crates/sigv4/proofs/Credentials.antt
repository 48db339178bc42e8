-- A text is at most one credential: a key id, a day and a region contain no slash.
use Rattle.std.proofs.Common.{◌≡◌, ◌≢◌, ℕ, Bool, true, List, [], ◌∷◌, ◌++◌, codes, refl, sym, ap, ◌∙◌, subst, append_assoc, arith, All}
use Rattle.std.specs.Prelude.{IsTrue}
use Rattle.std.specs.List.{list_all}
use Rattle.std.specs.Char.{is_ascii_digit}
use Rattle.std.proofs.lemmas.Bool.{and_parts}
use Rattle.std.proofs.lemmas.Bool.Decides.{nat_tests}
use Rattle.std.proofs.lemmas.List.{append_cancel_right}
use Rattle.std.proofs.lemmas.List.Elements.{All-nil, All-cons, All-head, All-tail}
use Rattle.sigv4.specs.Signature.{CredentialScope, scope_text}
use Rattle.sigv4.specs.Credential.{is_key_byte, IsCredential}

-- the text contains no slash
abbrev pub LacksSlash : List ℕ → Type 0
LacksSlash text = All (λ b. b ≢ 47) text

lacks : (test : ℕ → Bool) → ((b : ℕ) → test b ≡ true → b ≢ 47) → (text : List ℕ) → IsTrue (list_all test text) → LacksSlash text
lacks test apart [] h = All-nil (λ b. b ≢ 47)
lacks test apart (b ∷ text) h =
    let parts = and_parts (test b) (list_all test text) h in
    All-cons (λ x. x ≢ 47) b text (apart b parts.0) (lacks test apart text parts.1)

key_byte_apart : (b : ℕ) → is_key_byte b ≡ true → b ≢ 47
key_byte_apart b h e = grind (arith, nat_tests)

digit_apart : (b : ℕ) → is_ascii_digit b ≡ true → b ≢ 47
digit_apart b h e = grind (arith, nat_tests)

pub key_id_lacks : (text : List ℕ) → IsTrue (list_all is_key_byte text) → LacksSlash text
key_id_lacks = lacks is_key_byte key_byte_apart

pub day_lacks : (text : List ℕ) → IsTrue (list_all is_ascii_digit text) → LacksSlash text
day_lacks = lacks is_ascii_digit digit_apart

-- a text without a slash is not cut at a slash
pub uncut : (text front rest : List ℕ) → LacksSlash text → text ≡ front ++ 47 ∷ rest → ⊥
uncut text [] rest h e = All-head (λ b. b ≢ 47) 47 rest (subst LacksSlash e h) refl
uncut [] (x ∷ front) rest h e = cc
uncut (b ∷ text) (x ∷ front) rest h e = uncut text front rest (All-tail (λ b. b ≢ 47) b text h) (cc)

-- the text before the first slash and the text after it are determined
pub cut_once : (front rest front₂ rest₂ : List ℕ) → front ++ 47 ∷ rest ≡ front₂ ++ 47 ∷ rest₂ → LacksSlash front → LacksSlash front₂ → (front₂ ≡ front) × (rest₂ ≡ rest)
cut_once [] rest [] rest₂ e h h₂ = (refl, cc)
cut_once [] rest (y ∷ front₂) rest₂ e h h₂ = absurd (All-head (λ b. b ≢ 47) y front₂ h₂ cc)
cut_once (x ∷ front) rest [] rest₂ e h h₂ = absurd (All-head (λ b. b ≢ 47) x front h cc)
cut_once (x ∷ front) rest (y ∷ front₂) rest₂ e h h₂ =
    let same = cut_once front rest front₂ rest₂ (cc) (All-tail (λ b. b ≢ 47) x front h) (All-tail (λ b. b ≢ 47) y front₂ h₂) in
    let first : y ≡ x = cc in
    ((rw (first, same.0) refl), same.1)

-- a credential is its key id, its day and its region, separated by slashes, and the fixed end
pub cuts : (key_id : List ℕ) (scope : CredentialScope) → key_id ++ 47 ∷ scope_text scope ≡ (key_id ++ 47 ∷ (scope.date ++ 47 ∷ scope.region)) ++ codes "/s3/aws4_request"
cuts key_id scope = simp append_assoc

-- the parts joined
pub joins : (text front rest key_id : List ℕ) (scope : CredentialScope) → text ≡ front ++ codes "/s3/aws4_request" → front ≡ key_id ++ 47 ∷ rest
    → rest ≡ scope.date ++ 47 ∷ scope.region → text ≡ key_id ++ 47 ∷ scope_text scope
joins text front rest key_id scope e f g = rw (e, f, g) (sym (cuts key_id scope))

-- a text with another end is no credential
pub no_end : (text key_id : List ℕ) (scope : CredentialScope) → ((front : List ℕ) → text ≢ front ++ codes "/s3/aws4_request") → text ≡ key_id ++ 47 ∷ scope_text scope → ⊥
no_end text key_id scope other e = other (key_id ++ 47 ∷ (scope.date ++ 47 ∷ scope.region)) (e ∙ cuts key_id scope)

front_is : (text front key_id : List ℕ) (scope : CredentialScope) → text ≡ front ++ codes "/s3/aws4_request" → text ≡ key_id ++ 47 ∷ scope_text scope
    → front ≡ key_id ++ 47 ∷ (scope.date ++ 47 ∷ scope.region)
front_is text front key_id scope e f = append_cancel_right front _ (codes "/s3/aws4_request") (sym e ∙ f ∙ cuts key_id scope)

-- a text with no slash before the end is no credential
pub no_key_id : (text front key_id : List ℕ) (scope : CredentialScope) → text ≡ front ++ codes "/s3/aws4_request" → LacksSlash front → text ≡ key_id ++ 47 ∷ scope_text scope → ⊥
no_key_id text front key_id scope e h f = uncut front key_id _ h (front_is text front key_id scope e f)

-- a text with a single slash before the end is no credential
pub no_date : (text front first rest key_id : List ℕ) (scope : CredentialScope) → text ≡ front ++ codes "/s3/aws4_request" → front ≡ first ++ 47 ∷ rest
    → LacksSlash first → LacksSlash rest → LacksSlash key_id → text ≡ key_id ++ 47 ∷ scope_text scope → ⊥
no_date text front first rest key_id scope e cut h rest_lacks k f =
    let same = cut_once first rest key_id (scope.date ++ 47 ∷ scope.region) (sym cut ∙ front_is text front key_id scope e f) h k in
    uncut rest scope.date scope.region rest_lacks (sym same.1)

same_scope : (s t : CredentialScope) → t.date ≡ s.date → t.region ≡ s.region → t ≡ s
same_scope s t date region =
    let made : List ℕ → List ℕ → CredentialScope = λ d r. record { date = d; region = r } in
    ap (λ (d : List ℕ). made d t.region) date ∙ ap (λ (r : List ℕ). made s.date r) region

-- the day ends at the first slash, and the region at the fixed end
scope_once : (s t : CredentialScope) → scope_text s ≡ scope_text t → LacksSlash s.date → LacksSlash t.date → t ≡ s
scope_once s t e h h₂ =
    let end = codes "/s3/aws4_request" in
    let cut : s.date ++ 47 ∷ (s.region ++ end) ≡ t.date ++ 47 ∷ (t.region ++ end) =
    sym (append_assoc s.date (47 ∷ s.region) end) ∙ e ∙ append_assoc t.date (47 ∷ t.region) end in
    let parts = cut_once s.date (s.region ++ end) t.date (t.region ++ end) cut h h₂ in
    same_scope s t parts.0 (append_cancel_right t.region s.region end parts.1)

-- the parts of a credential are the parts into which the slashes cut the text
pub same_parts : (text date key other : List ℕ) (s t : CredentialScope) → text ≡ key ++ 47 ∷ scope_text s → LacksSlash key → LacksSlash s.date
    → IsCredential text date other t → (other ≡ key) × (t ≡ s)
same_parts text date key other s t joined h h₂ k =
    let parts = cut_once key (scope_text s) other (scope_text t) (sym joined ∙ k.joined) h (key_id_lacks other k.key_form.each) in
    (parts.0, scope_once s t (sym parts.1) h₂ (day_lacks t.date k.day_digits))

-- so if these parts lack the form, the text is no credential
pub no_form : (text date key other : List ℕ) (s t : CredentialScope) → text ≡ key ++ 47 ∷ scope_text s → LacksSlash key → LacksSlash s.date
    → (IsCredential text date key s → ⊥) → IsCredential text date other t → ⊥
no_form text date key other s t joined h h₂ none k =
    let same = same_parts text date key other s t joined h h₂ k in
    none (subst (λ (x : List ℕ). IsCredential text date x s) same.0 (subst (IsCredential text date other) same.1 k))

-- a text is at most one credential
pub credential_once : (text date key other : List ℕ) (s t : CredentialScope) → IsCredential text date key s → IsCredential text date other t → (other ≡ key) × (t ≡ s)
credential_once text date key other s t h k =
    same_parts text date key other s t h.joined (key_id_lacks key h.key_form.each) (day_lacks s.date h.day_digits) k
