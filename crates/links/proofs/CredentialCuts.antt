-- The positions of the parts of a credential, given the length of its key id.
use Rattle.std.proofs.Common.{◌≡◌, ℕ, ◌+◌, ◌≤◌, List, [], ◌∷◌, ◌++◌, codes, length, take, drop, ap, sym, ◌∙◌, arith, append_assoc, length-append}
use Rattle.std.proofs.Math.Seq.{drop-append_seam, take-append_seam}
use Rattle.sigv4.specs.Credential.{IsCredential}
use Rattle.sigv4.specs.Signature.{CredentialScope, scope_text}

abbrev pub scope_with : List ℕ → List ℕ → CredentialScope
scope_with date region = record { date = date; region = region }

abbrev fixed_end : List ℕ
fixed_end = codes "/s3/aws4_request"

-- what follows the key id, with the day first
abbrev behind_key_id : CredentialScope → List ℕ
behind_key_id scope = 47 ∷ (scope.date ++ 47 ∷ (scope.region ++ fixed_end))

day_first : (scope : CredentialScope) → 47 ∷ scope_text scope ≡ behind_key_id scope
day_first scope = ap (λ (t : List ℕ). 47 ∷ t) (append_assoc scope.date (47 ∷ scope.region) fixed_end)

length_behind : (scope : CredentialScope) → length scope.date ≡ 8 → length (behind_key_id scope) ≡ length scope.region + 26
length_behind scope day = omega (arith, day, length-append scope.date (47 ∷ (scope.region ++ fixed_end)), length-append scope.region fixed_end)

joined : (text date key_id : List ℕ) (scope : CredentialScope) → IsCredential text date key_id scope → text ≡ key_id ++ behind_key_id scope
joined text date key_id scope is = is.joined ∙ ap (λ (t : List ℕ). key_id ++ t) (day_first scope)

-- a slash, the day, a slash and the fixed end follow the key id
pub scope_fits : (text date key_id : List ℕ) (scope : CredentialScope) (n : ℕ) → IsCredential text date key_id scope → length key_id ≡ n → n + 26 ≤ length text
scope_fits text date key_id scope n is long =
    omega (arith, long, ap length (joined text date key_id scope is), length-append key_id (behind_key_id scope), length_behind scope is.day_length)

pub key_id_cut : (text date key_id : List ℕ) (scope : CredentialScope) (n : ℕ) → IsCredential text date key_id scope → length key_id ≡ n → take n text ≡ key_id
key_id_cut text date key_id scope n is long =
    ap (λ (k : ℕ). take k text) (sym long) ∙ ap (take (length key_id)) (joined text date key_id scope is) ∙ take-append_seam key_id (behind_key_id scope)

rest_cut : (text date key_id : List ℕ) (scope : CredentialScope) (n : ℕ) → IsCredential text date key_id scope → length key_id ≡ n → drop n text ≡ behind_key_id scope
rest_cut text date key_id scope n is long =
    ap (λ (k : ℕ). drop k text) (sym long) ∙ ap (drop (length key_id)) (joined text date key_id scope is) ∙ drop-append_seam key_id (behind_key_id scope)

day_cut : (scope : CredentialScope) → length scope.date ≡ 8 → take 8 (drop 1 (behind_key_id scope)) ≡ scope.date
day_cut scope day =
    let text = scope.date ++ 47 ∷ (scope.region ++ fixed_end) in
    ap (λ (k : ℕ). take k text) (sym day) ∙ take-append_seam scope.date (47 ∷ (scope.region ++ fixed_end))

behind_day : (scope : CredentialScope) → length scope.date ≡ 8 → drop 10 (behind_key_id scope) ≡ scope.region ++ fixed_end
behind_day scope day =
    let front = 47 ∷ (scope.date ++ 47 ∷ []) in
    let end = scope.region ++ fixed_end in
    let long : length front ≡ 10 = omega (arith, day, length-append scope.date (47 ∷ [])) in
    ap (λ (k : ℕ). drop k (behind_key_id scope)) (sym long)
    ∙ ap (λ (t : List ℕ). drop (length front) (47 ∷ t)) (sym (append_assoc scope.date (47 ∷ []) end))
    ∙ drop-append_seam front end

region_cut : (scope : CredentialScope) (n : ℕ) → length scope.date ≡ 8 → n + 26 ≡ length (behind_key_id scope) → take n (drop 10 (behind_key_id scope)) ≡ scope.region
region_cut scope n day is =
    let long : n ≡ length scope.region = omega (arith, is, length_behind scope day) in
    ap (λ (k : ℕ). take k (drop 10 (behind_key_id scope))) long ∙ ap (take (length scope.region)) (behind_day scope day) ∙ take-append_seam scope.region fixed_end

-- the day and the region at these positions are those of the scope
pub scope_cut : (text date key_id : List ℕ) (scope : CredentialScope) (rest : List ℕ) (k n : ℕ) → IsCredential text date key_id scope → length key_id ≡ k → rest ≡ drop k text → n + 26 ≡ length rest
    → scope_with (take 8 (drop 1 rest)) (take n (drop 10 rest)) ≡ scope
scope_cut text date key_id scope rest k n is long stands left =
    let all = stands ∙ rest_cut text date key_id scope k is long in
    let day = ap (λ (t : List ℕ). take 8 (drop 1 t)) all ∙ day_cut scope is.day_length in
    let region = ap (λ (t : List ℕ). take n (drop 10 t)) all ∙ region_cut scope n is.day_length (left ∙ ap length all) in
    ap (λ (d : List ℕ). scope_with d (take n (drop 10 rest))) day ∙ ap (scope_with scope.date) region
