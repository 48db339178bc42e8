-- The seven texts of a manifest's record, and the line that answers it.
use Rattle.std.proofs.Common.{◌≡◌, ◌∙◌, ◌≤◌, ℕ, List, [], ◌∷◌, map, length, get_or, Bor, refl, subst, sym, arith}
use Rattle.links.specs.CommandTexts.{IsNumber}
use Rattle.links.specs.Forms.{IsHexDigest}
use Rattle.lists.specs.Lists.{line}
use Rattle.lists.specs.Manifests.{IsManifestRow}
use Rattle.lists.proofs.RecordFields.{text_at}

-- a list of seven texts is made of the texts at its places
pub seven_texts : (ts : List (Bor (List ℕ))) (d : Bor (List ℕ)) → length ts ≡ 7
    → map (λ t. t.now) ts ≡ (get_or ts 0 d).now ∷ (get_or ts 1 d).now ∷ (get_or ts 2 d).now ∷ (get_or ts 3 d).now ∷ (get_or ts 4 d).now ∷ (get_or ts 5 d).now ∷ (get_or ts 6 d).now ∷ []
seven_texts [] o long = absurd (omega (arith, long))
seven_texts (a ∷ []) o long = absurd (omega (arith, long))
seven_texts (a ∷ b ∷ []) o long = absurd (omega (arith, long))
seven_texts (a ∷ b ∷ c ∷ []) o long = absurd (omega (arith, long))
seven_texts (a ∷ b ∷ c ∷ d ∷ []) o long = absurd (omega (arith, long))
seven_texts (a ∷ b ∷ c ∷ d ∷ e ∷ []) o long = absurd (omega (arith, long))
seven_texts (a ∷ b ∷ c ∷ d ∷ e ∷ f ∷ []) o long = absurd (omega (arith, long))
seven_texts (a ∷ b ∷ c ∷ d ∷ e ∷ f ∷ g ∷ []) o long = refl
seven_texts (a ∷ b ∷ c ∷ d ∷ e ∷ f ∷ g ∷ h ∷ ts) o long = absurd (omega (arith, long))

-- a line of four texts, with equal texts put in for the first and the last
pub told_line : (text number said box name word told : List ℕ) → text ≡ line (number ∷ box ∷ name ∷ word ∷ []) → said ≡ number → word ≡ told
    → text ≡ line (said ∷ box ∷ name ∷ told ∷ [])
told_line text number said box name word told is same tells = is ∙ (λ i. line (sym same i ∷ box ∷ name ∷ tells i ∷ []))

-- ---- what the texts of a manifest's record say

pub row_number : (texts : List (Bor (List ℕ))) (d : Bor (List ℕ)) (fields : List (List ℕ)) → map (λ t. t.now) texts ≡ fields → IsManifestRow fields → (n : ℕ) × IsNumber (get_or texts 0 d).now n × (1 ≤ n)
row_number texts d fields read (e, is) = (e.number, subst (λ t. IsNumber t e.number) (text_at texts _ d 0 (read ∙ is.are)) is.is_number, is.numbers)

pub row_size : (texts : List (Bor (List ℕ))) (d : Bor (List ℕ)) (fields : List (List ℕ)) → map (λ t. t.now) texts ≡ fields → IsManifestRow fields → (n : ℕ) × IsNumber (get_or texts 3 d).now n
row_size texts d fields read (e, is) = (e.size, subst (λ t. IsNumber t e.size) (text_at texts _ d 3 (read ∙ is.are)) is.is_size)

pub row_digest : (texts : List (Bor (List ℕ))) (d : Bor (List ℕ)) (fields : List (List ℕ)) → map (λ t. t.now) texts ≡ fields → IsManifestRow fields → IsHexDigest (get_or texts 4 d).now
row_digest texts d fields read (e, is) = subst IsHexDigest (text_at texts _ d 4 (read ∙ is.are)) is.is_digest

pub row_short : (texts : List (Bor (List ℕ))) (d : Bor (List ℕ)) (fields : List (List ℕ)) → map (λ t. t.now) texts ≡ fields → IsManifestRow fields
    → (length (get_or texts 0 d).now ≤ 10) × (length (get_or texts 3 d).now ≤ 7)
row_short texts d fields read (e, is) = (subst (λ t. length t ≤ 10) (text_at texts _ d 0 (read ∙ is.are)) is.ten, subst (λ t. length t ≤ 7) (text_at texts _ d 3 (read ∙ is.are)) is.seven)

-- a text is the text of one number
pub one_number : (text : List ℕ) (m n : ℕ) → IsNumber text m → IsNumber text n → m ≡ n
one_number text m n is_m is_n = is_m.value ∙ sym is_n.value
