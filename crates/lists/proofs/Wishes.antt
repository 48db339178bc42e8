-- What a record of a list of links says.
use Rattle.std.proofs.Common.{◌≡◌, ℕ, List, [], ◌∷◌, ◌++◌, map, length, get_or, Bor, ap, refl, sym, subst, ◌∙◌, arith}
use Rattle.sigv4.specs.Dates.{WritesMoment}
use Rattle.links.specs.Forms.{IsExpiry}
use Rattle.links.specs.Methods.{method_text}
use Rattle.links.specs.declared.methods.Method.{Method}
use Rattle.lists.specs.Lists.{line}
use Rattle.lists.proofs.RecordFields.{text_at}
use Rattle.lists.specs.LinkLists.{Signing, Wish, IsLinkLine, IsLinkRow, IsLinkText, IsWish}

pub row_method : (texts : List (Bor (List ℕ))) (d : Bor (List ℕ)) → IsLinkRow (map (λ t. t.now) texts) → (m : Method) × ((get_or texts 0 d).now ≡ method_text m)
row_method texts d (w, is) = (w.method, sym (text_at texts _ d 0 is.are))

pub row_start : (texts : List (Bor (List ℕ))) (d : Bor (List ℕ)) → IsLinkRow (map (λ t. t.now) texts) → (m : ℕ) × WritesMoment (get_or texts 3 d).now m
row_start texts d (w, is) = (w.start, subst (λ t. WritesMoment t w.start) (text_at texts _ d 3 is.are) is.is_start)

pub row_expiry : (texts : List (Bor (List ℕ))) (d : Bor (List ℕ)) → IsLinkRow (map (λ t. t.now) texts) → (n : ℕ) × IsExpiry (get_or texts 4 d).now n
row_expiry texts d (w, is) = (w.expires, subst (λ t. IsExpiry t w.expires) (text_at texts _ d 4 is.are) is.is_expires)

-- a list of five texts is made of the texts at its places
pub five_texts : (ts : List (Bor (List ℕ))) (d : Bor (List ℕ)) → length ts ≡ 5
    → map (λ t. t.now) ts ≡ (get_or ts 0 d).now ∷ (get_or ts 1 d).now ∷ (get_or ts 2 d).now ∷ (get_or ts 3 d).now ∷ (get_or ts 4 d).now ∷ []
five_texts [] o long = absurd (omega (arith, long))
five_texts (a ∷ []) o long = absurd (omega (arith, long))
five_texts (a ∷ b ∷ []) o long = absurd (omega (arith, long))
five_texts (a ∷ b ∷ c ∷ []) o long = absurd (omega (arith, long))
five_texts (a ∷ b ∷ c ∷ d ∷ []) o long = absurd (omega (arith, long))
five_texts (a ∷ b ∷ c ∷ d ∷ e ∷ []) o long = refl
five_texts (a ∷ b ∷ c ∷ d ∷ e ∷ f ∷ ts) o long = absurd (omega (arith, long))

-- the texts of a wish, whose first is the method's
pub wish_texts : (texts : List (Bor (List ℕ))) (d : Bor (List ℕ)) (method : List ℕ) → length texts ≡ 5 → (get_or texts 0 d).now ≡ method
    → map (λ t. t.now) texts ≡ method ∷ (get_or texts 1 d).now ∷ (get_or texts 2 d).now ∷ (get_or texts 3 d).now ∷ (get_or texts 4 d).now ∷ []
wish_texts texts d method long is =
    five_texts texts d long ∙ ap (λ t. t ∷ (get_or texts 1 d).now ∷ (get_or texts 2 d).now ∷ (get_or texts 3 d).now ∷ (get_or texts 4 d).now ∷ []) is

-- the five texts and the link are the line that answers the record
pub wish_line : (g : Signing) (w : Wish) (texts : List (Bor (List ℕ))) (d : Bor (List ℕ)) (fields : List (List ℕ)) (link last text : List ℕ) → length texts ≡ 5 → map (λ t. t.now) texts ≡ fields
    → IsWish (map (λ t. t.now) texts) w → IsLinkText g w link → last ≡ link
    → text ≡ line ((get_or texts 0 d).now ∷ (get_or texts 1 d).now ∷ (get_or texts 2 d).now ∷ (get_or texts 3 d).now ∷ (get_or texts 4 d).now ∷ last ∷ []) → IsLinkLine g fields text
wish_line g w texts d fields link last text long read is (target, leads, whole) linked told = (
  w,
  target,
  subst (λ fs. IsWish fs w) read is,
  leads,
  told ∙ ap (λ fs. line (fs ++ last ∷ [])) (sym (five_texts texts d long) ∙ read) ∙ ap (λ t. line (fields ++ t ∷ [])) (linked ∙ whole),
)
