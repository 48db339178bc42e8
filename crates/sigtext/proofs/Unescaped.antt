-- Texts with nothing to decode or encode.
use Rattle.std.proofs.Common.{◌≡◌, ◌<◌, ℕ, Bool, true, false, not, nat_eq, List, [], ◌∷◌, length, get_or, ◌∙◌, ◌&&◌, refl, ap, sym, subst, arith, All}
use Rattle.std.specs.Prelude.{IsTrue, Option, None, Some, is_none}
use Rattle.std.specs.List.{list_all, list_any}
use Rattle.std.proofs.lemmas.Bool.{and_parts, eqb-true, eqb-false, eq-eqb, false≢true, false_from_ne_true, not-false, or_parts}
use Rattle.std.proofs.lemmas.List.Elements.{All-from_get_or, All-head, All-tail}
use Rattle.std.proofs.lemmas.List.Folds.{list_any_none, list_any_at}
use Rattle.memchr.specs.Find.{IsFirstByte, Nowhere, Passes, is_byte}
use Rattle.percent_encoding.specs.AsciiSet.{should_percent_encode}
use Rattle.percent_encoding.specs.declared.ascii_set.AsciiSet.{AsciiSet}
use Rattle.percent_encoding.specs.Percent.{percent_decode}
use Rattle.percent_encoding.proofs.PercentLemmas.{percent_decode-nil, percent_decode_not_percent}
use Rattle.sigtext.specs.declared.encode.Slash.TheVariants.{Encoded}
use Rattle.sigtext.specs.UriEncode.{stays, uri_encoded, EscapesTheRest}
use Rattle.sigtext.proofs.PlainTexts.{encoded_plain}

-- a text with no `%` decodes to itself
pub decodes_to_itself : (text : List ℕ) → list_any (λ b. nat_eq b 37) text ≡ false → percent_decode text ≡ text
decodes_to_itself [] none = percent_decode-nil
decodes_to_itself (b ∷ text) none =
    let parts = or_parts (nat_eq b 37) (list_any (λ c. nat_eq c 37) text) none in
    percent_decode_not_percent b text (eqb-false b 37 parts.0) ∙ ap (λ (t : List ℕ). b ∷ t) (decodes_to_itself text parts.1)

-- so does a text in which a search for `%` finds nothing
pub searched_through : (text : List ℕ) → Nowhere (Passes (is_byte 37) text) 0 (length text) → percent_decode text ≡ text
searched_through text none =
    let each = All-from_get_or (λ b. nat_eq b 37 ≡ false) text 0 (λ i within. false_from_ne_true (nat_eq (get_or text i 0) 37) (none i (omega arith) within)) in
    decodes_to_itself text (list_any_none (λ b. nat_eq b 37) text each)

-- a text of bytes that are kept decodes to itself
stays_decoded : (text : List ℕ) → IsTrue (list_all (stays Encoded) text) → percent_decode text ≡ text
stays_decoded [] all = percent_decode-nil
stays_decoded (b ∷ text) all =
    let parts = and_parts (stays Encoded b) (list_all (stays Encoded) text) all in
    percent_decode_not_percent b text (λ e. false≢true (subst (λ c. stays Encoded c ≡ true) e parts.0)) ∙ ap (λ (t : List ℕ). b ∷ t) (stays_decoded text parts.1)

-- if no byte is escaped, all are kept
all_stay : (set : AsciiSet) → EscapesTheRest Encoded set → (text : List ℕ) → All (λ b. b < 256) text → list_any (should_percent_encode set) text ≡ false
    → IsTrue (list_all (stays Encoded) text)
unfolding EscapesTheRest
all_stay set escapes [] small none = refl
all_stay set escapes (b ∷ text) small none =
    let parts = or_parts (should_percent_encode set b) (list_any (should_percent_encode set) text) none in
    let one = not-false (stays Encoded b) (sym (escapes b (All-head (λ c. c < 256) b text small)) ∙ parts.0) in
    ap (λ (x : Bool). x && list_all (stays Encoded) text) one ∙ all_stay set escapes text (All-tail (λ c. c < 256) b text small) parts.1

-- then decoding and encoding give it back
pub recoded_plain : (set : AsciiSet) → EscapesTheRest Encoded set → (text : List ℕ) → All (λ b. b < 256) text → list_any (should_percent_encode set) text ≡ false
    → uri_encoded Encoded (percent_decode text) ≡ text
recoded_plain set escapes text small none =
    let all = all_stay set escapes text small none in
    ap (uri_encoded Encoded) (stays_decoded text all) ∙ encoded_plain Encoded text all

-- whether a search for a byte finds nothing
pub is_absent : (b : ℕ) (text : List ℕ) (r : Option ℕ) → IsFirstByte (is_byte b) text r → is_none r ≡ not (list_any (λ x. nat_eq b x) text)
is_absent b text None none =
    let each = All-from_get_or (λ x. nat_eq b x ≡ false) text 0 (λ i within. false_from_ne_true (nat_eq b (get_or text i 0)) (λ e. none i (omega arith) within (eq-eqb (get_or text i 0) b (sym (eqb-true b (get_or text i 0) e))))) in
    sym (ap not (list_any_none (λ x. nat_eq b x) text each))
is_absent b text (Some i) (before, is) =
    sym (ap not (list_any_at (λ x. nat_eq b x) text i 0 before.high (eq-eqb b (get_or text i 0) (sym (eqb-true (get_or text i 0) b is)))))
