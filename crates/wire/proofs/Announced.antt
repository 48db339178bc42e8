-- What fields announce, and why they may announce nothing.
use Rattle.std.proofs.Common.{◌≡◌, ℕ, Bool, true, false, List, [], ◌∷◌, codes, sym, ap, subst, ◌∙◌}
use Rattle.httparse.specs.Grammar.{RequestHead}
use Rattle.sigtext.specs.declared.refusal.Refusal.{Refusal}
use Rattle.sigtext.specs.SignedHeaders.{Header, named}
use Rattle.wire.specs.Framing.{Announces, IsHead, IsLength, headers_of}
use Rattle.wire.specs.Framing as framing
use Rattle.wire.specs.Judging.{Breaks, FieldsBreak}
use Rattle.wire.specs.Judging as breaks

pub no_single : (headers : List Header) → (named (codes "content-length") headers ≡ [] → ⊥) → ((h : Header) → named (codes "content-length") headers ≡ h ∷ [] → ⊥)
    → (has_length : Bool) (n : ℕ) → Announces headers has_length n → ⊥
no_single headers some one has_length n (framing.nothing none) = some none
no_single headers some one has_length n (framing.given h _ single is) = one h single

apart : (k : Header) → (k ∷ []) ≡ [] → ⊥
apart k e = cc

same : (k h : Header) → (k ∷ []) ≡ (h ∷ []) → k ≡ h
same k h e = cc

pub no_form : (headers : List Header) (h : Header) → named (codes "content-length") headers ≡ h ∷ [] → ((n : ℕ) → IsLength h.value n → ⊥)
    → (has_length : Bool) (n : ℕ) → Announces headers has_length n → ⊥
no_form headers h one bad has_length n (framing.nothing none) = apart h (sym one ∙ none)
no_form headers h one bad has_length n (framing.given k _ single is) = bad n (subst (λ (x : Header). IsLength x.value n) (same k h (sym single ∙ one)) is)

pub fields_break : (text : List ℕ) (head : RequestHead) (headers : List Header) (r : Refusal) → IsHead text head → headers ≡ headers_of head → FieldsBreak headers r → Breaks text r
fields_break text head headers r h e (breaks.by_coding coded) = breaks.coded head h (subst framing.IsCoded e coded)
fields_break text head headers r h e (breaks.by_form uncoded none) =
    breaks.no_length head h (ap (named (codes "transfer-encoding")) (sym e) ∙ uncoded) (λ has_length n a. none has_length n (subst (λ (hs : List Header). Announces hs has_length n) (sym e) a))
fields_break text head headers r h e (breaks.by_size n uncoded announces large) =
    breaks.too_large head n (record { is_head = h; uncoded = ap (named (codes "transfer-encoding")) (sym e) ∙ uncoded; announces = subst (λ (hs : List Header). Announces hs true n) e announces }) large

pub different : (b : Bool) → b ≡ true → b ≡ false → ⊥
different b p q = cc
