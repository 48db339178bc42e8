-- A stream has at most one front, with one head and one body length.
use Rattle.std.proofs.Common.{◌≡◌, ◌≤◌, ℕ, Bool, List, [], ◌∷◌, ◌++◌, length, take, drop, refl, sym, ap, subst, ◌∙◌, arith, take-append-drop, ⊎_elim}
use Rattle.std.proofs.Math.Seq.{take-append_seam}
use Rattle.std.proofs.lemmas.Bool.{cases_lt}
use Rattle.std.proofs.lemmas.List.{drop_at, take-append-le, append-nil}
use Rattle.std.specs.Str.Parse.{digits_value}
use Rattle.httparse.specs.Grammar.{RequestHead, ReadsRequest}
use Rattle.httparse.proofs.GrammarLemmas.{request_unique}
use Rattle.sigtext.specs.SignedHeaders.{Header}
use Rattle.wire.specs.Framing.{IsFront, headers_of, Announces, nothing, given, HasHead}

shorter_front : (stream a r b q : List ℕ) → IsFront stream a r → IsFront stream b q → length a ≤ length b → a ≡ b
shorter_front stream a r b q f g within =
    let n = length a in
    let same : a ++ r ≡ b ++ q = sym f.whole ∙ g.whole in
    let begins : a ≡ take n b = sym (take-append_seam a r) ∙ ap (take n) same ∙ take-append-le n b q within in
    let split : b ≡ a ++ drop n b = sym (take-append-drop n b) ∙ ap (λ (t : List ℕ). t ++ drop n b) (sym begins) in
    let none : drop n b ≡ [] = g.shortest a (drop n b) split f.ends in
    sym (split ∙ ap (λ (t : List ℕ). a ++ t) none ∙ append-nil a)

pub same_front : (stream a r b q : List ℕ) → IsFront stream a r → IsFront stream b q → a ≡ b
same_front stream a r b q f g =
    ⊎_elim (λ less. shorter_front stream a r b q f g (omega arith)) (λ within. sym (shorter_front stream b q a r g f within)) (cases_lt (length a) (length b))

pub same_rest : (stream a r b q : List ℕ) → IsFront stream a r → IsFront stream b q → r ≡ q
same_rest stream a r b q f g =
    let fronts = same_front stream a r b q f g in
    sym (drop_at a r (length a) refl) ∙ ap (drop (length a)) (sym f.whole ∙ g.whole) ∙ drop_at b q (length a) (ap length (sym fronts))

lengths_alike : (headers : List Header) (b c : Bool) (n m : ℕ) → Announces headers b n → Announces headers c m → n ≡ m
lengths_alike headers _ _ _ _ (nothing none) (nothing again) = refl
lengths_alike headers _ _ _ _ (nothing none) (given h m is form) = let clash : [] ≡ h ∷ [] = sym none ∙ is in absurd cc
lengths_alike headers _ _ _ _ (given h n is form) (nothing none) = let clash : [] ≡ h ∷ [] = sym none ∙ is in absurd cc
lengths_alike headers _ _ _ _ (given h n is form) (given k m too other) =
    let both : h ∷ [] ≡ k ∷ [] = sym is ∙ too in
    let same : h ≡ k = cc in
    form.value ∙ ap (λ (x : Header). digits_value 10 x.value) same ∙ sym other.value

pub same_length : (stream : List ℕ) (p q : RequestHead) (b c : Bool) (n m : ℕ) (r t : List ℕ) → HasHead stream p b n r → HasHead stream q c m t → n ≡ m
same_length stream p q b c n m r t h k =
    let fronts = same_front stream h.front r k.front t h.is_front k.is_front in
    let reads = subst (λ (x : List ℕ). ReadsRequest x p []) fronts h.is_head.reads in
    let heads = (request_unique k.front p q [] [] reads k.is_head.reads).0 in
    lengths_alike (headers_of q) b c n m (subst (λ (x : RequestHead). Announces (headers_of x) b n) heads h.announces) k.announces
