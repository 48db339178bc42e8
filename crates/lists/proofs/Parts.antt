-- Parts of names.
use Rattle.std.proofs.Common.{◌≡◌, ◌∙◌, ℕ, suc, ◌+◌, ◌-◌, ◌<◌, ◌≤◌, List, [], ◌∷◌, ◌++◌, length, take, drop, get_or, sym, ap, subst, arith, inr, ⊎_elim, eqb-true, eq-eqb, add-one, take-append-drop, length-drop, length-append, drop-cons}
use Rattle.std.proofs.lemmas.Bool.{cases_lt}
use Rattle.std.proofs.lemmas.List.{take_all, get_or_append_left, get_or_push, get_or-drop}
use Rattle.memchr.specs.Find.{NoneAfter, Passes, is_byte}
use Rattle.lists.specs.Names.{AreCleaned, IsLastPart, MayStand}

behind : (name : List ℕ) (i : ℕ) → i < length name → get_or name i 0 ≡ 47 → name ≡ take i name ++ 47 ∷ drop (i + 1) name
behind name i h e =
    let at : drop i name ≡ 47 ∷ drop (suc i) name = drop-cons name i 0 h ∙ (λ k. e k ∷ drop (suc i) name) in
    sym (take-append-drop i name) ∙ ap (λ t. take i name ++ t) (subst (λ n. drop i name ≡ 47 ∷ drop n name) (sym (add-one i)) at)

-- the part after the last slash
pub last_behind : (name : List ℕ) (i : ℕ) → NoneAfter (Passes (is_byte 47) name) 0 (length name) i → Passes (is_byte 47) name i
    → IsLastPart name (take (length name - (i + 1)) (drop (i + 1) name))
last_behind name i after is =
    let whole = take_all (length name - (i + 1)) (drop (i + 1) name) (omega (arith, length-drop (i + 1) name)) in
    subst (IsLastPart name) (sym whole) (record {
      before = take i name;
      cut = inr (behind name i after.high (eqb-true _ _ is));
      no_slash = λ k h e.
          after.after (i + 1 + k) (omega arith) (omega (arith, length-drop (i + 1) name)) (eq-eqb _ _ (sym (get_or-drop (i + 1) name k 0) ∙ e));
    })

-- one byte more
pub cleaned_more : (front part : List ℕ) (n b : ℕ) → AreCleaned front part → length part ≡ n → n < length front
    → (MayStand front n → b ≡ get_or front n 0) → ((MayStand front n → ⊥) → b ≡ 95) → AreCleaned front (part ++ b ∷ [])
cleaned_more front part n b are long inside kept other = record {
  size = omega (arith, size);
  kept = λ i h may. ⊎_elim
      (λ (low : i < length part). get_or_append_left part (b ∷ []) 0 i low ∙ are.kept i low may)
      (λ (high : length part ≤ i).
      let last : n ≡ i = omega (arith, size) in
      get_or_push part b 0 i (long ∙ last) ∙ subst (λ k. MayStand front k → b ≡ get_or front k 0) last kept may)
      (cases_lt i (length part));
  other = λ i h no. ⊎_elim
      (λ (low : i < length part). get_or_append_left part (b ∷ []) 0 i low ∙ are.other i low no)
      (λ (high : length part ≤ i).
      let last : n ≡ i = omega (arith, size) in
      get_or_push part b 0 i (long ∙ last) ∙ subst (λ k. (MayStand front k → ⊥) → b ≡ 95) last other no)
      (cases_lt i (length part));
}
  where
    size : length (part ++ b ∷ []) ≡ length part + 1
    size = length-append part (b ∷ [])
