-- Lists in portions.
use Rattle.std.proofs.Common.{◌≡◌, ◌∙◌, ℕ, ◌+◌, ◌-◌, ◌≤◌, List, [], ◌∷◌, ◌++◌, ◌<◌, ◌⊎◌, inl, inr, min, length, take, drop, zero, suc, refl, sym, ap, subst, arith}
use Rattle.std.specs.List.{AllByRecursion}
use Rattle.std.proofs.lemmas.List.{take_all}
use Rattle.std.proofs.lemmas.Bool.{cases_lt}
use Rattle.boxes.specs.Rows.{numbered, receipts_from}
use Rattle.boxes.specs.Sound.{IsMoment, IsReceipt, IsSound}
use Rattle.boxes.specs.State.{Receipt, State}
use Rattle.lists.specs.Lists.{AreLines}
use Rattle.lists.specs.Manifests.{HasMoment, IsReceiptLine}
use Rattle.lists.proofs.AnsweredLists.{lines_joined}

pub all_take : {X : Type 0} (P : X → Type 0) (n : ℕ) (xs : List X) → AllByRecursion P xs → AllByRecursion P (take n xs)
all_take P zero xs all = tt
all_take P (suc n) [] all = tt
all_take P (suc n) (x ∷ xs) all = (all.0, all_take P n xs all.1)

pub all_drop : {X : Type 0} (P : X → Type 0) (n : ℕ) (xs : List X) → AllByRecursion P xs → AllByRecursion P (drop n xs)
all_drop P zero xs all = all
all_drop P (suc n) [] all = tt
all_drop P (suc n) (x ∷ xs) all = all_drop P n xs all.1

pub all_numbered : (P Q : Receipt → Type 0) → ((r : Receipt) → P r → Q r) → (n : ℕ) (rs : List Receipt) → AllByRecursion P rs → AllByRecursion (λ (p : ℕ × Receipt). Q p.1) (numbered n rs)
all_numbered P Q gives n [] all = tt
all_numbered P Q gives n (r ∷ rs) all = (gives r all.0, all_numbered P Q gives (n + 1) rs all.1)

pub length-numbered : (n : ℕ) (rs : List Receipt) → length (numbered n rs) ≡ length rs
length-numbered n [] = refl
length-numbered n (r ∷ rs) = ap suc (length-numbered (n + 1) rs)

none : {X : Type 0} (k : ℕ) → ◌≡◌ {A = List X} (take k []) []
none zero = refl
none (suc k) = refl

-- a front and the portion after it make a longer front
pub take_portion : {X : Type 0} (n m : ℕ) (xs : List X) → take n xs ++ take m (drop n xs) ≡ take (n + m) xs
take_portion zero m xs = ap (λ k. take k xs) zero_more
  where
    zero_more : m ≡ 0 + m
    zero_more = omega arith
take_portion {X} (suc n) m [] = none m ∙ sym (none (suc n + m))
take_portion (suc n) m (x ∷ xs) = ap (λ t. x ∷ t) (take_portion n m xs) ∙ ap (λ k. take k (x ∷ xs)) one_more
  where
    one_more : suc (n + m) ≡ suc n + m
    one_more = omega arith

-- fronts that both are the whole list
pub take_whole : {X : Type 0} (n m : ℕ) (xs : List X) → length xs ≤ n → length xs ≤ m → take n xs ≡ take m xs
take_whole n m xs a b = take_all n xs a ∙ sym (take_all m xs b)

-- the receipts of a portion have moments
pub portion_moments : (s : State) (from most : ℕ) (rows : List (ℕ × Receipt)) → IsSound s → rows ≡ receipts_from s from most → AllByRecursion HasMoment rows
portion_moments s from most rows sound are =
    let all = all_numbered (IsReceipt s) (λ r. IsMoment r.moment) (λ r is. is.moment) 1 s.receipts sound.receipts in
    subst (AllByRecursion HasMoment) (sym are) (all_take HasMoment most _ (all_drop HasMoment (from - 1) _ all))

-- the lines of a portion, appended to those of the receipts before it
pub behind_portion : (s : State) (from most : ℕ) (rows : List (ℕ × Receipt)) (text more : List ℕ) → rows ≡ receipts_from s from most
    → AreLines IsReceiptLine (take (from - 1) (numbered 1 s.receipts)) text → AreLines IsReceiptLine rows more
    → AreLines IsReceiptLine (take (from - 1 + most) (numbered 1 s.receipts)) (text ++ more)
behind_portion s from most rows text more are before lines =
    let ns = numbered 1 s.receipts in
    let joined : take (from - 1) ns ++ rows ≡ take (from - 1 + most) ns = ap (λ r. take (from - 1) ns ++ r) are ∙ take_portion (from - 1) most ns in
    subst (λ xs. AreLines IsReceiptLine xs (text ++ more)) joined (lines_joined IsReceiptLine (take (from - 1) ns) rows text more before lines)

-- the front up to the next portion, even if that would begin past the last number
pub front_behind : (s : State) (from most to : ℕ) → 1 ≤ from → most ≡ 256 → to ≡ min (from + most) 18446744073709551615 → length s.receipts + 1 < 18446744073709551616
    → take (from - 1 + most) (numbered 1 s.receipts) ≡ take (to - 1) (numbered 1 s.receipts)
front_behind s from most to first is next short = go (cases_lt (from + most) 18446744073709551616)
  where
    ns : List (ℕ × Receipt)
    ns = numbered 1 s.receipts

    go : (from + most < 18446744073709551616) ⊎ (18446744073709551616 ≤ from + most) → take (from - 1 + most) ns ≡ take (to - 1) ns
    go (inl lt) = ap (λ k. take k ns) (omega (arith, first, is, next, lt))
    go (inr ge) = take_whole (from - 1 + most) (to - 1) ns (omega (arith, length-numbered 1 s.receipts, first, ge, short)) (omega (arith, length-numbered 1 s.receipts, next, ge, short))
