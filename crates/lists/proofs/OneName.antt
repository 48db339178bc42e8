-- A number and a name have only one exported name.
use Rattle.std.proofs.Common.{◌≡◌, ◌≢◌, ◌∙◌, ℕ, ◌<◌, ◌≤◌, Bool, true, false, List, [], ◌∷◌, ◌++◌, length, take, get_or, refl, sym, ap, subst, arith, inl, inr, ⊎_elim, length-append}
use Rattle.std.specs.Prelude.{◌⊎◌}
use Rattle.std.specs.Str.{IsUtf8, is_utf8}
use Rattle.std.proofs.lemmas.Bool.{cases_lt}
use Rattle.std.proofs.lemmas.List.{ext_get_or, get_or_at}
use Rattle.std.proofs.lemmas.Str.{IsUtf8-from_is_utf8, is_utf8-from_IsUtf8}
use Rattle.std.specs.Fmt.{decimal}
use Rattle.lists.specs.Names.{AreCharacters, AreCleaned, IsExportName, IsFront, IsLastPart, IsPart, MayStand}

abbrev Slashless : List ℕ → Type 0
Slashless text = (i : ℕ) → i < length text → get_or text i 0 ≢ 47

no_cut : (a p q : List ℕ) → Slashless q → q ≡ a ++ 47 ∷ p → ⊥
no_cut a p q none e =
    let size = ap length e ∙ length-append a (47 ∷ p) in
    none (length a) (omega (arith, size)) (ap (λ (t : List ℕ). get_or t (length a) 0) e ∙ get_or_at a 47 p 0 (length a) refl)

two_cuts : (a b p q : List ℕ) → Slashless p → Slashless q → a ++ 47 ∷ p ≡ b ++ 47 ∷ q → p ≡ q
two_cuts [] [] p q n m e = cc
two_cuts [] (y ∷ b) p q n m e = let is : p ≡ b ++ 47 ∷ q = cc in absurd (no_cut b q p n is)
two_cuts (x ∷ a) [] p q n m e = let is : q ≡ a ++ 47 ∷ p = cc in absurd (no_cut a p q m is)
two_cuts (x ∷ a) (y ∷ b) p q n m e = let is : a ++ 47 ∷ p ≡ b ++ 47 ∷ q = cc in two_cuts a b p q n m is

last_once : (name p q : List ℕ) → IsLastPart name p → IsLastPart name q → p ≡ q
last_once name p q a b = go a.cut b.cut
  where
    go : (name ≡ p) ⊎ (name ≡ a.before ++ 47 ∷ p) → (name ≡ q) ⊎ (name ≡ b.before ++ 47 ∷ q) → p ≡ q
    go (inl e) (inl f) = sym e ∙ f
    go (inl e) (inr f) = absurd (no_cut b.before q p a.no_slash (sym e ∙ f))
    go (inr e) (inl f) = absurd (no_cut a.before p q b.no_slash (sym f ∙ e))
    go (inr e) (inr f) = two_cuts a.before b.before p q a.no_slash b.no_slash (sym e ∙ f)

characters_once : (n : ℕ) (text f g : List ℕ) → AreCharacters n text f → AreCharacters n text g → f ≡ g
characters_once n text f g a b = ⊎_elim
    (λ (less : a.size < b.size). absurd (a.most b.size less b.short b.whole))
    (λ (some : b.size ≤ a.size). ⊎_elim
    (λ (more : b.size < a.size). absurd (b.most a.size more a.short a.whole))
    (λ (few : a.size ≤ b.size). let same : a.size ≡ b.size = omega arith in a.is ∙ ap (λ (k : ℕ). take k text) same ∙ sym b.is)
    (cases_lt b.size a.size))
    (cases_lt a.size b.size)

front_once : (part f g : List ℕ) → IsFront part f → IsFront part g → f ≡ g
front_once part f g a b = go (is_utf8 part) refl
  where
    no_text : is_utf8 part ≡ false → IsUtf8 part → ⊥
    no_text e u = let is = is_utf8-from_IsUtf8 part u in cc

    go : (t : Bool) → is_utf8 part ≡ t → f ≡ g
    go true e = let u = IsUtf8-from_is_utf8 part e in characters_once 200 part f g (a.text u) (b.text u)
    go false e = a.other (no_text e) ∙ sym (b.other (no_text e))

not_apart : (x y : ℕ) → ((x ≡ y → ⊥) → ⊥) → x ≡ y
not_apart x y never = ⊎_elim
    (λ (less : x < y). absurd (never (λ e. omega (arith, e, less))))
    (λ (some : y ≤ x). ⊎_elim
    (λ (more : y < x). absurd (never (λ e. omega (arith, e, more))))
    (λ (few : x ≤ y). omega arith)
    (cases_lt y x))
    (cases_lt x y)

cleaned_once : (front p q : List ℕ) → AreCleaned front p → AreCleaned front q → (i : ℕ) → i < length p → i < length q → get_or p i 0 ≡ get_or q i 0
cleaned_once front p q a b i h k = not_apart (get_or p i 0) (get_or q i 0) (λ apart.
    let out : MayStand front i → ⊥ = λ may. apart (a.kept i h may ∙ sym (b.kept i k may)) in
    apart (a.other i h out ∙ sym (b.other i k out)))

part_once : (front p q : List ℕ) → IsPart front p → IsPart front q → p ≡ q
part_once front p q a b = ⊎_elim
    (λ (some : 0 < length front).
    let (first, long) = a.some some in
    let (second, wide) = b.some some in
    ext_get_or 0 p q (long ∙ sym wide) (λ i h. cleaned_once front p q first second i h (omega (arith, h, long, wide))))
    (λ (none : length front ≤ 0). let empty : length front ≡ 0 = omega arith in a.none empty ∙ sym (b.none empty))
    (cases_lt 0 (length front))

pub name_once : (n : ℕ) (name text other : List ℕ) → IsExportName n name text → IsExportName n name other → text ≡ other
name_once n name text other a b =
    let last = last_once name a.last b.last a.is_last b.is_last in
    let front = front_once b.last a.front b.front (subst (λ (l : List ℕ). IsFront l a.front) last a.is_front) b.is_front in
    let part = part_once b.front a.part b.part (subst (λ (f : List ℕ). IsPart f a.part) front a.is_part) b.is_part in
    a.is ∙ ap (λ (p : List ℕ). decimal n ++ 45 ∷ p) part ∙ sym b.is
