-- Decoding a text gives bytes exactly if the text spells them.
use Rattle.std.proofs.Common.{◌≡◌, ℕ, ◌+◌, ◌*◌, ◌<◌, Bool, true, false, cond, ◌&&◌, leb, List, [], ◌∷◌, ◌++◌, length, get_or, drop, Option, Some, None, refl, sym, ap, subst, ◌∙◌, inl, inr, ⊎_elim, arith}
use Rattle.std.specs.Prelude.{option_map, is_some, ◌⊎◌}
use Rattle.std.specs.Char.{digit_value, is_digit}
use Rattle.std.proofs.lemmas.Bool.{cond-true, cond-false, le-leb}
use Rattle.std.proofs.lemmas.Bool.Decides.{nat_tests}
use Rattle.percent_encoding.specs.Percent.{is_escape}
use Rattle.sigtext.specs.Spelling.{may_stand, SpellsByte, raw, escaped, Spells}
use Rattle.sigtext.specs.Targets.{begins_with_escape}
use Rattle.sigtext.proofs.Reading.{stand, spelled}

-- a byte that may stand for itself is not `%`
pub no_escape : (barred : List ℕ) (b high low : ℕ) → may_stand barred b ≡ true → is_escape b high low ≡ false
no_escape barred b high low h = grind (arith, nat_tests)

pub spelled_raw : (barred : List ℕ) (b : ℕ) (rest : List ℕ) → may_stand barred b ≡ true → spelled barred (b ∷ rest) ≡ option_map (λ bytes. b ∷ bytes) (spelled barred rest)
unfolding spelled
spelled_raw barred b [] h = cond-true _ _ _ h
spelled_raw barred b (c ∷ []) h = cond-true _ _ _ h
spelled_raw barred b (high ∷ low ∷ rest) h = cond-false _ _ _ (no_escape barred b high low h) ∙ cond-true _ _ _ h

pub spelled_escape : (barred : List ℕ) (high low : ℕ) (rest : List ℕ) → is_digit high 16 ≡ true → is_digit low 16 ≡ true
    → spelled barred (37 ∷ high ∷ low ∷ rest) ≡ option_map (λ bytes. (16 * digit_value high + digit_value low) ∷ bytes) (spelled barred rest)
unfolding spelled
spelled_escape barred high low rest h l =
    let is : is_escape 37 high low ≡ true = grind (arith, nat_tests) in
    cond-true _ _ _ is

-- the spelling of one byte, in front of a text
spelled_byte : (barred piece rest : List ℕ) (b : ℕ) (bytes : List ℕ) → SpellsByte barred piece b → spelled barred rest ≡ Some bytes → spelled barred (piece ++ rest) ≡ Some (b ∷ bytes)
spelled_byte barred piece rest b bytes (raw x h) e = spelled_raw barred x rest h ∙ ap (option_map (λ bs. x ∷ bs)) e
spelled_byte barred piece rest b bytes (escaped high low h l) e = spelled_escape barred high low rest h l ∙ ap (option_map (λ bs. (16 * digit_value high + digit_value low) ∷ bs)) e

pub spelled_from : (barred text bytes : List ℕ) → Spells barred text bytes → spelled barred text ≡ Some bytes
unfolding spelled
spelled_from barred text [] s = ap (spelled barred) s
spelled_from barred text (b ∷ bytes) s =
    ap (spelled barred) s.2 ∙ spelled_byte barred s.0 s.1 b bytes s.3 (spelled_from barred s.1 bytes s.4)

some_is : {A : Type 0} (x y : A) → Some x ≡ Some y → x ≡ y
some_is x y e = cc

mapped_some : {A B : Type 0} (f : A → B) (o : Option A) (y : B) → option_map f o ≡ Some y → (x : A) × (o ≡ Some x) × (f x ≡ y)
mapped_some f None y e = absurd cc
mapped_some f (Some x) y e = (x, refl, cc)

stood : (test : Bool) (b : ℕ) (more : Option (List ℕ)) (bytes : List ℕ) → cond test (option_map (λ bs. b ∷ bs) more) None ≡ Some bytes
    → (rest : List ℕ) × (test ≡ true) × (more ≡ Some rest) × (b ∷ rest ≡ bytes)
stood true b more bytes e = let m = mapped_some (λ bs. b ∷ bs) more bytes e in (m.0, refl, m.1, m.2)
stood false b more bytes e = absurd cc

spells_stood : (barred : List ℕ) (b : ℕ) (text bytes : List ℕ) → ((bs : List ℕ) → spelled barred text ≡ Some bs → Spells barred text bs)
    → stand barred b (spelled barred text) ≡ Some bytes → Spells barred (b ∷ text) bytes
spells_stood barred b text bytes rest e =
    let s = stood (may_stand barred b) b (spelled barred text) bytes e in
    subst (Spells barred (b ∷ text)) s.3 (b ∷ [], text, refl, raw b s.1, rest s.0 s.2)

chosen : {A : Type 0} (test : Bool) (x y : Option A) (z : A) → cond test x y ≡ Some z → ((test ≡ true) × (x ≡ Some z)) ⊎ ((test ≡ false) × (y ≡ Some z))
chosen true x y z e = inl (refl, e)
chosen false x y z e = inr (refl, e)

escape_parts : (b high low : ℕ) → is_escape b high low ≡ true → (b ≡ 37) × (is_digit high 16 ≡ true) × (is_digit low 16 ≡ true)
escape_parts b high low e = (grind (arith, nat_tests), grind (arith, nat_tests), grind (arith, nat_tests))

spells_escaped : (barred : List ℕ) (b high low : ℕ) (text bytes : List ℕ) → is_escape b high low ≡ true
    → ((bs : List ℕ) → spelled barred text ≡ Some bs → Spells barred text bs)
    → option_map (λ bs. (16 * digit_value high + digit_value low) ∷ bs) (spelled barred text) ≡ Some bytes → Spells barred (b ∷ high ∷ low ∷ text) bytes
spells_escaped barred b high low text bytes is rest e =
    let p = escape_parts b high low is in
    let m = mapped_some (λ bs. (16 * digit_value high + digit_value low) ∷ bs) (spelled barred text) bytes e in
    let found : Spells barred (37 ∷ high ∷ low ∷ text) ((16 * digit_value high + digit_value low) ∷ m.0) = (37 ∷ high ∷ low ∷ [], text, refl, escaped high low p.1 p.2, rest m.0 m.1) in
    subst (λ (x : ℕ). Spells barred (x ∷ high ∷ low ∷ text) bytes) (sym p.0) (subst (Spells barred (37 ∷ high ∷ low ∷ text)) m.2 found)

pub spells_from : (barred text bytes : List ℕ) → spelled barred text ≡ Some bytes → Spells barred text bytes
unfolding spelled
spells_from barred [] bytes e = subst (Spells barred []) (some_is [] bytes e) refl
spells_from barred (b ∷ []) bytes e = spells_stood barred b [] bytes (λ bs. spells_from barred [] bs) e
spells_from barred (b ∷ c ∷ []) bytes e = spells_stood barred b (c ∷ []) bytes (λ bs. spells_from barred (c ∷ []) bs) e
spells_from barred (b ∷ high ∷ low ∷ rest) bytes e =
    ⊎_elim
    (λ is. spells_escaped barred b high low rest bytes is.0 (λ bs. spells_from barred rest bs) is.1)
    (λ is. spells_stood barred b (high ∷ low ∷ rest) bytes (λ bs. spells_from barred (high ∷ low ∷ rest) bs) is.1)
    (chosen (is_escape b high low) _ _ bytes e)

mapped_is_some : {A B : Type 0} (f : A → B) (o : Option A) → is_some (option_map f o) ≡ is_some o
mapped_is_some f None = refl
mapped_is_some f (Some x) = refl

begins_at : (b high low : ℕ) (rest : List ℕ) → begins_with_escape (b ∷ high ∷ low ∷ rest) ≡ is_escape b high low
begins_at b high low rest =
    let long : leb 3 (length (b ∷ high ∷ low ∷ rest)) ≡ true = le-leb 3 (length (b ∷ high ∷ low ∷ rest)) (omega arith) in
    ap (λ t. t && is_escape b high low) long

pub spelled_at_escape : (barred text : List ℕ) → begins_with_escape text ≡ true → is_some (spelled barred (drop 3 text)) ≡ is_some (spelled barred text)
unfolding spelled
spelled_at_escape barred [] e = absurd cc
spelled_at_escape barred (b ∷ []) e = absurd cc
spelled_at_escape barred (b ∷ c ∷ []) e = absurd cc
spelled_at_escape barred (b ∷ high ∷ low ∷ rest) e =
    sym (ap (λ (o : Option (List ℕ)). is_some o) (cond-true _ _ _ (sym (begins_at b high low rest) ∙ e)) ∙ mapped_is_some _ (spelled barred rest))

pub spelled_at_stand : (barred text : List ℕ) → 0 < length text → begins_with_escape text ≡ false → spelled barred text ≡ stand barred (get_or text 0 0) (spelled barred (drop 1 text))
unfolding spelled
spelled_at_stand barred [] long e = absurd (omega arith)
spelled_at_stand barred (b ∷ []) long e = refl
spelled_at_stand barred (b ∷ c ∷ []) long e = refl
spelled_at_stand barred (b ∷ high ∷ low ∷ rest) long e = cond-false _ _ _ (sym (begins_at b high low rest) ∙ e)

pub spelled-nil : (barred : List ℕ) → spelled barred [] ≡ Some []
unfolding spelled
spelled-nil barred = refl

pub stands_some : (barred : List ℕ) (b : ℕ) (more : Option (List ℕ)) → may_stand barred b ≡ true → is_some (stand barred b more) ≡ is_some more
stands_some barred b more h = ap (λ (o : Option (List ℕ)). is_some o) (cond-true _ _ _ h) ∙ mapped_is_some _ more

pub stands_none : (barred : List ℕ) (b : ℕ) (more : Option (List ℕ)) → may_stand barred b ≡ false → stand barred b more ≡ None
stands_none barred b more h = cond-false _ _ _ h
