-- The signed values of names in order, the fields that they cover, and the rules on both.
use Rattle.std.proofs.Common.{◌≡◌, lit<, ℕ, zero, suc, ◌+◌, ◌<◌, ◌≤◌, Bool, true, false, not, eqb, List, [], ◌∷◌, ◌++◌, length, map, take, get_or, refl, sym, ap, subst, ◌∙◌, arith, All}
use Rattle.std.specs.Prelude.{◌||◌, IsTrue}
use Rattle.std.specs.List.{list_all, list_any, slice_split, AllByRecursion}
use Rattle.std.specs.Char.{to_ascii_lowercase}
use Rattle.std.proofs.lemmas.Bool.{and_parts}
use Rattle.std.proofs.lemmas.Bool.Decides.{nat_tests}
use Rattle.std.proofs.lemmas.List.{take_more, take_all, map-append, length-map, get_or-map}
use Rattle.std.proofs.lemmas.List.Elements.{All-head, filter_passes}
use Rattle.std.proofs.lemmas.Slice.Eq.{bytes_eq-Decides}
use Rattle.sigtext.specs.declared.field.Field.{Field}
use Rattle.sigtext.specs.declared.refusal.Refusal.TheVariants as rule
use Rattle.sigtext.specs.Bytes.{same_bytes}
use Rattle.sigtext.specs.Rules.{HoldBefore, IsFirstToFail, AllHold}
use Rattle.sigtext.specs.SignedHeaders.{Header, lower_case, named, IsSignedValue, AreSignedValues}
use Rattle.sigtext.specs.SignedNames.{is_header_name_byte, IsHeaderName, AreSignedNames}
use Rattle.sigtext.specs.SignedValues.{IsFitValue, is_covered, ValueRule}
use Rattle.sigtext.specs.Signing.{signed_header}
use Rattle.sigtext.proofs.NamesOnce.{names_are}
use Rattle.sigtext.proofs.Uniqueness.{values_once}

-- ---- names in lower case

lower_byte : (b : ℕ) → IsTrue (is_header_name_byte b) → to_ascii_lowercase b ≡ b
lower_byte b h = grind (arith, nat_tests)

pub lower_name : (name : List ℕ) → IsTrue (list_all is_header_name_byte name) → lower_case name ≡ name
lower_name [] h = refl
lower_name (b ∷ name) h =
    let parts = and_parts (is_header_name_byte b) (list_all is_header_name_byte name) h in
    cc (lower_byte b parts.0, lower_name name parts.1)

lower_all : (names : List (List ℕ)) → AllByRecursion IsHeaderName names → map lower_case names ≡ names
lower_all [] h = refl
lower_all (name ∷ names) h = cc (lower_name name h.0.each, lower_all names h.1)

-- signed names are the pieces of their text, and in lower case
lower_names : (text : List ℕ) (names : List (List ℕ)) → AreSignedNames text names → map lower_case (slice_split (λ b. eqb b 59) text) ≡ names
lower_names text names h = ap (map lower_case) (sym (names_are text names h)) ∙ lower_all names h.forms

-- the values of the pieces are those of the names
pub of_names : (text : List ℕ) (names : List (List ℕ)) (headers signed : List Header) → AreSignedNames text names
    → ValueRule headers (map lower_case (slice_split (λ b. eqb b 59) text)) rule.SignedValues signed → ValueRule headers names rule.SignedValues signed
of_names text names headers signed h values = subst (λ (ns : List (List ℕ)). ValueRule headers ns rule.SignedValues signed) (lower_names text names h) values

pub of_pieces : (text : List ℕ) (names : List (List ℕ)) (headers signed : List Header) → AreSignedNames text names
    → ValueRule headers names rule.SignedValues signed → ValueRule headers (map lower_case (slice_split (λ b. eqb b 59) text)) rule.SignedValues signed
of_pieces text names headers signed h values = subst (λ (ns : List (List ℕ)). ValueRule headers ns rule.SignedValues signed) (sym (lower_names text names h)) values

-- the only field with a lower-case name has that name
pub has_the_name : (name : List ℕ) (headers : List Header) (h : Header) → named name headers ≡ h ∷ [] → lower_case h.name ≡ name
has_the_name name headers h is =
    let passes = subst (All (λ (x : Header). same_bytes (lower_case x.name) name ≡ true)) is (filter_passes (λ x. same_bytes (lower_case x.name) name) headers) in
    (bytes_eq-Decides (lower_case h.name) name).0 (All-head (λ (x : Header). same_bytes (lower_case x.name) name ≡ true) h [] passes)

-- ---- one more name and its value

signed_more : (headers : List Header) (names : List (List ℕ)) (signed : List Header) (name : List ℕ) (s : Header) → AreSignedValues headers names signed
    → s.name ≡ name → IsSignedValue headers name s.value → AreSignedValues headers (names ++ name ∷ []) (signed ++ s ∷ [])
signed_more headers [] [] name s all is value = (is, value, tt)
signed_more headers [] (t ∷ signed) name s all is value = absurd all
signed_more headers (n ∷ names) [] name s all is value = absurd all
signed_more headers (n ∷ names) (t ∷ signed) name s all is value = (all.0, all.1, signed_more headers names signed name s all.2 is value)

fit_more : (signed : List Header) (s : Header) → AllByRecursion (λ t. IsFitValue t.value) signed → IsFitValue s.value → AllByRecursion (λ t. IsFitValue t.value) (signed ++ s ∷ [])
fit_more [] s all fit = (fit, tt)
fit_more (t ∷ signed) s all fit = (all.0, fit_more signed s all.1 fit)

-- a step of the loop after n pieces: the next piece has the value of this field
pub goes_on : (headers : List Header) (pieces : List (List ℕ)) (n next : ℕ) (name : List ℕ) (values others : List Field) (f : Field)
    → (n < length pieces) × (name ≡ get_or pieces n name) → ValueRule headers (map lower_case (take n pieces)) rule.SignedValues (map signed_header values)
    → (lower_case f.name.now ≡ lower_case name) × IsSignedValue headers (lower_case name) f.value.now × IsFitValue f.value.now
    → next ≡ n + 1 → others ≡ values ++ f ∷ []
    → ValueRule headers (map lower_case (take next pieces)) rule.SignedValues (map signed_header others)
goes_on headers pieces n next name values others f turn sofar found one more =
    let names = ap (λ (k : ℕ). map lower_case (take k pieces)) one
    ∙ ap (map lower_case) (take_more pieces n name turn.0)
    ∙ map-append lower_case (take n pieces) (get_or pieces n name ∷ [])
    ∙ ap (λ (x : List ℕ). map lower_case (take n pieces) ++ lower_case x ∷ []) (sym turn.1) in
    let signed = ap (map signed_header) more ∙ map-append signed_header values (f ∷ []) in (
      subst (λ (ns : List (List ℕ)). AreSignedValues headers ns (map signed_header others)) (sym names)
          (subst (AreSignedValues headers (map lower_case (take n pieces) ++ lower_case name ∷ [])) (sym signed)
          (signed_more headers (map lower_case (take n pieces)) (map signed_header values) (lower_case name) (signed_header f) sofar.0 found.0 found.1)),
      subst (AllByRecursion (λ (t : Header). IsFitValue t.value)) (sym signed) (fit_more (map signed_header values) (signed_header f) sofar.1 found.2),
    )

value_at : (headers : List Header) (names : List (List ℕ)) (signed : List Header) (k : ℕ) (d : List ℕ) → AreSignedValues headers names signed
    → AllByRecursion (λ t. IsFitValue t.value) signed → k < length names → (value : List ℕ) × IsSignedValue headers (get_or names k d) value × IsFitValue value
value_at headers [] signed k d all fit within = absurd (omega (arith, within))
value_at headers (name ∷ names) [] k d all fit within = absurd all
value_at headers (name ∷ names) (s ∷ signed) zero d all fit within = (s.value, all.1, fit.0)
value_at headers (name ∷ names) (s ∷ signed) (suc k) d all fit within = value_at headers names signed k d all.2 fit.1 (omega (arith, within))

-- the next piece has no value that may be signed; then the names lack one
pub stops : (headers : List Header) (pieces : List (List ℕ)) (n : ℕ) (name : List ℕ) → (n < length pieces) × (name ≡ get_or pieces n name)
    → ((value : List ℕ) → IsSignedValue headers (lower_case name) value → IsFitValue value → ⊥)
    → (signed : List Header) → ValueRule headers (map lower_case pieces) rule.SignedValues signed → ⊥
stops headers pieces n name turn none signed all =
    let within : n < length (map lower_case pieces) = omega (arith, length-map pieces lower_case, turn.0) in
    let there = value_at headers (map lower_case pieces) signed n (lower_case name) all.0 all.1 within in
    let is = get_or-map lower_case pieces n name (lower_case name) turn.0 ∙ ap lower_case (sym turn.1) in
    none there.0 (subst (λ (x : List ℕ). IsSignedValue headers x there.0) is there.1) there.2

-- after all pieces
pub all_came : (headers : List Header) (pieces : List (List ℕ)) (n : ℕ) (signed : List Header) → length pieces ≤ n
    → ValueRule headers (map lower_case (take n pieces)) rule.SignedValues signed → ValueRule headers (map lower_case pieces) rule.SignedValues signed
all_came headers pieces n signed past all =
    subst (λ (ns : List (List ℕ)). ValueRule headers (map lower_case ns) rule.SignedValues signed) (take_all n pieces past) all

-- ---- the rules

pub both_hold : (headers : List Header) (names : List (List ℕ)) (signed : List Header) → ValueRule headers names rule.SignedValues signed
    → IsTrue (list_all (is_covered signed) headers) → AllHold (ValueRule headers names) signed
both_hold headers names signed values covered rule.SignedValues = values
both_hold headers names signed values covered rule.HeaderNotSigned = covered
both_hold headers names signed values covered _ = tt

before_values : (headers : List Header) (names : List (List ℕ)) (signed : List Header) → HoldBefore (ValueRule headers names) rule.SignedValues signed
before_values headers names signed rule.SignedValues below = absurd (omega (arith, below))
before_values headers names signed rule.HeaderNotSigned below = absurd (omega (arith, below))
before_values headers names signed _ below = tt

pub values_fail : (headers : List Header) (names : List (List ℕ)) → ((signed : List Header) → ValueRule headers names rule.SignedValues signed → ⊥)
    → IsFirstToFail (ValueRule headers names) rule.SignedValues
values_fail headers names none = record { parts = []; before = before_values headers names []; fails = λ other before all. none other all }

before_cover : (headers : List Header) (names : List (List ℕ)) (signed : List Header) → ValueRule headers names rule.SignedValues signed
    → HoldBefore (ValueRule headers names) rule.HeaderNotSigned signed
before_cover headers names signed values rule.SignedValues below = values
before_cover headers names signed values rule.HeaderNotSigned below = absurd (omega (arith, below))
before_cover headers names signed values _ below = tt

differ : false ≡ true → ⊥
differ e = cc

pub cover_fails : (headers : List Header) (names : List (List ℕ)) (signed : List Header) → ValueRule headers names rule.SignedValues signed
    → list_all (is_covered signed) headers ≡ false → IsFirstToFail (ValueRule headers names) rule.HeaderNotSigned
cover_fails headers names signed values bare = record {
  parts = signed;
  before = before_cover headers names signed values;
  fails = λ other before covered.
      let same = values_once headers names signed other values.0 (before rule.SignedValues (lit< tt)).0 in
      differ (sym bare ∙ subst (λ (s : List Header). IsTrue (list_all (is_covered s) headers)) same covered);
}

-- ---- which fields are signed

pub any_signed : (name : List ℕ) (signed : List Field)
    → list_any (λ f. same_bytes (lower_case f.name.now) (lower_case name)) signed ≡ list_any (λ s. same_bytes s.name (lower_case name)) (map signed_header signed)
any_signed name [] = refl
any_signed name (f ∷ signed) = cc (any_signed name signed)

-- a name that begins with the prefix must be signed
pub counted : (begins r any : Bool) → begins ≡ true → r ≡ any → r ≡ (not begins || any)
counted begins r any is e = e ∙ sym (ap (λ (b : Bool). not b || any) is)

-- another name need not be
pub spared : (begins any : Bool) → begins ≡ false → (not begins || any) ≡ true
spared begins any is = ap (λ (b : Bool). not b || any) is
