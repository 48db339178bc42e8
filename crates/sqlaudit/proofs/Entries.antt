-- Lines that are the entries of a map, as a loop reads them.
use Rattle.std.proofs.Common.{◌≡◌, ◌∙◌, ◌⊎◌, inl, inr, ℕ, zero, suc, ◌+◌, ◌<◌, true, false, cond, List, [], ◌∷◌, ◌++◌, take, drop, length, get_or, append_assoc, Option, Some, None, refl, sym, ap, subst, arith}
use Rattle.std.specs.Prelude.{Contains, option_map}
use Rattle.std.specs.declared.cmp.Ordering.{Ordering}
use Rattle.std.specs.Ordering.{is_eq, eq_by_cmp}
use Rattle.std.specs.Cmp.{IsTotalOrder, tied_itself}
use Rattle.std.specs.FinMap.{FinMap, empty, insert, get, get-empty, get-insert, IsAntisymmetric}
use Rattle.std.proofs.lemmas.List.{take_more, take-append-drop}
use Rattle.std.proofs.lemmas.List.Elements.{Contains-append_left, Contains-append_right, Contains-append_cases}
use Rattle.std.specs.BTreeMap.{BTreeMap, UpdatesBy}
use Rattle.boxes.proofs.Lookups.{equal_is, some_none}
use Rattle.boxes.specs.Maps.{found}
use Rattle.boxes.proofs.MapLemmas.{sets_of, means-set, means-empty}
use Rattle.sqlaudit.specs.Outlines.{AreEntries}
use Rattle.sqlaudit.specs.Sorting.{AreAmong, AreIn, IsGood}

only_at : {X : Type 0} (l x : X) (k : ℕ) → k < 1 → get_or (l ∷ []) k x ≡ x → l ≡ x
only_at l x zero h e = e
only_at l x (suc k) h e = absurd (omega arith)

pub only : {X : Type 0} (l x : X) → Contains (l ∷ []) x → l ≡ x
only l x h = only_at l x h.0 h.1 h.2

pub itself : {X : Type 0} (l : X) → Contains (l ∷ []) l
itself l = (0, omega arith, refl)

pub in_front : {X : Type 0} (xs : List X) (i : ℕ) (x : X) → Contains (take i xs) x → Contains xs x
in_front xs i x h = subst (λ ys. Contains ys x) (take-append-drop i xs) (Contains-append_left (take i xs) (drop i xs) x h)

-- A line is only one entry.
abbrev pub IsFunctional : {L K V : Type 0} → (L → K → V → Type 0) → Type 0
IsFunctional {L} {K} {V} E = (l : L) (j k : K) (v w : V) → E l j v → E l k w → (j ≡ k) × (v ≡ w)

module _ {L K V : Type 0} (R : K → K → Ordering) (o : IsTotalOrder R) (same : IsAntisymmetric R) (E : L → K → V → Type 0) where
  pub no_lines : AreEntries E (get (empty {X = V} {R = R})) []
  no_lines = record {
    each = λ l h. absurd (omega (arith, h.1));
    all = λ k v e. absurd (some_none v (sym e ∙ get-empty R k));
  }

  pub put_there : (m : FinMap R V) (k : K) (v : V) → get (insert m k v) k ≡ Some v
  put_there m k v = get-insert o m k v k ∙ ap (λ r. cond (is_eq r) (Some v) (get m k)) (tied_itself o k)

  -- an existing entry stays
  stays : (m : FinMap R V) (k q : K) (v w : V) → (get m k ≡ None) ⊎ (get m k ≡ Some v) → get m q ≡ Some w → get (insert m k v) q ≡ Some w
  stays m k q v w free there = get-insert o m k v q ∙
      elim (eq_by_cmp R q k) as (λ t. eq_by_cmp R q k ≡ t → cond t (Some v) (get m q) ≡ Some w) [
        | true ↦ λ t.
            let here : get m k ≡ Some w = ap (get m) (sym (same q k (equal_is (R q k) t))) ∙ there in
            elim free [ inl none ↦ absurd (some_none w (sym here ∙ none)) | inr some ↦ sym some ∙ here ]
        | false ↦ λ t. there
      ] refl

  pub one_more : (m : FinMap R V) (ls : List L) (l : L) (k : K) (v : V) → AreEntries E (get m) ls → E l k v → (get m k ≡ None) ⊎ (get m k ≡ Some v)
      → AreEntries E (get (insert m k v)) (ls ++ l ∷ [])
  one_more m ls l k v es is free = record {
    each = λ x h. elim (Contains-append_cases ls (l ∷ []) x h) [
      | inl old ↦ let e = es.each x old in (e.0, e.1, e.2, stays m k e.0 v e.1 free e.3)
      | inr new ↦ (k, v, subst (λ y. E y k v) (only l x new) is, put_there m k v)
    ];
    all = λ q w e. elim (eq_by_cmp R q k) as (λ t. eq_by_cmp R q k ≡ t → cond t (Some v) (get m q) ≡ Some w → (x : L) × Contains (ls ++ l ∷ []) x × E x q w) [
      | true ↦ λ t f.
          let value : v ≡ w = cc in
          (l, Contains-append_right ls (l ∷ []) l (itself l), subst (λ p. E l p w) (sym (same q k (equal_is (R q k) t))) (subst (λ y. E l k y) value is))
      | false ↦ λ t f. let old = es.all q w f in (old.0, Contains-append_left ls (l ∷ []) old.0 old.1, old.2)
    ] refl (sym (get-insert o m k v q) ∙ e);
  }

  -- two lines that differ under one key are not entries of the same map
  pub clash_among : IsFunctional E → (look : K → Option V) (ls before : List L) (m : FinMap R V) (l : L) (k : K) (v w : V) → AreAmong E look ls → AreEntries E (get m) before
      → ((x : L) → Contains before x → Contains ls x) → Contains ls l → E l k v → get m k ≡ Some w → v ≡ w
  clash_among functional look ls before m l k v w all front inside there is stood =
      let old = front.all k w stood in
      let a = all old.0 (inside old.0 old.1) in
      let b = all l there in
      let same_a = functional old.0 a.0 k a.1 w a.2 old.2 in
      let same_b = functional l b.0 k b.1 v b.2 is in
      let first : look k ≡ Some w = ap look (sym same_a.0) ∙ a.3 ∙ ap (λ x. Some x) same_a.1 in
      let second : look k ≡ Some v = ap look (sym same_b.0) ∙ b.3 ∙ ap (λ x. Some x) same_b.1 in
      cc

  pub clash : IsFunctional E → (look : K → Option V) (ls : List L) (i : ℕ) (m : FinMap R V) (l : L) (k : K) (v w : V) → AreEntries E look ls → AreEntries E (get m) (take i ls)
      → Contains ls l → E l k v → get m k ≡ Some w → v ≡ w
  clash functional look ls i m l k v w all front there is stood = clash_among functional look ls (take i ls) m l k v w all.each front (in_front ls i) there is stood

  -- the lines are the entries of at most one map
  pub one_map : IsFunctional E → (look other : K → Option V) (ls : List L) → AreEntries E look ls → AreEntries E other ls → (k : K) (v : V) → look k ≡ Some v → other k ≡ Some v
  one_map functional look other ls a b k v there =
      let line = a.all k v there in
      let e = b.each line.0 line.1 in
      let same_e = functional line.0 e.0 k e.1 v e.2 line.2 in
      ap other (sym same_e.0) ∙ e.3 ∙ ap (λ x. Some x) same_e.1

  pub same_look : IsFunctional E → (look other : K → Option V) (ls : List L) → AreEntries E look ls → AreEntries E other ls → (k : K) → look k ≡ other k
  same_look functional look other ls a b k =
      elim (look k) as (λ x. look k ≡ x → x ≡ other k) [
        | Some v ↦ λ e. sym (one_map functional look other ls a b k v e)
        | None ↦ λ e. elim (other k) as (λ y. other k ≡ y → None ≡ y) [
          | Some v ↦ λ f. absurd (some_none v (sym (one_map functional other look ls b a k v f) ∙ e))
          | None ↦ λ f. refl
        ] refl
      ] refl

module _ {L Q K X V : Type 0} (R : K → K → Ordering) (o : IsTotalOrder R) (same : IsAntisymmetric R) (f : Q → K) (g : X → V) (E : L → K → V → Type 0) where
  abbrev pub start : AreIn R f g E [] []
  start = record { map = empty; means = means-empty R f o g; entries = no_lines R o same E }

  -- one more line, in the map of the code
  abbrev pub next_entry : (before : List L) (l : L) (m n : BTreeMap Q X) (k : K) (x : X) → AreIn R f g E before m.entries → E l k (g x)
      → UpdatesBy (λ a b. R (f a) (f b)) (λ a. R k (f a)) m n (Some x) → (found R f m.entries k ≡ None) ⊎ ((y : X) × (found R f m.entries k ≡ Some y) × (g y ≡ g x))
      → AreIn R f g E (before ++ l ∷ []) n.entries
  next_entry before l m n k x old is updates free = record {
    map = insert old.map k (g x);
    means = means-set R f o g m.entries n.entries old.map k x old.means (sets_of R f o m n k (Some x) updates);
    entries =
        let stood : (get old.map k ≡ None) ⊎ (get old.map k ≡ Some (g x)) = elim free [
          | inl none ↦ inl (old.means.each k ∙ ap (option_map g) none)
          | inr some ↦ inr (old.means.each k ∙ ap (option_map g) some.1 ∙ ap (λ y. Some y) some.2)
        ] in
        one_more R o same E old.map before l k (g x) old.entries is stood;
  }

  abbrev pub next_line : (ls : List L) (i : ℕ) (l : L) (m n : BTreeMap Q X) (k : K) (x : X) → AreIn R f g E (take i ls) m.entries → i < length ls → get_or ls i l ≡ l → E l k (g x)
      → UpdatesBy (λ a b. R (f a) (f b)) (λ a. R k (f a)) m n (Some x) → (found R f m.entries k ≡ None) ⊎ ((y : X) × (found R f m.entries k ≡ Some y) × (g y ≡ g x))
      → AreIn R f g E (take (i + 1) ls) n.entries
  next_line ls i l m n k x old lt here is updates free =
      subst (λ xs. AreIn R f g E xs n.entries) (sym (take_more ls i l lt ∙ ap (λ y. take i ls ++ y ∷ []) here)) (next_entry (take i ls) l m n k x old is updates free)

pub has_at : {X : Type 0} (xs : List X) (i : ℕ) (x : X) → i < length xs → get_or xs i x ≡ x → Contains xs x
has_at xs i x lt here = (i, lt, here)

-- lines with a line that is not an entry are not the entries of any map
pub refused : {L K V : Type 0} (E : L → K → V → Type 0) (look : K → Option V) (ls : List L) (i : ℕ) (l : L) → i < length ls → get_or ls i l ≡ l
    → ((k : K) (v : V) → E l k v → ⊥) → AreEntries E look ls → ⊥
refused E look ls i l lt here none all = let e = all.each l (has_at ls i l lt here) in none e.0 e.1 e.2

-- a line whose key already exists with a different value
pub clashed : {L Q K X V : Type 0} (R : K → K → Ordering) (o : IsTotalOrder R) (same : IsAntisymmetric R) (f : Q → K) (g : X → V) (E : L → K → V → Type 0) → IsFunctional E
    → (look : K → Option V) (ls : List L) (i : ℕ) (l : L) (es : List (Q × X)) (k : K) (x y : X) → AreIn R f g E (take i ls) es → i < length ls → get_or ls i l ≡ l → E l k (g x)
    → found R f es k ≡ Some y → (g y ≡ g x → ⊥) → AreEntries E look ls → ⊥
clashed R o same f g E functional look ls i l es k x y old lt here is stood apart all =
    let there = old.means.each k ∙ ap (option_map g) stood in
    apart (sym (clash R o same E functional look ls i old.map l k (g x) (g y) all old.entries (has_at ls i l lt here) is there))

-- ---- lines that are some of a map's entries

-- one more item
pub more_behind : {X : Type 0} (before xs : List X) (i : ℕ) (x : X) → i < length xs → get_or xs i x ≡ x → (before ++ take i xs) ++ x ∷ [] ≡ before ++ take (i + 1) xs
more_behind before xs i x lt here = append_assoc before (take i xs) (x ∷ []) ∙ ap (◌++◌ before) (sym (take_more xs i x lt ∙ ap (λ y. take i xs ++ y ∷ []) here))

pub among_front : {L K V : Type 0} (E : L → K → V → Type 0) (look : K → Option V) (before ls : List L) (i : ℕ) → AreAmong E look (before ++ ls) → AreAmong E look (before ++ take i ls)
among_front E look before ls i all x there = elim (Contains-append_cases before (take i ls) x there) [
  | inl old ↦ all x (Contains-append_left before ls x old)
  | inr new ↦ all x (Contains-append_right before ls x (in_front ls i x new))
]

pub last_there : {X : Type 0} (before : List X) (l : X) → Contains (before ++ l ∷ []) l
last_there before l = Contains-append_right before (l ∷ []) l (itself l)

-- a line that is not an entry
pub refused_among : {L K V : Type 0} (E : L → K → V → Type 0) (look : K → Option V) (before : List L) (l : L) → ((k : K) (v : V) → E l k v → ⊥) → AreAmong E look (before ++ l ∷ []) → ⊥
refused_among E look before l none all = let e = all l (last_there before l) in none e.0 e.1 e.2

-- a line whose key already exists with a different value
pub clashed_among : {L Q K X V : Type 0} (R : K → K → Ordering) (o : IsTotalOrder R) (same : IsAntisymmetric R) (f : Q → K) (g : X → V) (E : L → K → V → Type 0) → IsFunctional E
    → (look : K → Option V) (before : List L) (l : L) (es : List (Q × X)) (k : K) (x y : X) → AreIn R f g E before es → E l k (g x)
    → found R f es k ≡ Some y → (g y ≡ g x → ⊥) → AreAmong E look (before ++ l ∷ []) → ⊥
clashed_among R o same f g E functional look before l es k x y old is stood apart all =
    let there = old.means.each k ∙ ap (option_map g) stood in
    apart (sym (clash_among R o same E functional look (before ++ l ∷ []) before old.map l k (g x) (g y) all old.entries (λ z h. Contains-append_left before (l ∷ []) z h) (last_there before l) is there))

-- what holds of each line so far, and of one more, holds of all of them
pub each_more : {X : Type 0} (P : X → Type 0) (xs : List X) (i : ℕ) (x : X) → ((y : X) → Contains (take i xs) y → P y) → i < length xs → get_or xs i x ≡ x → P x
    → (y : X) → Contains (take (i + 1) xs) y → P y
each_more P xs i x before lt here is y there =
    elim (Contains-append_cases (take i xs) (x ∷ []) y (subst (λ ys. Contains ys y) (take_more xs i x lt ∙ ap (λ z. take i xs ++ z ∷ []) here) there)) [
      | inl old ↦ before y old
      | inr new ↦ subst P (only x y new) is
    ]

pub none_before : {X : Type 0} (P : X → Type 0) (xs : List X) (y : X) → Contains (take 0 xs) y → P y
none_before P xs y h = absurd (omega (arith, h.1))

-- lines whose entries obey a rule, with the rule and without it
pub with_rule : {L K V : Type 0} (E : L → K → V → Type 0) (P : K → V → Type 0) (look : K → Option V) (ls : List L) → AreEntries E look ls → ((k : K) (v : V) → look k ≡ Some v → P k v)
    → AreEntries (IsGood E P) look ls
with_rule E P look ls a keeps = record {
  each = λ l h. let e = a.each l h in (e.0, e.1, record { entry = e.2; rule = keeps e.0 e.1 e.3 }, e.3);
  all = λ k v there. let l = a.all k v there in (l.0, l.1, record { entry = l.2; rule = keeps k v there });
}

pub without_rule : {L K V : Type 0} (E : L → K → V → Type 0) (P : K → V → Type 0) (look : K → Option V) (ls : List L) → AreEntries (IsGood E P) look ls → AreEntries E look ls
without_rule E P look ls a = record {
  each = λ l h. let e = a.each l h in (e.0, e.1, e.2.entry, e.3);
  all = λ k v there. let l = a.all k v there in (l.0, l.1, l.2.entry);
}

pub rule_of_entries : {L K V : Type 0} (E : L → K → V → Type 0) (P : K → V → Type 0) (look : K → Option V) (ls : List L) → AreEntries (IsGood E P) look ls → (k : K) (v : V) → look k ≡ Some v → P k v
rule_of_entries E P look ls a k v there = let l = a.all k v there in l.2.rule
