-- Lines of receipts in the order of their numbers.
use Rattle.std.proofs.Common.{◌≡◌, ◌≢◌, ◌∙◌, inl, inr, ℕ, zero, suc, ◌+◌, ◌<◌, ◌≤◌, ◌<ℤ◌, ℤ, pos, List, [], ◌∷◌, length, get_or, Bool, true, false, IsTrue, Option, Some, None, slice_get, arith, rules, refl, sym, ap, subst}
use Rattle.std.specs.Prelude.{Contains, MatchOption, nat_lt, int_lt}
use Rattle.std.specs.List.{IsAllAdjacentAnswer}
use Rattle.std.specs.FinMap.{FinMap}
use Rattle.std.proofs.lemmas.Bool.{cases_Bool, ltb-true, ltb-false}
use Rattle.std.proofs.lemmas.Int.{ints}
use Rattle.std.proofs.lemmas.List.{get_or_default}
use Rattle.std.proofs.lemmas.Option.{slice_get_within, slice_get-get_or, get_or_from_slice_get}
use Rattle.sqlite_trees.proofs.ListLemmas.{ascending-get_or}
use Rattle.sigtext.specs.Bytes.{bytes_cmp}
use Rattle.boxes.specs.State.{Key, Receipt}
use Rattle.boxes.proofs.Lookups.{some_none}
use Rattle.sqltables.specs.Tables.{Box}
use Rattle.sqlaudit.specs.declared.lines.ReceiptLine.{ReceiptLine}
use Rattle.sqlaudit.specs.Outlines.{AreEntries, IsReceiptEntry}
use Rattle.sqlaudit.specs.Sorting.{AreRising, HoldsReceipts, IsGiven}
use Rattle.sqlaudit.proofs.Rising.{rises}

-- ---- lines in ascending order

abbrev below : ReceiptLine → ReceiptLine → Type 0
below a b = a.number <ℤ b.number

through : (a b c : ReceiptLine) → below a b → below b c → below a c
through a b c one two = omega (arith, ints, one, two)

is_less : (a b : ℤ) → int_lt a b ≡ true → a <ℤ b
is_less a b h = search rules

pub rise_answered : (lines : List ReceiptLine) (r : Bool) → IsAllAdjacentAnswer (λ x y b. b ≡ int_lt x.number y.number) lines r → IsTrue r → AreRising lines
rise_answered lines true is h = rises below through lines (λ k d within. is_less _ _ (sym (is k d within)))
rise_answered lines false is h = absurd cc

-- ---- lines that are receipts, position by position

both : (P : ℕ → ReceiptLine → Receipt → Type 0) (line : ReceiptLine) (lines : List ReceiptLine) (r : Receipt) (list : List Receipt) → P 0 line r
    → ((at : ℕ) → MatchOption (slice_get lines at) (slice_get list at ≡ None) (λ l. (x : Receipt) × (slice_get list at ≡ Some x) × P (suc at) l x))
    → (at : ℕ) → MatchOption (slice_get (line ∷ lines) at) (slice_get (r ∷ list) at ≡ None) (λ l. (x : Receipt) × (slice_get (r ∷ list) at ≡ Some x) × P at l x)
both P line lines r list first rest zero = (r, refl, first)
both P line lines r list first rest (suc at) = rest at

-- the receipts of the lines
gathered : (P : ℕ → ReceiptLine → Receipt → Type 0) (lines : List ReceiptLine) → ((at : ℕ) (line : ReceiptLine) → slice_get lines at ≡ Some line → (r : Receipt) × P at line r)
    → (list : List Receipt) × ((at : ℕ) → MatchOption (slice_get lines at) (slice_get list at ≡ None) (λ l. (x : Receipt) × (slice_get list at ≡ Some x) × P at l x))
gathered P [] has = ([], λ at. refl)
gathered P (line ∷ lines) has =
    let first = has 0 line refl in
    let rest = gathered (λ at. P (suc at)) lines (λ at l is. has (suc at) l is) in
    (first.0 ∷ rest.0, both P line lines first.0 rest.0 first.1 rest.1)

-- the first `count` lines are receipts at their places
abbrev pub StandUpTo : FinMap bytes_cmp Key → FinMap bytes_cmp Box → List ReceiptLine → ℕ → Type 0
StandUpTo ks bs lines count = (at : ℕ) (line : ReceiptLine) → at < count → slice_get lines at ≡ Some line → (r : Receipt) × IsGiven ks bs line at r

module _ (ks : FinMap bytes_cmp Key) (bs : FinMap bytes_cmp Box) (lines : List ReceiptLine) where
  pub none_stand : StandUpTo ks bs lines 0
  none_stand at line before is = absurd (omega (arith, before))

  pub one_stands : (i : ℕ) (line : ReceiptLine) → i < length lines → get_or lines i line ≡ line → StandUpTo ks bs lines i → (r : Receipt) × IsGiven ks bs line i r → StandUpTo ks bs lines (i + 1)
  one_stands i line within here stand is at l before there = elim (cases_Bool (nat_lt at i)) [
    | inl early ↦ stand at l (ltb-true at i early) there
    | inr late ↦
        let place : at ≡ i = let e = ltb-false at i late in omega (arith, before, e) in
        let both : Some l ≡ Some line = sym there ∙ ap (slice_get lines) place ∙ slice_get-get_or lines i line within ∙ ap (λ x. Some x) here in
        let same : line ≡ l = cc in
        (is.0, subst (λ x. IsGiven ks bs x at is.0) same (subst (λ n. IsGiven ks bs line n is.0) (sym place) is.1))
  ]

  module _ (list : List Receipt) (are : (at : ℕ) → MatchOption (slice_get lines at) (slice_get list at ≡ None) (λ l. (x : Receipt) × (slice_get list at ≡ Some x) × IsGiven ks bs l at x)) where
    holds : HoldsReceipts lines list
    holds at = go (slice_get lines at) (are at)
      where
        go : (o : Option ReceiptLine) → MatchOption o (slice_get list at ≡ None) (λ l. (x : Receipt) × (slice_get list at ≡ Some x) × IsGiven ks bs l at x)
            → MatchOption o (slice_get list at ≡ None) (λ l. (x : Receipt) × (slice_get list at ≡ Some x) × IsReceiptEntry l at x)
        go None none = none
        go (Some l) some = (some.0, some.1, some.2.entry)

    there : (at : ℕ) (line : ReceiptLine) → slice_get lines at ≡ Some line → (x : Receipt) × (slice_get list at ≡ Some x) × IsGiven ks bs line at x
    there at line is = subst (λ o. MatchOption o (slice_get list at ≡ None) (λ l. (x : Receipt) × (slice_get list at ≡ Some x) × IsGiven ks bs l at x)) is (are at)

    entries : AreEntries (IsGiven ks bs) (slice_get list) lines
    entries = record {
      each = λ line stands. let r = there stands.0 line (slice_get-get_or lines stands.0 line stands.1 ∙ ap (λ x. Some x) stands.2) in (stands.0, r.0, r.2, r.1);
      all = λ at r is. go at r (slice_get lines at) refl is;
    }
      where
        go : (at : ℕ) (r : Receipt) (o : Option ReceiptLine) → slice_get lines at ≡ o → slice_get list at ≡ Some r → (line : ReceiptLine) × Contains lines line × IsGiven ks bs line at r
        go at r None none is = absurd (some_none r (sym is ∙ subst (λ o. MatchOption o (slice_get list at ≡ None) (λ l. (x : Receipt) × (slice_get list at ≡ Some x) × IsGiven ks bs l at x)) none (are at)))
        go at r (Some line) some is =
            let x = there at line some in
            let both : Some x.0 ≡ Some r = sym x.1 ∙ is in
            let same : x.0 ≡ r = cc in
            (line, (at, slice_get_within lines at line some, get_or_from_slice_get lines at line line some), subst (IsGiven ks bs line at) same x.2)

  -- if all lines are receipts at their places, they are a list of receipts
  pub all_stand : (count : ℕ) → length lines ≤ count → StandUpTo ks bs lines count → (list : List Receipt) × HoldsReceipts lines list × AreEntries (IsGiven ks bs) (slice_get list) lines
  all_stand count all stand =
      let it = gathered (λ at line r. IsGiven ks bs line at r) lines (λ at line is. stand at line (let e = slice_get_within lines at line is in omega (arith, e, all)) is) in
      (it.0, holds it.0 it.1, entries it.0 it.1)

  -- ---- a line that is not a receipt at its place

  module _ (list : List Receipt) (rising : AreRising lines) (are : AreEntries (IsGiven ks bs) (slice_get list) lines) (i : ℕ) (line : ReceiptLine) (within : i < length lines) (here : get_or lines i line ≡ line)
      (stand : StandUpTo ks bs lines i) (a : ℕ) (number : line.number ≡ pos (a + 1)) where
    -- another line has its number
    twice : a < i → ⊥
    twice before =
        let first = get_or lines a line in
        let is = slice_get-get_or lines a line (omega (arith, before, within)) in
        let r = stand a first before is in
        let same : first.number ≡ pos (a + 1) = r.1.entry.number_is in
        let less : below first line = subst (below first) here (ascending-get_or below lines a i line rising before within) in
        omega (arith, ints, less, same, number)

    -- the number of its place belongs to another line or to none
    missing : (r : Receipt) → slice_get list a ≡ Some r → i < a → ⊥
    missing r given after =
        let far = slice_get_within list a r given in
        let x = get_or list i r in
        let l = are.all i x (slice_get-get_or list i r (omega (arith, far, after))) in
        let k = l.1 in
        let own : l.0.number ≡ pos (i + 1) = l.2.entry.number_is in
        let got : get_or lines k.0 line ≡ l.0 = get_or_default lines k.0 line l.0 k.1 ∙ k.2 in
        elim (cases_Bool (nat_lt k.0 i)) [
          | inl early ↦
              let before = ltb-true k.0 i early in
              let s = stand k.0 l.0 before (slice_get-get_or lines k.0 l.0 k.1 ∙ ap (λ y. Some y) k.2) in
              let other : l.0.number ≡ pos (k.0 + 1) = s.1.entry.number_is in
              omega (arith, ints, own, other, before)
          | inr late ↦ elim (cases_Bool (nat_lt i k.0)) [
            | inl later ↦
                let less : below line l.0 = subst (below line) got (subst (λ y. below y (get_or lines k.0 line)) here (ascending-get_or below lines i k.0 line rising (ltb-true i k.0 later) k.1)) in
                omega (arith, ints, less, own, number, after)
            | inr not ↦
                let place : k.0 ≡ i = let e = ltb-false k.0 i late in let f = ltb-false i k.0 not in omega (arith, e, f) in
                let same : line ≡ l.0 = sym here ∙ ap (λ n. get_or lines n line) (sym place) ∙ got in
                let both : pos (a + 1) ≡ pos (i + 1) = sym number ∙ ap (λ (y : ReceiptLine). y.number) same ∙ own in
                omega (arith, ints, both, after)
          ]
        ]

  pub none_stands : (list : List Receipt) → AreRising lines → AreEntries (IsGiven ks bs) (slice_get list) lines → (i : ℕ) (line : ReceiptLine) → i < length lines → get_or lines i line ≡ line → StandUpTo ks bs lines i
      → ((place : ℕ) (r : Receipt) → IsGiven ks bs line place r → place ≢ i) → ⊥
  none_stands list rising are i line within here stand apart =
      let e = are.each line (i, within, here) in
      let number : line.number ≡ pos (e.0 + 1) = e.2.entry.number_is in
      elim (cases_Bool (nat_lt e.0 i)) [
        | inl before ↦ twice list rising are i line within here stand e.0 number (ltb-true e.0 i before)
        | inr from ↦ elim (cases_Bool (nat_lt i e.0)) [
          | inl after ↦ missing list rising are i line within here stand e.0 number e.1 e.3 (ltb-true i e.0 after)
          | inr not ↦ apart e.0 e.1 e.2 (let a = ltb-false e.0 i from in let b = ltb-false i e.0 not in omega (arith, a, b))
        ]
      ]

-- ---- lines that are these receipts

module _ (lines : List ReceiptLine) (list : List Receipt) (held : HoldsReceipts lines list) (at : ℕ) where
  pub receipt_there : (line : ReceiptLine) → slice_get lines at ≡ Some line → (r : Receipt) × (slice_get list at ≡ Some r) × IsReceiptEntry line at r
  receipt_there line is = subst (λ o. MatchOption o (slice_get list at ≡ None) (λ l. (x : Receipt) × (slice_get list at ≡ Some x) × IsReceiptEntry l at x)) is (held at)
