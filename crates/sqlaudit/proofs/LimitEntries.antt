-- The line of the allowance, and the lines of the limits as a set.
use Rattle.std.proofs.Common.{◌≡◌, ◌∙◌, inl, inr, ◌⊎◌, ℕ, pos, List, [], ◌∷◌, ◌++◌, Option, Some, None, refl, sym, ap, subst, arith}
use Rattle.std.specs.Prelude.{Contains, slice_get, ◌<◌, length, get_or}
use Rattle.std.proofs.lemmas.Option.{slice_get-get_or}
use Rattle.std.specs.FinMap.{FinMap, get, empty, insert}
use Rattle.std.proofs.lemmas.List.{append_assoc, append-nil}
use Rattle.boxes.specs.State.{Limit, limit_cmp}
use Rattle.boxes.proofs.LimitedKeys.{limit_total, limit_same}
use Rattle.boxes.proofs.Lookups.{some_none}
use Rattle.sqlaudit.specs.declared.lines.RulesLine.{RulesLine}
use Rattle.sqlaudit.specs.declared.lines.LimitLine.{LimitLine}
use Rattle.sqlaudit.specs.Outlines.{AreEntries, IsRulesEntry, IsLimitEntry}
use Rattle.sqlaudit.specs.Opened.{SayUnlimited}
use Rattle.sqlaudit.specs.Sorting.{limit_in}
use Rattle.sqlaudit.proofs.Entries.{no_lines, one_more, only, itself}
use Rattle.sqlaudit.proofs.ReceiptEntries.{one_pos}

-- ---- the only line of the rules

abbrev RulesAre : List RulesLine → ℕ → Type 0
RulesAre ls allowance = AreEntries IsRulesEntry (λ one. Some allowance) ls

pub first_rules : (ls : List RulesLine) (l : RulesLine) → slice_get ls 0 ≡ Some l → Contains ls l
first_rules [] l e = absurd cc
first_rules (x ∷ ls) l e = let same : x ≡ l = cc in (0, omega arith, same)

pub no_rules : (ls : List RulesLine) → slice_get ls 0 ≡ None → (allowance : ℕ) → RulesAre ls allowance → ⊥
no_rules [] e allowance is = let l = is.all tt allowance refl in omega (arith, l.1.1)
no_rules (x ∷ ls) e allowance is = absurd cc

pub rules_line : (ls : List RulesLine) (l : RulesLine) (allowance : ℕ) → Contains ls l → RulesAre ls allowance → IsRulesEntry l tt allowance
rules_line ls l allowance there is =
    let e = is.each l there in
    let same : allowance ≡ e.1 = cc in
    record { id_is = e.2.id_is; allowance_is = e.2.allowance_is ∙ ap (λ n. pos n) (sym same) }

-- lines that each give the one row of the rules with this allowance
pub rules_are : (ls : List RulesLine) (first : RulesLine) (allowance : ℕ) → Contains ls first → first.allowance ≡ pos allowance
    → ((l : RulesLine) → Contains ls l → (l.id ≡ pos 1) × (l.allowance ≡ first.allowance)) → RulesAre ls allowance
rules_are ls first allowance there told each = record {
  each = λ l h. let e = each l h in (tt, allowance, record { id_is = e.0; allowance_is = e.1 ∙ told }, refl);
  all = λ one n e.
      let same : allowance ≡ n = cc in
      (first, there, record { id_is = (each first there).0; allowance_is = told ∙ ap (λ m. pos m) same });
}

-- ---- the lines of an office of version 1

module _ (rules : List RulesLine) (limits : List LimitLine) (say : SayUnlimited rules limits) where
  pub says_none : (allowance : ℕ) → RulesAre rules allowance → allowance ≡ 0
  says_none allowance are =
      let e = are.all tt allowance refl in
      let same = only (record { id = pos 1; allowance = pos 0 }) e.0 (subst (λ ls. Contains ls e.0) say.rules_are e.1) in
      one_pos allowance 0 (sym e.2.allowance_is ∙ ap (λ (l : RulesLine). l.allowance) (sym same))

  pub limits_none : (look : Limit → Option (Unit {0})) → AreEntries IsLimitEntry look limits → (limit : Limit) → look limit ≡ None
  limits_none look are limit = go (look limit) refl
    where
      go : (o : Option (Unit {0})) → look limit ≡ o → look limit ≡ None
      go None none = none
      go (Some there) some =
          let l = are.all limit there some in
          let h = subst (λ ls. Contains ls l.0) say.limits_are l.1 in
          absurd (omega (arith, h.1))

  pub none_said : (allowance : ℕ) → allowance ≡ 0 → RulesAre rules allowance
  none_said allowance is =
      let z : RulesLine = record { id = pos 1; allowance = pos 0 } in
      let each : (l : RulesLine) → Contains (z ∷ []) l → (l.id ≡ pos 1) × (l.allowance ≡ pos 0) =
      λ l h. (ap (λ (x : RulesLine). x.id) (sym (only z l h)), ap (λ (x : RulesLine). x.allowance) (sym (only z l h))) in
      subst (λ n. RulesAre rules n) (sym is) (subst (λ ls. RulesAre ls 0) (sym say.rules_are) (rules_are (z ∷ []) z 0 (itself z) refl each))

  pub none_limited : (look : Limit → Option (Unit {0})) → ((limit : Limit) → look limit ≡ None) → AreEntries IsLimitEntry look limits
  none_limited look none = subst (AreEntries IsLimitEntry look) (sym say.limits_are) (record {
    each = λ l h. absurd (omega (arith, h.1));
    all = λ limit there e. absurd (some_none there (sym e ∙ none limit));
  })

-- ---- the set of the limits

free : (m : FinMap limit_cmp (Unit {0})) (limit : Limit) → (get m limit ≡ None) ⊎ (get m limit ≡ Some tt)
free m limit = elim (get m limit) as (λ o. (o ≡ None) ⊎ (o ≡ Some tt)) [ None ↦ inl refl | Some u ↦ inr refl ]

gathered : (ls front : List LimitLine) (m : FinMap limit_cmp (Unit {0})) → AreEntries IsLimitEntry (get m) front
    → (limits : FinMap limit_cmp (Unit {0})) × AreEntries IsLimitEntry (get limits) (front ++ ls)
gathered [] front m are = (m, subst (AreEntries IsLimitEntry (get m)) (sym (append-nil front)) are)
gathered (l ∷ ls) front m are =
    let more = one_more limit_cmp limit_total limit_same IsLimitEntry m front l (limit_in l) tt are (record { key_is = refl; box_is = refl }) (free m (limit_in l)) in
    let rest = gathered ls (front ++ l ∷ []) (insert m (limit_in l) tt) more in
    (rest.0, subst (AreEntries IsLimitEntry (get rest.0)) (append_assoc front (l ∷ []) ls) rest.1)

pub limits_of : (ls : List LimitLine) → (limits : FinMap limit_cmp (Unit {0})) × AreEntries IsLimitEntry (get limits) ls
limits_of ls = gathered ls [] empty (no_lines limit_cmp limit_total limit_same IsLimitEntry)

-- ---- a line at a position

abbrev pub no_rules_line : RulesLine
no_rules_line = record { id = pos 0; allowance = pos 0 }

pub rules_again : (ls : List RulesLine) (i : ℕ) → i < length ls → get_or ls i (get_or ls i no_rules_line) ≡ get_or ls i no_rules_line
rules_again ls i lt =
    let a = slice_get-get_or ls i (get_or ls i no_rules_line) lt in
    let b = slice_get-get_or ls i no_rules_line lt in
    cc
