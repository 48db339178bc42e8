use Rattle.std.proofs.Common.{◌≡◌, ◌⊎◌, inl, inr, ◌+◌, ◌++◌, [], ◌∷◌, ℕ, zero, suc, List, Bool, true, false, take, refl, sym, ap, subst, ◌∙◌, arith}
use Rattle.std.proofs.lemmas.List.{take_more}
use Rattle.std.proofs.lemmas.Grind.{common_steps}
use Rattle.sigtext.specs.Bytes.{same_bytes}
use Rattle.sqlite_rules.specs.Lists.{Has}
use Rattle.sqlite_rules.proofs.ListLemmas.{has_right}
use Rattle.boxes.proofs.FileTotals.{texts_alike, same_as_itself}
use Rattle.sqltables.specs.Questions.{first_text, text_in}
use Rattle.sqlquestions.proofs.questions.shows_text.Goals as goal

has_last : {X : Type 0} (xs : List X) (y x : X) → Has (xs ++ y ∷ []) x → Has xs x ⊎ (x ≡ y)
has_last [] y x (inl same) = inr same
has_last [] y x (inr none) = absurd none
has_last (z ∷ xs) y x (inl same) = inl (inl same)
has_last (z ∷ xs) y x (inr later) = elim (has_last xs y x later) [ inl was ↦ inl (inr was) | inr is ↦ inr is ]

has_taken : {X : Type 0} (n : ℕ) (xs : List X) (x : X) → Has (take n xs) x → Has xs x
has_taken zero xs x none = absurd none
has_taken (suc n) [] x none = absurd none
has_taken (suc n) (y ∷ xs) x (inl same) = inl same
has_taken (suc n) (y ∷ xs) x (inr later) = inr (has_taken n xs x later)

differ : (a b : List ℕ) (t : Bool) → t ≡ same_bytes a b → t ≡ false → a ≡ b → ⊥
differ a b t is false_is same = let e : ◌≡◌ true false = sym (same_as_itself a) ∙ ap (same_bytes a) same ∙ sym is ∙ false_is in cc

pub loop-row-preserved : goal.loop-row-preserved
loop-row-preserved c row has same =
    let rows = c.args.rows.now in
    let at = c.loop-row.row-index in
    let item = c.row-item.result in
    let text = c.in_ok-read_text.field-0.items in
    let reads : first_text item ≡ text = ap text_in c.in_ok-read_text.ensures in
    let there = subst (λ l. Has l row) (take_more rows at item c.loop-row-test.true) has in
    elim (has_last (take at rows) _ row there) [
      | inl was ↦ c.loop-row.invariant row was same
      | inr is ↦ differ c.as_slice.result.now c.args.text.now c.eq.result c.eq.ensures c.if-eq.false
          (c.as_slice.ensures.value ∙ sym reads ∙ ap first_text (c.row-item.is ∙ sym is) ∙ same)
    ]

pub returns-then-eq : goal.returns-then-eq
returns-then-eq c =
    let rows = c.args.rows.now in
    let at = c.loop-row.row-index in
    let item = c.row-item.result in
    let text = c.in_ok-read_text.field-0.items in
    let reads : first_text item ≡ text = ap text_in c.in_ok-read_text.ensures in
    let there : Has (take (at + 1) rows) item = subst (λ l. Has l item) (sym (take_more rows at item c.loop-row-test.true)) (has_right (take at rows) _ item (inl c.row-item.is)) in
    let same : c.as_slice.result.now ≡ c.args.text.now = texts_alike c.as_slice.result.now c.args.text.now (sym c.eq.ensures ∙ c.if-eq.true) in (
      λ t. record { row = item; there = has_taken (at + 1) rows item there; first = reads ∙ sym c.as_slice.ensures.value ∙ same },
      λ shows. refl,
    )

pub returns : goal.returns
returns c = grind (arith, common_steps)
