-- A line is only one receipt.
use Rattle.std.proofs.Common.{◌≡◌, ◌∙◌, ℕ, ◌+◌, pos, List, Option, Some, None, refl, sym, arith}
use Rattle.std.specs.Prelude.{IsSomeAnd}
use Rattle.std.specs.FinMap.{FinMap, get}
use Rattle.sigtext.specs.Bytes.{bytes_cmp}
use Rattle.boxes.specs.State.{Key, Receipt}
use Rattle.boxes.specs.Opening.{Fits}
use Rattle.sqltables.specs.Tables.{Box}
use Rattle.sqlaudit.specs.Outlines.{IsReceiptEntry, IsReceiptRule, IsBoxRule}
use Rattle.sqlaudit.specs.Sorting.{IsGiven, HasReceiptForms}
use Rattle.sqlaudit.proofs.Entries.{IsFunctional}

pub one_pos : (m n : ℕ) → pos m ≡ pos n → m ≡ n
one_pos m n e = cc

next_one : (m n : ℕ) → m + 1 ≡ n + 1 → m ≡ n
next_one m n e = omega arith

pub one_receipt : IsFunctional IsReceiptEntry
one_receipt l j k v w a b =
    let box = sym a.box_is ∙ b.box_is in
    let name = sym a.name_is ∙ b.name_is in
    let size = one_pos v.size w.size (sym a.length_is ∙ b.length_is) in
    let digest = sym a.digest_is ∙ b.digest_is in
    let moment = one_pos v.moment w.moment (sym a.moment_is ∙ b.moment_is) in
    let key = sym a.key_is ∙ b.key_is in
    (next_one j k (one_pos (j + 1) (k + 1) (sym a.number_is ∙ b.number_is)), λ i. record { box = box i; name = name i; size = size i; digest = digest i; moment = moment i; key = key i })

pub one_given : (ks : FinMap bytes_cmp Key) (bs : FinMap bytes_cmp Box) → IsFunctional (IsGiven ks bs)
one_given ks bs l j k v w a b = one_receipt l j k v w a.entry b.entry

pub some_there : {X : Type 0} (P : X → Type 0) (o : Option X) → IsSomeAnd o P → (x : X) × (o ≡ Some x) × P x
some_there P None h = absurd h
some_there P (Some x) h = (x, refl, h)

-- the forms that the rule of a receipt requires
pub forms_of : (ks : FinMap bytes_cmp Key) (bs : FinMap bytes_cmp Box) (r : Receipt) → ((name : List ℕ) (b : Box) → get bs name ≡ Some b → IsBoxRule name b)
    → IsReceiptRule ks bs r → HasReceiptForms r
forms_of ks bs r good rule =
    let b = some_there (λ (b : Box). Fits b.settings.rule r.name) (get bs r.box) rule.box in
    record { box = (good r.box b.0 b.1).name_form; name = rule.name; short = rule.short; size = rule.size; digest = rule.digest; moment = rule.moment }
