use Rattle.std.proofs.Common.{◌≡◌, ◌∙◌, ◌⊎◌, inl, inr, Bool, IsTrue, MatchOption, refl, sym, subst, Option, Some, None}
use Rattle.std.specs.Prelude.{◌↔◌}
use Rattle.std.proofs.lemmas.Bool.{false≢true}
use Rattle.std.proofs.lemmas.List.{take_all}
use Rattle.sigtext.specs.Bytes.{bytes_cmp}
use Rattle.boxes.proofs.Lookups.{bytes_total, bytes_same}
use Rattle.boxes.specs.Maps.{found}
use Rattle.sqlaudit.specs.declared.box_rules.BoxEntry.{BoxEntry}
use Rattle.sqltables.specs.Tables.{Box}
use Rattle.sqlaudit.specs.Outlines.{IsBoxEntry, IsBoxRule}
use Rattle.sqlaudit.specs.Sorting.{AreIn, IsGood, box_in, text_of}
use Rattle.sqlaudit.proofs.Entries.{start, next_line, refused, clashed}
use Rattle.sqlaudit.proofs.BoxEntries.{one_box}
use Rattle.sqlaudit.proofs.box_rules.boxes_by_name.Goals as goal

free : (o : Option BoxEntry) (r : Bool) (b : Box) → MatchOption o (IsTrue r) (λ first. IsTrue r ↔ box_in first ≡ b) → IsTrue r → (o ≡ None) ⊎ ((y : BoxEntry) × (o ≡ Some y) × (box_in y ≡ b))
free None r b h t = inl refl
free (Some y) r b h t = inr (y, refl, h.0 t)

taken : (o : Option BoxEntry) (r : Bool) (b : Box) → MatchOption o (IsTrue r) (λ first. IsTrue r ↔ box_in first ≡ b) → (IsTrue r → ⊥) → (y : BoxEntry) × (o ≡ Some y) × (box_in y ≡ b → ⊥)
taken None r b h n = absurd (n h)
taken (Some y) r b h n = (y, refl, λ e. n (h.1 e))

pub loop-line-init : goal.loop-line-init
loop-line-init c = subst (AreIn bytes_cmp text_of box_in (IsGood IsBoxEntry IsBoxRule) _) (sym c.new-boxes.ensures.empty) (start bytes_cmp bytes_total bytes_same text_of box_in (IsGood IsBoxEntry IsBoxRule))

pub loop-line-preserved : goal.loop-line-preserved
loop-line-preserved c =
    let name = c.as_slice-name.result.now in
    next_line bytes_cmp bytes_total bytes_same text_of box_in (IsGood IsBoxEntry IsBoxRule) c.args.lines.now c.loop-line.line-index c.line-item.result c.loop-line.boxes c.insert.new.self
    name c.in-Some.entry c.loop-line.invariant c.loop-line-test.true (sym c.line-item.is)
    (subst (λ k. IsGood IsBoxEntry IsBoxRule c.line-item.result k (box_in c.in-Some.entry)) (sym c.as_slice-name.ensures.value) (rw c.in-Some.is at c.in_ok-entry.ensures)) c.in_ok-insert.ensures.updates
    (free (found bytes_cmp text_of c.loop-line.boxes.entries name) c.agrees.result (box_in c.in-Some.entry) c.agrees.ensures c.if-not-agrees.false)

pub returns-in_default : goal.returns-in_default
returns-in_default c m all = refused (IsGood IsBoxEntry IsBoxRule) _ c.args.lines.now c.loop-line.line-index c.line-item.result c.loop-line-test.true (sym c.line-item.is) (rw c.in_default.is at c.in_ok-entry.ensures) all

pub returns-then-not-agrees : goal.returns-then-not-agrees
returns-then-not-agrees c m all =
    let name = c.as_slice-name.result.now in
    let first = taken (found bytes_cmp text_of c.loop-line.boxes.entries name) c.agrees.result (box_in c.in-Some.entry) c.agrees.ensures (λ t. false≢true (sym c.if-not-agrees.true ∙ t)) in
    clashed bytes_cmp bytes_total bytes_same text_of box_in (IsGood IsBoxEntry IsBoxRule) one_box _ c.args.lines.now c.loop-line.line-index c.line-item.result c.loop-line.boxes.entries name c.in-Some.entry first.0
    c.loop-line.invariant c.loop-line-test.true (sym c.line-item.is)
    (subst (λ k. IsGood IsBoxEntry IsBoxRule c.line-item.result k (box_in c.in-Some.entry)) (sym c.as_slice-name.ensures.value) (rw c.in-Some.is at c.in_ok-entry.ensures)) first.1 first.2 all

pub returns : goal.returns
returns c = subst (λ xs. AreIn bytes_cmp text_of box_in (IsGood IsBoxEntry IsBoxRule) xs c.loop-line.boxes.entries) (take_all c.loop-line.line-index c.args.lines.now c.loop-line-test.false) c.loop-line.invariant
