use Rattle.std.proofs.Common.{◌∙◌, inl, inr, sym, subst}
use Rattle.std.proofs.lemmas.Bool.{false≢true}
use Rattle.std.proofs.lemmas.List.{take_all}
use Rattle.sigtext.specs.Bytes.{bytes_cmp}
use Rattle.boxes.proofs.Lookups.{bytes_total, bytes_same}
use Rattle.sqlaudit.specs.Outlines.{IsKeyEntry, IsKeyRule}
use Rattle.sqlaudit.specs.Sorting.{AreIn, IsGood, key_in, text_of}
use Rattle.sqlaudit.proofs.Entries.{start, next_line, refused, clashed}
use Rattle.sqlaudit.proofs.KeyEntries.{one_key}
use Rattle.sqlaudit.proofs.key_rules.keys_by_id.Goals as goal
use Rattle.sqlaudit.proofs.key_rules.keys_by_id.Goals.{in-Some-2+else-not-is_same_key, in_default-2}

pub loop-line-init : goal.loop-line-init
loop-line-init c = subst (AreIn bytes_cmp text_of key_in (IsGood IsKeyEntry IsKeyRule) _) (sym c.new-keys.ensures.empty) (start bytes_cmp bytes_total bytes_same text_of key_in (IsGood IsKeyEntry IsKeyRule))

pub loop-line-preserved : goal.loop-line-preserved
loop-line-preserved c =
    next_line bytes_cmp bytes_total bytes_same text_of key_in (IsGood IsKeyEntry IsKeyRule) c.args.lines.now c.loop-line.line-index c.line-item.result c.loop-line.keys c.insert.new.self
    c.as_slice.result.now c.in-Some.key c.loop-line.invariant c.loop-line-test.true (sym c.line-item.is)
    (subst (λ k. IsGood IsKeyEntry IsKeyRule c.line-item.result k (key_in c.in-Some.key)) (sym c.as_slice.ensures.value) c.in-Some.ensures) c.in_ok-first.ensures.updates
    (elim c.match-branch-2.branch [
      | in-Some-2+else-not-is_same_key w ↦ inr (w.in-Some-2.first, sym c.in_ok-first.ensures.old ∙ w.in-Some-2.is, w.is_same_key.ensures.0 w.if-not-is_same_key.false)
      | in_default-2 w ↦ inl (sym c.in_ok-first.ensures.old ∙ w.in_default-2.is)
    ])

pub returns-in_default : goal.returns-in_default
returns-in_default c m all = refused (IsGood IsKeyEntry IsKeyRule) _ c.args.lines.now c.loop-line.line-index c.line-item.result c.loop-line-test.true (sym c.line-item.is) c.in_default.ensures all

pub returns-then-not-is_same_key : goal.returns-then-not-is_same_key
returns-then-not-is_same_key c m all =
    clashed bytes_cmp bytes_total bytes_same text_of key_in (IsGood IsKeyEntry IsKeyRule) one_key _ c.args.lines.now c.loop-line.line-index c.line-item.result c.loop-line.keys.entries c.as_slice.result.now c.in-Some.key c.in-Some-2.first c.loop-line.invariant c.loop-line-test.true (sym c.line-item.is)
    (subst (λ k. IsGood IsKeyEntry IsKeyRule c.line-item.result k (key_in c.in-Some.key)) (sym c.as_slice.ensures.value) c.in-Some.ensures)
    (sym c.in_ok-first.ensures.old ∙ c.in-Some-2.is) (λ e. false≢true (sym c.if-not-is_same_key.true ∙ c.is_same_key.ensures.1 e)) all

pub returns : goal.returns
returns c = subst (λ xs. AreIn bytes_cmp text_of key_in (IsGood IsKeyEntry IsKeyRule) xs c.loop-line.keys.entries) (take_all c.loop-line.line-index c.args.lines.now c.loop-line-test.false) c.loop-line.invariant
