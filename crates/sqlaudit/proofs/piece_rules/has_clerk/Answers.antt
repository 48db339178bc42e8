use Rattle.std.proofs.Common.{◌≡◌, ◌∙◌, false, pos, sym, ap, subst, refl}
use Rattle.std.proofs.lemmas.Bool.{false≢true}
use Rattle.std.specs.Prelude.{Contains}
use Rattle.std.proofs.lemmas.List.{take_all}
use Rattle.boxes.specs.declared.rows.Role.TheVariants.{Clerk}
use Rattle.sqltables.specs.Tables.{role_number, flag}
use Rattle.sqlaudit.specs.declared.lines.KeyLine.{KeyLine}
use Rattle.sqlaudit.proofs.Entries.{each_more, none_before, has_at}
use Rattle.sqlaudit.proofs.KeyEntries.{one_role, one_flag}
use Rattle.sqlaudit.proofs.piece_rules.has_clerk.Goals as goal

pub loop-line-init : goal.loop-line-init
loop-line-init c = none_before (λ (l : KeyLine). (l.role ≡ pos 1) × (l.revoked ≡ pos 0) → ⊥) c.args.lines.now

pub loop-line-preserved : goal.loop-line-preserved
loop-line-preserved c =
    each_more (λ (l : KeyLine). (l.role ≡ pos 1) × (l.revoked ≡ pos 0) → ⊥) c.args.lines.now c.loop-line.line-index c.line-item.result c.loop-line.invariant c.loop-line-test.true (sym c.line-item.is)
    (λ h. false≢true (sym c.if-is_clerk.false ∙ c.is_clerk.ensures.1 h))

pub returns-then-is_clerk : goal.returns-then-is_clerk
returns-then-is_clerk c ks es = (
  λ t.
      let both = c.is_clerk.ensures.0 c.if-is_clerk.true in
      let e = es.each c.line-item.result (has_at c.args.lines.now c.loop-line.line-index c.line-item.result c.loop-line-test.true (sym c.line-item.is)) in
      record { id = e.0; key = e.1; there = e.3; clerk = one_role e.1.role Clerk (sym e.2.entry.role_is ∙ both.0); unrevoked = one_flag e.1.revoked false (sym e.2.entry.revoked_is ∙ both.1) },
  λ clerk. refl,
)

pub returns : goal.returns
returns c ks es = (
  λ t. absurd (false≢true t),
  λ clerk.
      let l = es.all clerk.id clerk.key clerk.there in
      absurd (c.loop-line.invariant l.0 (subst (λ xs. Contains xs l.0) (sym (take_all c.loop-line.line-index c.args.lines.now c.loop-line-test.false)) l.1)
      (l.2.entry.role_is ∙ ap role_number clerk.clerk, l.2.entry.revoked_is ∙ ap flag clerk.unrevoked)),
)
