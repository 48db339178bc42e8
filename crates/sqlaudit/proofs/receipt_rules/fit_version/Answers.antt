use Rattle.std.proofs.Common.{◌≡◌, refl, sym, ap, subst}
use Rattle.sqltables.specs.Schema.{v1}
use Rattle.sqltables.proofs.Ours.{versions_differ}
use Rattle.sqlaudit.specs.declared.formats.Format.{Format}
use Rattle.sqlaudit.specs.Formats.{version_of}
use Rattle.sqlaudit.proofs.receipt_rules.fit_version.Goals as goal

pub returns-in-First : goal.returns-in-First
returns-in-First c = (λ t is. c.are_short.ensures.0 t, λ fits. c.are_short.ensures.1 (fits (ap version_of c.in-First.is)))

pub returns-in-Second : goal.returns-in-Second
returns-in-Second c = (
  λ t is. absurd (let second = subst (λ (f : Format). version_of f ≡ v1) c.in-Second.is is in versions_differ (sym second)),
  λ fits. refl,
)
