-- A transaction that goes on, and sees the same as at first.
use Rattle.std.proofs.Common.{◌≡◌, IsTrue, refl, sym, ap, subst, ◌∙◌}
use Rattle.sqlite.specs.Effect.{Database}
use Rattle.sqlite.specs.State.{State, KeepsCommit}
use Rattle.sqltables.specs.Schema.{Version}
use Rattle.sqltables.specs.Means.{IsWhole, IsRunning}

pub record StillReads (v : Version) (entry now : State) : Type 0 where
  pub schema : IsTrue now.is_open → now.now.schema ≡ v.schema
  pub inside : IsTrue now.in_transaction
  pub same : now.now ≡ entry.now
  pub was_open : IsTrue now.is_open → IsTrue entry.is_open

pub begins : (v : Version) (s : State) → (IsTrue s.is_open → s.now.schema ≡ v.schema) → IsTrue s.in_transaction → StillReads v s s
begins v s schema inside = record { schema = schema; inside = inside; same = refl; was_open = λ is_open. is_open }

pub goes_on : (v : Version) (entry mid now : State) → StillReads v entry mid → now.now ≡ mid.now → IsRunning now → KeepsCommit mid now → StillReads v entry now
goes_on v entry mid now still same running keeps = record {
  schema = λ is_open. ap (λ (d : Database). d.schema) same ∙ still.schema (keeps.was_open is_open);
  inside = running.0;
  same = same ∙ still.same;
  was_open = λ is_open. still.was_open (keeps.was_open is_open);
}

pub whole_still : (v : Version) (entry now : State) → StillReads v entry now → (IsTrue entry.is_open → IsWhole entry.now) → IsTrue now.is_open → IsWhole now.now
whole_still v entry now still whole is_open = subst IsWhole (sym still.same) (whole (still.was_open is_open))
