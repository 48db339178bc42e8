-- An office file that was tested for both versions and, if it was of version 1, changed.
use Rattle.std.proofs.Common.{◌≡◌, ◌≢◌, inl, inr, ℕ, length, IsTrue, refl, sym, ap, subst, ◌∙◌}
use Rattle.sqlite_rules.specs.Lists.{Has}
use Rattle.sqlite_schema.specs.declared.schema.Schema.{Schema}
use Rattle.sqlite.specs.Effect.{Database}
use Rattle.sqlite.specs.State.{State, HasCleanDisk}
use Rattle.boxes.specs.State.{State as Office}
use Rattle.boxes.specs.Sound.{IsSound}
use Rattle.sqltables.specs.Schema.{Version, IsVersion, v1, v2, begun_schemas, first_version, second_version}
use Rattle.sqltables.specs.Means.{Holds, Means, AddsOnly}
use Rattle.sqltables.specs.Tables.{tables_of}
use Rattle.sqltables.specs.Kept.{KeepsState}
use Rattle.sqlaudit.specs.declared.opening.Found.{Found}
use Rattle.sqlaudit.specs.declared.opening.Found.TheVariants as found
use Rattle.sqlaudit.specs.Opened.{HasOurs, OnlyLooks, LeavesUntouched, IsAtRest, IsEither}
use Rattle.sqlaudit.proofs.Extents.{ours_begun}
use Rattle.sqlkeeper.specs.Sparing.{Spares}
use Rattle.sqlkeeper.specs.Versions.{KeepsFirst, IsOfficeFile}
use Rattle.sqlkeeper.proofs.AtRest.{means_old, means_new, means_same, keeps_same}

-- an office of either version is not found damaged
pub first_is_whole : {f : Found} → f ≡ found.First → f ≢ found.Damaged
first_is_whole is damaged = let e : ◌≡◌ {A = Found} found.First found.Damaged = sym is ∙ damaged in cc

pub second_is_whole : {f : Found} → f ≡ found.Second → f ≢ found.Damaged
second_is_whole is damaged = let e : ◌≡◌ {A = Found} found.Second found.Damaged = sym is ∙ damaged in cc

-- the tables of the two versions differ
apart : (db : Database) (a b : Office) → Holds v1 db (tables_of a) → Holds v2 db (tables_of b) → ⊥
apart db a b one two = let e : ◌≡◌ {A = ℕ} 6 9 = ap (λ (s : Schema). length s.tables) (sym one.schema ∙ two.schema) in cc

-- an office has our tables
has_ours : (v : Version) → IsVersion v → (s : State) (office : Office) → Means v s office → HasCleanDisk s → HasOurs s
has_ours v ours s office means clean is_open = inl (subst (Has begun_schemas) (sym ((means clean).tables is_open).holds.schema) (ours_begun v ours))

module _ (old mid : State) (looks : LeavesUntouched old mid) where
  -- what the finding says about the file
  abbrev pub Tells : Found → Type 0
  Tells f = HasOurs old → HasCleanDisk mid → IsTrue old.is_open → IsEither f old.now

  abbrev pub StaysOpen : Type 0
  StaysOpen = HasCleanDisk mid → IsTrue mid.is_open

  module _ (stays : StaysOpen) where
    was_open : HasCleanDisk mid → IsTrue old.is_open
    was_open clean = (looks.same clean).was_open (stays clean)

    -- an office of version 2 is not found to be one of version 1
    pub not_first : Tells found.First → (s : Office) → KeepsState old s → HasCleanDisk mid → ⊥
    not_first tells s keeps clean =
        let was = looks.honest clean in
        let is = tells (has_ours v2 second_version old s keeps.means was) clean (was_open clean) in
        apart old.now is.0 s is.1.holds ((keeps.means was).tables (was_open clean)).holds

    pub not_second : Tells found.Second → (s : Office) → KeepsFirst old s → HasCleanDisk mid → ⊥
    not_second tells s keeps clean =
        let was = looks.honest clean in
        let is = tells (has_ours v1 first_version old s keeps.means was) clean (was_open clean) in
        apart old.now s is.0 ((keeps.means was).tables (was_open clean)).holds is.1.holds

    pub second_means : Tells found.Second → (s : Office) → IsOfficeFile old s → KeepsState mid s
    second_means tells s (inl first) = record { means = λ clean. absurd (not_second tells s first clean); sound = first.sound }
    second_means tells s (inr second) = keeps_same old mid looks.honest looks.same s second

    module _ (rest : HasCleanDisk mid → IsAtRest mid) where
      -- what was found about version 1
      pub first_found : Tells found.First → HasOurs old → HasCleanDisk mid → (s : Office) × KeepsFirst old s × Means v1 mid s
      first_found tells ours clean =
          let is = tells ours clean (was_open clean) in
          let same = looks.same clean in (
            is.0,
            record { means = means_old v1 old mid (stays clean) same (rest clean) is.0 is.1; sound = is.1.sound; short = is.1.short refl },
            means_new v1 old mid (stays clean) same (rest clean) is.0 is.1,
          )

  pub first_means : (s : Office) → KeepsFirst old s → Means v1 mid s
  first_means s keeps = means_same v1 old mid looks.honest looks.same s keeps.means

  -- ---- after the change

  module _ (new : State) (honest : HasCleanDisk new → HasCleanDisk mid) where
    pub looks_still : OnlyLooks mid new → OnlyLooks old new
    looks_still same clean =
        let one = looks.same (honest clean) in
        let two = same clean in
        record {
          was_open = λ is_open. one.was_open (two.was_open is_open);
          now_is = λ is_open. two.now_is is_open ∙ one.now_is (two.was_open is_open);
          committed_is = λ is_open. two.committed_is is_open ∙ one.committed_is (two.was_open is_open);
          mode = two.mode ∙ one.mode;
        }

    pub adds_still : (s : Office) → AddsOnly v2 mid new s → AddsOnly v2 old new s
    adds_still s adds clean trees left = elim (adds clean trees left) [
      | inl was ↦ inl (looks.crash (honest clean) trees was)
      | inr means ↦ inr means
    ]

    -- if the disk has not returned what was written, there is nothing to show
    pub untouched_never : (HasCleanDisk mid → ⊥) → LeavesUntouched old new
    untouched_never never = record {
      same = λ clean. absurd (never (honest clean));
      crash = λ clean. absurd (never (honest clean));
      honest = λ clean. looks.honest (honest clean);
    }

    -- what was there and is sound is all that a crash leaves
    pub spares_still : (Was : Office → Type 0) → (HasCleanDisk new → (s : Office) × Was s × IsSound s × AddsOnly v2 mid new s) → Spares old new Was
    spares_still Was there = record {
      honest = λ clean. looks.honest (honest clean);
      crash = λ clean trees left.
          let it = there clean in
          elim (adds_still it.0 it.3 clean trees left) [
            | inl was ↦ inl was
            | inr means ↦ inr (it.0, it.1, record { means = means; sound = it.2 })
          ];
    }

  pub adds_nothing : (s : Office) → AddsOnly v2 old mid s
  adds_nothing s clean trees left = inl (looks.crash clean trees left)
