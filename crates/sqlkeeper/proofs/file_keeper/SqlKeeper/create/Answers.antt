use Rattle.std.proofs.Common.{◌≡◌, ◌≤◌, inl, inr, ℕ, refl, subst, w16, to_z, of_z, rules, arith}
use Rattle.sqlite.specs.Held.{state}
use Rattle.sigv4.specs.Allowances.{most_allowance}
use Rattle.boxes.specs.FirstState.{first_state}
use Rattle.boxes.proofs.SoundFirstState.{sound_first_state}
use Rattle.sqltables.specs.Schema.{s0, v2}
use Rattle.sqltables.specs.Means.{Means, LeavesOnly, AddsOnly, IsBare}
use Rattle.sqlkeeper.proofs.AtRest.{bare_of}
use Rattle.sqlkeeper.proofs.GroupMade.{left_alone}
use Rattle.sqlkeeper.proofs.file_keeper.SqlKeeper.create.Goals as goal

few : (allowance seconds : ℕ) → seconds ≡ allowance → seconds ≤ most_allowance → allowance ≤ most_allowance
few allowance seconds is bound = subst (λ n. n ≤ most_allowance) is bound

pub returns-in-Ok-create-clause-made : goal.returns-in-Ok-create-clause-made
returns-in-Ok-create-clause-made g c west east is_id is_secret =
    let bare : IsBare (state g.S.Store c.args.conn) = bare_of (state g.S.Store c.args.conn) (search rules) (search rules) (c.is_autocommit.ensures.settled c.if-not-is_autocommit.false) in
    let end = state g.S.Store c.create.new.conn in
    let same : to_z w16 (of_z w16 c.args.office.east) ≡ c.args.office.east = search rules in
    let means = subst (λ id. Means v2 end (first_state (to_z w16 (of_z w16 c.args.office.east)) c.args.office.allowance id c.args.secret.now)) c.in-Ok.ensures.cases.0 (c.in-Ok-create.ensures.made bare) in
    record {
      means = subst (λ n. Means v2 end (first_state n c.args.office.allowance c.args.id.now c.args.secret.now)) same means;
      sound = sound_first_state c.args.office.east c.args.office.allowance c.args.id.now c.args.secret.now west east (few c.args.office.allowance c.seconds.result c.seconds.ensures.value c.seconds.ensures.bound) is_id is_secret;
    }

pub returns-in-Ok-create-clause-durable : goal.returns-in-Ok-create-clause-durable
returns-in-Ok-create-clause-durable g c west east is_id is_secret clean =
    let bare : IsBare (state g.S.Store c.args.conn) = bare_of (state g.S.Store c.args.conn) (search rules) (search rules) (c.is_autocommit.ensures.settled c.if-not-is_autocommit.false) in
    let end = state g.S.Store c.create.new.conn in
    let after = first_state c.args.office.east c.args.office.allowance c.args.id.now c.args.secret.now in
    let same : to_z w16 (of_z w16 c.args.office.east) ≡ c.args.office.east = search rules in
    let only = subst (λ id. LeavesOnly v2 end (first_state (to_z w16 (of_z w16 c.args.office.east)) c.args.office.allowance id c.args.secret.now)) c.in-Ok.ensures.cases.0 (c.in-Ok-create.ensures.durable bare) in
    let it = left_alone end after (sound_first_state c.args.office.east c.args.office.allowance c.args.id.now c.args.secret.now west east (few c.args.office.allowance c.seconds.result c.seconds.ensures.value c.seconds.ensures.bound) is_id is_secret) clean (c.in-Ok-create.ensures.opened clean).1 (subst (λ n. LeavesOnly v2 end (first_state n c.args.office.allowance c.args.id.now c.args.secret.now)) same only) in
    record { there = it.there; alone = it.alone; whole = it.whole }

pub returns-in-Err-clause-crash : goal.returns-in-Err-clause-crash
returns-in-Err-clause-crash g c =
    let bare : IsBare (state g.S.Store c.args.conn) = bare_of (state g.S.Store c.args.conn) (search rules) (search rules) (c.is_autocommit.ensures.settled c.if-not-is_autocommit.false) in
    let old = state g.S.Store c.args.conn in
    let end = state g.S.Store c.create.new.conn in
    let same : to_z w16 (of_z w16 c.args.office.east) ≡ c.args.office.east = search rules in
    let adds = subst (λ id. AddsOnly v2 old end (first_state (to_z w16 (of_z w16 c.args.office.east)) c.args.office.allowance id c.args.secret.now)) c.in-Ok.ensures.cases.0 (c.create.ensures.crash bare) in
    subst (λ n. AddsOnly v2 old end (first_state n c.args.office.allowance c.args.id.now c.args.secret.now)) same adds

pub returns-in-Ok-create-clause-emptied : goal.returns-in-Ok-create-clause-emptied
returns-in-Ok-create-clause-emptied g c clean =
    let bare : IsBare (state g.S.Store c.args.conn) = bare_of (state g.S.Store c.args.conn) (search rules) (search rules) (c.is_autocommit.ensures.settled c.if-not-is_autocommit.false) in
    c.in-Ok-create.ensures.unstaged bare clean (c.in-Ok-create.ensures.opened clean).0

pub returns-in-Err-clause-spares : goal.returns-in-Err-clause-spares
returns-in-Err-clause-spares g c west east is_id is_secret =
    let no_tables : (state g.S.Store c.args.conn).now.schema ≡ s0 = search rules in
    record {
      honest = c.create.ensures.honest;
      crash = λ clean trees left. elim (returns-in-Err-clause-crash g c clean trees left) [
        | inl was ↦ inl was
        | inr means ↦ inr (
          first_state c.args.office.east c.args.office.allowance c.args.id.now c.args.secret.now,
          (no_tables, refl),
          record { means = means; sound = sound_first_state c.args.office.east c.args.office.allowance c.args.id.now c.args.secret.now west east (few c.args.office.allowance c.seconds.result c.seconds.ensures.value c.seconds.ensures.bound) is_id is_secret },
        )
      ];
    }

pub returns-in-Err-clause-durable : goal.returns-in-Err-clause-durable
returns-in-Err-clause-durable g c = grind arith

pub returns-in-Err-clause-made : goal.returns-in-Err-clause-made
returns-in-Err-clause-made g c = grind arith

pub returns-in-Err-clause-told : goal.returns-in-Err-clause-told
returns-in-Err-clause-told g c = grind arith

pub returns-in-Err-clause-untouched : goal.returns-in-Err-clause-untouched
returns-in-Err-clause-untouched g c = grind arith

pub returns-in-Ok-create-clause-bare : goal.returns-in-Ok-create-clause-bare
returns-in-Ok-create-clause-bare g c = grind arith

pub returns-in-Ok-create-clause-early : goal.returns-in-Ok-create-clause-early
returns-in-Ok-create-clause-early g c = grind arith

pub returns-in-Ok-create-clause-exists : goal.returns-in-Ok-create-clause-exists
returns-in-Ok-create-clause-exists g c = grind arith

pub returns-in-Ok-create-clause-kept : goal.returns-in-Ok-create-clause-kept
returns-in-Ok-create-clause-kept g c = grind arith

pub returns-in-Ok-create-clause-opened : goal.returns-in-Ok-create-clause-opened
returns-in-Ok-create-clause-opened g c = grind arith

pub returns-in-Ok-create-clause-spares : goal.returns-in-Ok-create-clause-spares
returns-in-Ok-create-clause-spares g c = grind arith

pub returns-in-Ok-create-clause-staged : goal.returns-in-Ok-create-clause-staged
returns-in-Ok-create-clause-staged g c = grind arith

pub returns-in_default-clause-crash : goal.returns-in_default-clause-crash
returns-in_default-clause-crash g c = grind arith

pub returns-in_default-clause-durable : goal.returns-in_default-clause-durable
returns-in_default-clause-durable g c = grind arith

pub returns-in_default-clause-exists : goal.returns-in_default-clause-exists
returns-in_default-clause-exists g c = grind arith

pub returns-in_default-clause-made : goal.returns-in_default-clause-made
returns-in_default-clause-made g c = grind arith

pub returns-in_default-clause-spares : goal.returns-in_default-clause-spares
returns-in_default-clause-spares g c = grind arith

pub returns-in_default-clause-told : goal.returns-in_default-clause-told
returns-in_default-clause-told g c = grind arith

pub returns-in_default-clause-untouched : goal.returns-in_default-clause-untouched
returns-in_default-clause-untouched g c = grind arith

pub returns-then-not-is_autocommit-clause-crash : goal.returns-then-not-is_autocommit-clause-crash
returns-then-not-is_autocommit-clause-crash g c = grind arith

pub returns-then-not-is_autocommit-clause-durable : goal.returns-then-not-is_autocommit-clause-durable
returns-then-not-is_autocommit-clause-durable g c = grind arith

pub returns-then-not-is_autocommit-clause-exists : goal.returns-then-not-is_autocommit-clause-exists
returns-then-not-is_autocommit-clause-exists g c = grind arith

pub returns-then-not-is_autocommit-clause-made : goal.returns-then-not-is_autocommit-clause-made
returns-then-not-is_autocommit-clause-made g c = grind arith

pub returns-then-not-is_autocommit-clause-spares : goal.returns-then-not-is_autocommit-clause-spares
returns-then-not-is_autocommit-clause-spares g c = grind arith

pub returns-then-not-is_autocommit-clause-told : goal.returns-then-not-is_autocommit-clause-told
returns-then-not-is_autocommit-clause-told g c = grind arith

pub returns-then-not-is_autocommit-clause-untouched : goal.returns-then-not-is_autocommit-clause-untouched
returns-then-not-is_autocommit-clause-untouched g c = grind arith

pub returns-then-not-is_empty-clause-crash : goal.returns-then-not-is_empty-clause-crash
returns-then-not-is_empty-clause-crash g c = grind arith

pub returns-then-not-is_empty-clause-durable : goal.returns-then-not-is_empty-clause-durable
returns-then-not-is_empty-clause-durable g c = grind arith

pub returns-then-not-is_empty-clause-exists : goal.returns-then-not-is_empty-clause-exists
returns-then-not-is_empty-clause-exists g c = grind arith

pub returns-then-not-is_empty-clause-made : goal.returns-then-not-is_empty-clause-made
returns-then-not-is_empty-clause-made g c = grind arith

pub returns-then-not-is_empty-clause-spares : goal.returns-then-not-is_empty-clause-spares
returns-then-not-is_empty-clause-spares g c = grind arith

pub returns-then-not-is_empty-clause-told : goal.returns-then-not-is_empty-clause-told
returns-then-not-is_empty-clause-told g c = grind arith
