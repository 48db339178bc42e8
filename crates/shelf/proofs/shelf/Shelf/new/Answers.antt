use Rattle.std.proofs.Common.{◌≡◌, ◌∙◌, ℕ, ◌+◌, ◌≤◌, List, [], length, map, Some, None, refl, sym, ap, subst, arith}
use Rattle.std.specs.FinMap.{empty, insert, get-empty}
use Rattle.sigtext.specs.Bytes.{bytes_cmp}
use Rattle.sigv4.specs.Allowances.{most_allowance}
use Rattle.boxes.specs.declared.rows.Role.TheVariants.{Clerk}
use Rattle.boxes.specs.State.{State, place_cmp}
use Rattle.boxes.specs.Rows.{key_of, numbered_receipt}
use Rattle.boxes.specs.Clerks.{clerks}
use Rattle.boxes.specs.FirstState.{first_state}
use Rattle.boxes.proofs.Lookups.{bytes_total, place_total, some_none}
use Rattle.boxes.proofs.SoundFirstState.{sound_first_state}
use Rattle.shelf.specs.Maps.{found, MapMeans}
use Rattle.shelf.specs.Shelves.{bytes_of, place_of, shelved_settings, stored_file, added_key}
use Rattle.shelf.proofs.MapLemmas.{means-empty, means-set, sets_of}
use Rattle.shelf.proofs.ClerkCounts.{no_clerks, clerks_added}
use Rattle.shelf.proofs.LimitLemmas.{no_limits}
use Rattle.shelf.proofs.shelf.Shelf.new.Goals as goal

few : (allowance seconds : ℕ) → seconds ≡ allowance → seconds ≤ most_allowance → allowance ≤ most_allowance
few allowance seconds is bound = subst (λ n. n ≤ most_allowance) is bound

pub returns-in_default-clause-sound : goal.returns-in_default-clause-sound
returns-in_default-clause-sound c = λ west east id secret. sound_first_state c.args.office.east c.args.office.allowance c.args.id.now c.args.secret.now west east (few c.args.office.allowance c.seconds.result c.seconds.ensures.value c.seconds.ensures.bound) id secret

pub returns-in-Ok-insert-clause-sound : goal.returns-in-Ok-insert-clause-sound
returns-in-Ok-insert-clause-sound c = λ west east id secret. sound_first_state c.args.office.east c.args.office.allowance c.args.id.now c.args.secret.now west east (few c.args.office.allowance c.seconds.result c.seconds.ensures.value c.seconds.ensures.bound) id secret

pub returns-in-Err-clause-sound : goal.returns-in-Err-clause-sound
returns-in-Err-clause-sound c = λ west east id secret. sound_first_state c.args.office.east c.args.office.allowance c.args.id.now c.args.secret.now west east (few c.args.office.allowance c.seconds.result c.seconds.ensures.value c.seconds.ensures.bound) id secret

pub returns-in-Ok-insert-clause-means : goal.returns-in-Ok-insert-clause-means
unfolding first_state
returns-in-Ok-insert-clause-means c =
    let added = added_key Clerk c.args.secret.now in
    let made = c.in-Ok.ensures in
    let bare : State = record { offset = c.args.office.east; allowance = c.args.office.allowance; keys = empty; boxes = empty; files = empty; receipts = []; limits = empty } in
    let keyed : insert (empty {R = bytes_cmp}) c.in-Ok.id.items (key_of c.in-Ok.row) ≡ insert empty c.args.id.now added =
    ap (λ (i : List ℕ). insert empty i (key_of c.in-Ok.row)) made.0 ∙ ap (insert empty c.args.id.now) made.1 in
    let no_keys : MapMeans bytes_cmp bytes_of key_of c.new-keys.result.entries empty = rw c.new-keys.ensures.empty (means-empty bytes_cmp bytes_of bytes_total key_of) in
    let sets = sets_of bytes_cmp bytes_of bytes_total c.new-keys.result c.insert.new.self c.in-Ok.id.items (Some c.in-Ok.row) c.in-Ok-insert.ensures.updates in
    let means = means-set bytes_cmp bytes_of bytes_total key_of c.new-keys.result.entries c.insert.new.self.entries empty c.in-Ok.id.items c.in-Ok.row no_keys sets in
    let one : clerks (first_state c.args.office.east c.args.office.allowance c.args.id.now c.args.secret.now) ≡ 1 = clerks_added bare c.args.id.now added (get-empty bytes_cmp c.args.id.now) ∙ ap (λ n. n + 1) (no_clerks bare refl) in
    let missing : c.in-Ok-insert.field-0 ≡ None = c.in-Ok-insert.ensures.old ∙ ap (λ es. found bytes_cmp bytes_of es c.in-Ok.id.items) c.new-keys.ensures.empty in
    let longer = rw missing at c.in-Ok-insert.ensures.len in
    let long : length c.new-keys.result.entries ≡ 0 = ap length c.new-keys.ensures.empty in
    record {
      offset = refl;
      allowance = refl;
      keys = subst (MapMeans bytes_cmp bytes_of key_of c.insert.new.self.entries) keyed means;
      boxes = rw c.new.ensures.empty (means-empty bytes_cmp bytes_of bytes_total shelved_settings);
      files = rw c.new-in-Ok-insert.ensures.empty (means-empty place_cmp place_of place_total stored_file);
      receipts = ap (map numbered_receipt) c.new-in-Ok-insert-3.ensures.items;
      totals = λ name b e. absurd (some_none b (sym e ∙ ap (λ es. found bytes_cmp bytes_of es name) c.new.ensures.empty));
      clerks = sym one;
      fewer = omega (arith, longer, long);
      limits = rw c.new-in-Ok-insert-2.ensures.empty no_limits;
    }
