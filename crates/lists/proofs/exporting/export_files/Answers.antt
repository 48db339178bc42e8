use Rattle.std.proofs.Common.{◌≡◌, ◌∙◌, ℕ, Err, refl, sym, subst, arith}
use Rattle.std.proofs.lemmas.Result.{err_from_is_err_and}
use Rattle.std.specs.declared.cmp.Ordering.TheVariants.{Less}
use Rattle.sigtext.specs.Counts.{CountsErrors}
use Rattle.boxes.specs.Bound.{StaysBy}
use Rattle.boxes.specs.State.{Place, place_cmp}
use Rattle.lists.specs.Asking.{stays_joined, stays_unasked}
use Rattle.lists.specs.Places.{place_in}
use Rattle.lists.specs.Exports.{files_in, named_box}
use Rattle.lists.specs.Faults.{by_files, by_keeper, by_sums, was_put, IsOfAsking}
use Rattle.lists.specs.declared.export_fault.ExportFault.{ExportFault}
use Rattle.lists.specs.declared.export_fault.ExportFault.TheVariants as fault
use Rattle.lists.proofs.BoxFiles.{in_files, start_before, start_inside}
use Rattle.lists.proofs.Walks.{none_first, walk_begins, walk_breaks, walk_ends, walk_moves, walk_stops}
use Rattle.lists.proofs.exporting.export_files.Goals as goal

-- a fault of the keeper or of memory counts for no writer
asked_files : {a b : ℕ} (f : ExportFault) → IsOfAsking f → b ≡ a → CountsErrors a b (by_files {T = Unit {0}} (Err f))
asked_files (fault.Keep f) is same = record { err = tt; ok = same }
asked_files fault.Memory is same = record { err = tt; ok = same }
asked_files (fault.Put f) is same = absurd is
asked_files fault.Files is same = absurd is
asked_files fault.Sums is same = absurd is

asked_sums : {a b : ℕ} (f : ExportFault) → IsOfAsking f → b ≡ a → CountsErrors a b (by_sums {T = Unit {0}} (Err f))
asked_sums (fault.Keep f) is same = record { err = tt; ok = same }
asked_sums fault.Memory is same = record { err = tt; ok = same }
asked_sums (fault.Put f) is same = absurd is
asked_sums fault.Files is same = absurd is
asked_sums fault.Sums is same = absurd is

pub returns-in_err-after-clause-sent : goal.returns-in_err-after-clause-sent
returns-in_err-after-clause-sent g c =
    let told = err_from_is_err_and c.from_residual.result c.from_residual.ensures.1 in
    λ s meant. rw told.1 (none_first s _ _ told.0)

pub files-init : goal.files-init
files-init g c = record {
  stays = stays_unasked _;
  files_count = refl;
  sums_count = refl;
  inside = start_inside (named_box c.args.in_box) (place_in c.in_ok-after.after) c.in_ok-after.ensures.start;
  walked = λ s (means, sound, honest).
      walk_begins s (files_in (named_box c.args.in_box) s) (place_in c.in_ok-after.after) _ (λ k there.
      subst (λ (p : Place). place_cmp p k ≡ Less) (sym c.in_ok-after.ensures.start) (start_before (named_box c.args.in_box) s k sound there));
}

pub next_place-requires : goal.next_place-requires
next_place-requires g c = c.files.invariant.inside

pub returns-in_err-place-clause-sent : goal.returns-in_err-place-clause-sent
returns-in_err-place-clause-sent g c =
    let told = err_from_is_err_and c.from_residual-in_err-place.result c.from_residual-in_err-place.ensures.1 in
    λ s (means, sound, honest).
    let walked = c.files.invariant.walked s (means, sound, c.next_place.ensures.stays.honest honest) in
    rw told.1 (walk_breaks s (files_in (named_box c.args.in_box) s) (place_in c.files.after) _ _ told.0 walked)

pub returns-in_default-clause-sent : goal.returns-in_default-clause-sent
returns-in_default-clause-sent g c = λ s (means, sound, honest).
    let walked = c.files.invariant.walked s (means, sound, c.next_place.ensures.stays.honest honest) in
    let next = rw c.in_default.is at c.in_ok-place.ensures.next s (c.files.invariant.stays.same s means, sound, honest) in
    walk_ends s (files_in (named_box c.args.in_box) s) (place_in c.files.after) _ _ tt walked next

pub returns-in_err-export_file-clause-sent : goal.returns-in_err-export_file-clause-sent
returns-in_err-export_file-clause-sent g c =
    let told = err_from_is_err_and c.from_residual-in_err-export_file.result c.from_residual-in_err-export_file.ensures.1 in
    λ s (means, sound, honest).
    let before = c.export_file.ensures.stays.honest honest in
    let here = c.files.invariant.stays.same s means in
    let walked = c.files.invariant.walked s (means, sound, c.next_place.ensures.stays.honest before) in
    let next = rw c.in-Some.is at c.in_ok-place.ensures.next s (here, sound, before) in
    rw (told.1, told.2) (walk_stops s (files_in (named_box c.args.in_box) s) (place_in c.files.after) (place_in c.in-Some.place) _ _ _ tt c.in_err-export_file.field-0.0 (was_put {T = Unit {0}} (Err c.in_err-export_file.field-0.0)) walked next (λ f there.
    c.in_err-export_file.ensures.sent s (c.next_place.ensures.stays.same s here, sound, honest) f (in_files (named_box c.args.in_box) s (place_in c.in-Some.place) f there)))

pub files-preserved : goal.files-preserved
files-preserved g c = record {
  stays = stays_joined _ _ _ _ (stays_joined _ _ _ _ c.files.invariant.stays c.in_ok-place.ensures.stays) c.in_ok-export_file.ensures.stays;
  files_count = c.in_ok-export_file.ensures.files_count.ok ∙ c.files.invariant.files_count;
  sums_count = c.in_ok-export_file.ensures.sums_count.ok ∙ c.files.invariant.sums_count;
  inside = rw c.in-Some.is at c.in_ok-place.ensures.inside;
  walked = λ s (means, sound, honest).
      let before = c.export_file.ensures.stays.honest honest in
      let here = c.files.invariant.stays.same s means in
      let walked = c.files.invariant.walked s (means, sound, c.next_place.ensures.stays.honest before) in
      let next = rw c.in-Some.is at c.in_ok-place.ensures.next s (here, sound, before) in
      walk_moves s (files_in (named_box c.args.in_box) s) (place_in c.files.after) (place_in c.in-Some.place) _ _ _ c.in_ok-export_file.field-0 walked next (λ f there.
      c.in_ok-export_file.ensures.sent s (c.next_place.ensures.stays.same s here, sound, honest) f (in_files (named_box c.args.in_box) s (place_in c.in-Some.place) f there));
}

pub returns-clause-sent : goal.returns-clause-sent
returns-clause-sent g c = λ s meant.
    walk_breaks s (files_in (named_box c.args.in_box) s) (place_in c.files.after) _ _ _ (c.files.invariant.walked s meant)

pub returns-clause-files_count : goal.returns-clause-files_count
returns-clause-files_count g c = grind arith

pub returns-clause-stays : goal.returns-clause-stays
returns-clause-stays g c = grind arith

pub returns-clause-sums_count : goal.returns-clause-sums_count
returns-clause-sums_count g c = grind arith

pub returns-in_default-clause-files_count : goal.returns-in_default-clause-files_count
returns-in_default-clause-files_count g c = grind arith

pub returns-in_default-clause-stays : goal.returns-in_default-clause-stays
returns-in_default-clause-stays g c = grind arith

pub returns-in_default-clause-sums_count : goal.returns-in_default-clause-sums_count
returns-in_default-clause-sums_count g c = grind arith

pub returns-in_err-after-clause-stays : goal.returns-in_err-after-clause-stays
returns-in_err-after-clause-stays g c = grind arith

-- ---- what was counted

pub returns-in_err-place-clause-stays : goal.returns-in_err-place-clause-stays
returns-in_err-place-clause-stays g c =
    let told = err_from_is_err_and c.from_residual-in_err-place.result c.from_residual-in_err-place.ensures.1 in
    rw told.1 (subst (λ f. StaysBy g.K.Keeper c.args.keeper.now c.next_place.new.keeper (by_keeper {T = Unit {0}} (Err f))) (sym told.2)
    (stays_joined _ _ _ _ c.files.invariant.stays c.in_err-place.ensures.stays))

pub returns-in_err-place-clause-files_count : goal.returns-in_err-place-clause-files_count
returns-in_err-place-clause-files_count g c =
    let told = err_from_is_err_and c.from_residual-in_err-place.result c.from_residual-in_err-place.ensures.1 in
    rw told.1 (asked_files told.0 (subst IsOfAsking (sym told.2) c.in_err-place.ensures.fault) c.files.invariant.files_count)

pub returns-in_err-place-clause-sums_count : goal.returns-in_err-place-clause-sums_count
returns-in_err-place-clause-sums_count g c =
    let told = err_from_is_err_and c.from_residual-in_err-place.result c.from_residual-in_err-place.ensures.1 in
    rw told.1 (asked_sums told.0 (subst IsOfAsking (sym told.2) c.in_err-place.ensures.fault) c.files.invariant.sums_count)

pub returns-in_err-export_file-clause-stays : goal.returns-in_err-export_file-clause-stays
returns-in_err-export_file-clause-stays g c =
    let told = err_from_is_err_and c.from_residual-in_err-export_file.result c.from_residual-in_err-export_file.ensures.1 in
    rw (told.1, told.2) (stays_joined _ _ _ _ (stays_joined _ _ _ _ c.files.invariant.stays c.in_ok-place.ensures.stays) c.in_err-export_file.ensures.stays)

pub returns-in_err-export_file-clause-files_count : goal.returns-in_err-export_file-clause-files_count
returns-in_err-export_file-clause-files_count g c =
    let told = err_from_is_err_and c.from_residual-in_err-export_file.result c.from_residual-in_err-export_file.ensures.1 in
    rw (told.1, told.2) (subst (λ n. CountsErrors n c.export_file.new.files.faults (by_files {T = Unit {0}} (Err c.in_err-export_file.field-0.0))) c.files.invariant.files_count c.in_err-export_file.ensures.files_count)

pub returns-in_err-export_file-clause-sums_count : goal.returns-in_err-export_file-clause-sums_count
returns-in_err-export_file-clause-sums_count g c =
    let told = err_from_is_err_and c.from_residual-in_err-export_file.result c.from_residual-in_err-export_file.ensures.1 in
    rw (told.1, told.2) (subst (λ n. CountsErrors n c.export_file.new.sums.faults (by_sums {T = Unit {0}} (Err c.in_err-export_file.field-0.0))) c.files.invariant.sums_count c.in_err-export_file.ensures.sums_count)
