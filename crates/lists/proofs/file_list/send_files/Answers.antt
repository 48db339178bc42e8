use Rattle.std.proofs.Common.{◌∙◌, [], refl, sym, subst}
use Rattle.std.proofs.lemmas.Result.{err_from_is_err_and}
use Rattle.boxes.specs.State.{Place}
use Rattle.boxes.proofs.FileTotals.{place_same}
use Rattle.boxes.proofs.Lookups.{place_total}
use Rattle.lists.specs.Places.{place_in}
use Rattle.lists.proofs.ToldLines.{file_line_told, file_moment}
use Rattle.wire.proofs.Written.{sends_same}
use Rattle.lists.specs.Asking.{stays_joined, stays_unasked}
use Rattle.lists.specs.Files.{IsFileLine}
use Rattle.lists.proofs.NextFiles.{place_behind}
use Rattle.lists.proofs.Walked.{walk_begins, walk_breaks, walk_ends, walk_moves, walk_stops, Walked}
use Rattle.lists.specs.Lists.{IsOfAnswering, IsOfManifest}
use Rattle.lists.specs.declared.list_fault.ListFault.TheVariants as fault
use Rattle.lists.proofs.Passed.{passed_count, passed_fault, passed_manifest, passed_other, passed_stays, passed_write}
use Rattle.lists.proofs.file_list.send_files.Goals as goal

pub files-init : goal.files-init
files-init g c = record {
  stays = stays_unasked _;
  count = refl;
  walked = λ s (means, sound, honest).
      subst (λ (a : Place). Walked s.files (IsFileLine s) a (g.W.Write.contents c.args.out.now.inner) (g.W.Write.contents c.args.out.now.inner))
      (λ i. record { box = sym c.new.ensures.items i; name = sym c.new-2.ensures.items i })
      (walk_begins s.files (IsFileLine s) place_total place_same (record { box = []; name = [] }) _ (λ k there. place_behind s k sound there));
}

pub returns-in_err-file-clause-sent : goal.returns-in_err-file-clause-sent
returns-in_err-file-clause-sent g c =
    let told = err_from_is_err_and c.from_residual.result c.from_residual.ensures.1 in
    λ s (means, sound, honest).
    let walked = c.files.invariant.walked s (means, sound, c.next_listed.ensures.stays.honest honest) in
    rw told.1 (walk_breaks s.files (IsFileLine s) (place_in c.files.after) _ _ told.0 walked)

pub returns-in_default-clause-sent : goal.returns-in_default-clause-sent
returns-in_default-clause-sent g c = λ s (means, sound, honest).
    let walked = c.files.invariant.walked s (means, sound, c.next_listed.ensures.stays.honest honest) in
    let next = rw c.in_default.is at c.in_ok-file.ensures.next s (c.files.invariant.stays.same s means, sound, honest) in
    walk_ends s.files (IsFileLine s) place_total place_same (place_in c.files.after) _ _ tt walked next

pub returns-in_err-text-clause-sent : goal.returns-in_err-text-clause-sent
returns-in_err-text-clause-sent g c =
    let told = err_from_is_err_and c.from_residual-in_err-text.result c.from_residual-in_err-text.ensures.1 in
    λ s (means, sound, honest).
    let walked = c.files.invariant.walked s (means, sound, c.next_listed.ensures.stays.honest honest) in
    rw told.1 (walk_breaks s.files (IsFileLine s) (place_in c.files.after) _ _ told.0 walked)

pub returns-clause-sent : goal.returns-clause-sent
returns-clause-sent g c = λ s meant. walk_breaks s.files (IsFileLine s) (place_in c.files.after) _ _ _ (c.files.invariant.walked s meant)

pub returns-in_err-send_text-clause-sent : goal.returns-in_err-send_text-clause-sent
returns-in_err-send_text-clause-sent g c =
    let told = err_from_is_err_and c.from_residual-in_err-send_text.result c.from_residual-in_err-send_text.ensures.1 in
    λ s (means, sound, honest).
    let walked = c.files.invariant.walked s (means, sound, c.next_listed.ensures.stays.honest honest) in
    let next = rw c.in-Some.is at c.in_ok-file.ensures.next s (c.files.invariant.stays.same s means, sound, honest) in
    let receipt = rw c.in-Some.is at c.in_ok-file.ensures.receipt s (c.files.invariant.stays.same s means, sound, honest) in
    let moment = file_moment s (place_in c.in-Some.file.place) c.in-Some.file.receipt sound receipt in
    let sent = sends_same c.deref.ensures.value c.in_err-send_text.ensures.sent in
    rw told.1 (walk_stops s.files (IsFileLine s) place_total place_same (place_in c.files.after) (place_in c.in-Some.file.place) c.in_ok-text.text.items _ _ _ tt c.in_err-send_text.field-0.0 told.0 walked next (λ f there. file_line_told s (place_in c.in-Some.file.place) c.in-Some.file.receipt f c.in_ok-text.text.items sound receipt (c.in_ok-text.ensures.line moment) there) sent)

pub files-preserved : goal.files-preserved
files-preserved g c = record {
  stays = stays_joined _ _ _ _ c.files.invariant.stays c.in_ok-file.ensures.stays;
  count = c.in_ok-send_text.ensures.count.ok ∙ c.files.invariant.count;
  walked = λ s (means, sound, honest).
      let walked = c.files.invariant.walked s (means, sound, c.next_listed.ensures.stays.honest honest) in
      let next = rw c.in-Some.is at c.in_ok-file.ensures.next s (c.files.invariant.stays.same s means, sound, honest) in
      let receipt = rw c.in-Some.is at c.in_ok-file.ensures.receipt s (c.files.invariant.stays.same s means, sound, honest) in
      let moment = file_moment s (place_in c.in-Some.file.place) c.in-Some.file.receipt sound receipt in
      let sent = sends_same c.deref.ensures.value c.in_ok-send_text.ensures.sent in
      walk_moves s.files (IsFileLine s) place_total place_same (place_in c.files.after) (place_in c.in-Some.file.place) c.in_ok-text.text.items _ _ _ tt walked next (λ f there. file_line_told s (place_in c.in-Some.file.place) c.in-Some.file.receipt f c.in_ok-text.text.items sound receipt (c.in_ok-text.ensures.line moment) there) sent;
}

pub returns-in_err-file-clause-stays : goal.returns-in_err-file-clause-stays
returns-in_err-file-clause-stays g c = passed_stays _ _ _ c.from_residual.result c.in_err-file.field-0.0 c.from_residual.ensures.1 c.files.invariant.stays c.in_err-file.ensures.stays

pub returns-in_err-file-clause-count : goal.returns-in_err-file-clause-count
returns-in_err-file-clause-count g c = passed_count c.from_residual.result c.in_err-file.field-0.0 _ _ c.from_residual.ensures.1 c.in_err-file.ensures.fault c.files.invariant.count

pub returns-in_err-file-clause-fault : goal.returns-in_err-file-clause-fault
returns-in_err-file-clause-fault g c = passed_fault c.from_residual.result c.in_err-file.field-0.0 c.from_residual.ensures.1 c.in_err-file.ensures.fault

pub returns-in_default-clause-stays : goal.returns-in_default-clause-stays
returns-in_default-clause-stays g c = stays_joined _ _ _ _ c.files.invariant.stays c.in_ok-file.ensures.stays

pub returns-in_default-clause-count : goal.returns-in_default-clause-count
returns-in_default-clause-count g c = record { err = tt; ok = c.files.invariant.count }

pub returns-in_default-clause-fault : goal.returns-in_default-clause-fault
returns-in_default-clause-fault g c = tt

pub returns-in_err-text-clause-stays : goal.returns-in_err-text-clause-stays
returns-in_err-text-clause-stays g c = passed_other _ _ _ c.from_residual-in_err-text.result c.in_err-text.field-0.0 fault.Memory c.from_residual-in_err-text.ensures.1 c.in_err-text.ensures.memory refl c.files.invariant.stays c.in_ok-file.ensures.stays

pub returns-in_err-text-clause-count : goal.returns-in_err-text-clause-count
returns-in_err-text-clause-count g c = passed_count c.from_residual-in_err-text.result c.in_err-text.field-0.0 _ _ c.from_residual-in_err-text.ensures.1 (subst IsOfAnswering (sym c.in_err-text.ensures.memory) tt) c.files.invariant.count

pub returns-in_err-text-clause-fault : goal.returns-in_err-text-clause-fault
returns-in_err-text-clause-fault g c = passed_fault c.from_residual-in_err-text.result c.in_err-text.field-0.0 c.from_residual-in_err-text.ensures.1 (subst IsOfAnswering (sym c.in_err-text.ensures.memory) tt)

pub returns-in_err-send_text-clause-stays : goal.returns-in_err-send_text-clause-stays
returns-in_err-send_text-clause-stays g c = passed_other _ _ _ c.from_residual-in_err-send_text.result c.in_err-send_text.field-0.0 fault.Write c.from_residual-in_err-send_text.ensures.1 c.in_err-send_text.ensures.fault refl c.files.invariant.stays c.in_ok-file.ensures.stays

pub returns-in_err-send_text-clause-count : goal.returns-in_err-send_text-clause-count
returns-in_err-send_text-clause-count g c = passed_write c.from_residual-in_err-send_text.result c.in_err-send_text.field-0.0 _ _ _ c.from_residual-in_err-send_text.ensures.1 c.files.invariant.count c.in_err-send_text.ensures.count

pub returns-in_err-send_text-clause-fault : goal.returns-in_err-send_text-clause-fault
returns-in_err-send_text-clause-fault g c = passed_manifest c.from_residual-in_err-send_text.result c.in_err-send_text.field-0.0 c.from_residual-in_err-send_text.ensures.1 (subst IsOfManifest (sym c.in_err-send_text.ensures.fault) tt)

pub returns-clause-stays : goal.returns-clause-stays
returns-clause-stays g c = c.files.invariant.stays

pub returns-clause-count : goal.returns-clause-count
returns-clause-count g c = record { err = tt; ok = c.files.invariant.count }

pub returns-clause-fault : goal.returns-clause-fault
returns-clause-fault g c = tt
