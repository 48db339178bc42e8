use Rattle.std.proofs.Common.{◌∙◌, ℕ, List, [], Some, None, refl, sym, subst}
use Rattle.std.proofs.lemmas.Result.{err_from_is_err_and}
use Rattle.sigtext.specs.Bytes.{bytes_cmp}
use Rattle.boxes.proofs.Lookups.{bytes_same, bytes_total}
use Rattle.lists.proofs.ToldLines.{box_line_told, box_moments}
use Rattle.wire.proofs.Written.{sends_same}
use Rattle.lists.specs.Asking.{stays_joined, stays_unasked}
use Rattle.boxes.specs.Next.{IsBox, IsNext}
use Rattle.lists.specs.Boxes.{IsBoxLine}
use Rattle.lists.proofs.NextFiles.{box_behind}
use Rattle.lists.proofs.Walked.{walk_begins, walk_breaks, walk_ends, walk_moves, walk_stops, Walked}
use Rattle.lists.specs.Lists.{IsOfAnswering, IsOfManifest}
use Rattle.lists.specs.declared.list_fault.ListFault.TheVariants as fault
use Rattle.lists.proofs.Passed.{passed_count, passed_fault, passed_manifest, passed_other, passed_stays, passed_write}
use Rattle.lists.proofs.box_list.send_boxes.Goals as goal

pub boxes-init : goal.boxes-init
boxes-init g c = record {
  stays = stays_unasked _;
  count = refl;
  walked = λ s (means, sound, honest).
      subst (λ (a : List ℕ). Walked s.boxes (IsBoxLine s) a (g.W.Write.contents c.args.out.now.inner) (g.W.Write.contents c.args.out.now.inner)) (sym c.new-after.ensures.items)
      (walk_begins s.boxes (IsBoxLine s) bytes_total bytes_same [] _ (λ k there. box_behind s k sound there));
}

pub returns-in_err-listed-clause-sent : goal.returns-in_err-listed-clause-sent
returns-in_err-listed-clause-sent g c =
    let told = err_from_is_err_and c.from_residual.result c.from_residual.ensures.1 in
    λ s (means, sound, honest).
    let walked = c.boxes.invariant.walked s (means, sound, c.next_box.ensures.stays.honest honest) in
    rw told.1 (walk_breaks s.boxes (IsBoxLine s) c.boxes.after.items _ _ told.0 walked)

pub returns-in_default-clause-sent : goal.returns-in_default-clause-sent
returns-in_default-clause-sent g c = λ s (means, sound, honest).
    let walked = c.boxes.invariant.walked s (means, sound, c.next_box.ensures.stays.honest honest) in
    let next = subst (λ (a : List ℕ). IsNext bytes_cmp (IsBox s) a None) c.deref.ensures.value (rw c.in_default.is at c.in_ok-listed.ensures.next s (c.boxes.invariant.stays.same s means, sound, honest)) in
    walk_ends s.boxes (IsBoxLine s) bytes_total bytes_same c.boxes.after.items _ _ tt walked next

pub returns-in_err-text-clause-sent : goal.returns-in_err-text-clause-sent
returns-in_err-text-clause-sent g c =
    let told = err_from_is_err_and c.from_residual-in_err-text.result c.from_residual-in_err-text.ensures.1 in
    λ s (means, sound, honest).
    let walked = c.boxes.invariant.walked s (means, sound, c.next_box.ensures.stays.honest honest) in
    rw told.1 (walk_breaks s.boxes (IsBoxLine s) c.boxes.after.items _ _ told.0 walked)

pub returns-clause-sent : goal.returns-clause-sent
returns-clause-sent g c = λ s meant. walk_breaks s.boxes (IsBoxLine s) c.boxes.after.items _ _ _ (c.boxes.invariant.walked s meant)

pub returns-in_err-send_text-clause-sent : goal.returns-in_err-send_text-clause-sent
returns-in_err-send_text-clause-sent g c =
    let told = err_from_is_err_and c.from_residual-in_err-send_text.result c.from_residual-in_err-send_text.ensures.1 in
    λ s (means, sound, honest).
    let walked = c.boxes.invariant.walked s (means, sound, c.next_box.ensures.stays.honest honest) in
    let next = subst (λ (a : List ℕ). IsNext bytes_cmp (IsBox s) a (Some c.in-Some.listed.name.items)) c.deref.ensures.value (rw c.in-Some.is at c.in_ok-listed.ensures.next s (c.boxes.invariant.stays.same s means, sound, honest)) in
    let row = rw c.in-Some.is at c.in_ok-listed.ensures.row s (c.boxes.invariant.stays.same s means, sound, honest) in
    let totals = rw c.in-Some.is at c.in_ok-listed.ensures.totals s (c.boxes.invariant.stays.same s means, sound, honest) in
    let moments = box_moments s c.in-Some.listed.name.items c.in-Some.listed.row sound row in
    let sent = sends_same c.deref-in-boxes.ensures.value c.in_err-send_text.ensures.sent in
    rw told.1 (walk_stops s.boxes (IsBoxLine s) bytes_total bytes_same c.boxes.after.items c.in-Some.listed.name.items c.in_ok-text.text.items _ _ _ tt c.in_err-send_text.field-0.0 told.0 walked next (λ b there. box_line_told s c.in-Some.listed.name.items c.in-Some.listed.row c.in-Some.listed.totals b c.in_ok-text.text.items row totals (c.in_ok-text.ensures.line moments.0 moments.1) there) sent)

pub boxes-preserved : goal.boxes-preserved
boxes-preserved g c = record {
  stays = stays_joined _ _ _ _ c.boxes.invariant.stays c.in_ok-listed.ensures.stays;
  count = c.in_ok-send_text.ensures.count.ok ∙ c.boxes.invariant.count;
  walked = λ s (means, sound, honest).
      let walked = c.boxes.invariant.walked s (means, sound, c.next_box.ensures.stays.honest honest) in
      let next = subst (λ (a : List ℕ). IsNext bytes_cmp (IsBox s) a (Some c.in-Some.listed.name.items)) c.deref.ensures.value (rw c.in-Some.is at c.in_ok-listed.ensures.next s (c.boxes.invariant.stays.same s means, sound, honest)) in
      let row = rw c.in-Some.is at c.in_ok-listed.ensures.row s (c.boxes.invariant.stays.same s means, sound, honest) in
      let totals = rw c.in-Some.is at c.in_ok-listed.ensures.totals s (c.boxes.invariant.stays.same s means, sound, honest) in
      let moments = box_moments s c.in-Some.listed.name.items c.in-Some.listed.row sound row in
      let sent = sends_same c.deref-in-boxes.ensures.value c.in_ok-send_text.ensures.sent in
      walk_moves s.boxes (IsBoxLine s) bytes_total bytes_same c.boxes.after.items c.in-Some.listed.name.items c.in_ok-text.text.items _ _ _ tt walked next (λ b there. box_line_told s c.in-Some.listed.name.items c.in-Some.listed.row c.in-Some.listed.totals b c.in_ok-text.text.items row totals (c.in_ok-text.ensures.line moments.0 moments.1) there) sent;
}

pub returns-in_err-listed-clause-stays : goal.returns-in_err-listed-clause-stays
returns-in_err-listed-clause-stays g c = passed_stays _ _ _ c.from_residual.result c.in_err-listed.field-0.0 c.from_residual.ensures.1 c.boxes.invariant.stays c.in_err-listed.ensures.stays

pub returns-in_err-listed-clause-count : goal.returns-in_err-listed-clause-count
returns-in_err-listed-clause-count g c = passed_count c.from_residual.result c.in_err-listed.field-0.0 _ _ c.from_residual.ensures.1 c.in_err-listed.ensures.fault c.boxes.invariant.count

pub returns-in_err-listed-clause-fault : goal.returns-in_err-listed-clause-fault
returns-in_err-listed-clause-fault g c = passed_fault c.from_residual.result c.in_err-listed.field-0.0 c.from_residual.ensures.1 c.in_err-listed.ensures.fault

pub returns-in_default-clause-stays : goal.returns-in_default-clause-stays
returns-in_default-clause-stays g c = stays_joined _ _ _ _ c.boxes.invariant.stays c.in_ok-listed.ensures.stays

pub returns-in_default-clause-count : goal.returns-in_default-clause-count
returns-in_default-clause-count g c = record { err = tt; ok = c.boxes.invariant.count }

pub returns-in_default-clause-fault : goal.returns-in_default-clause-fault
returns-in_default-clause-fault g c = tt

pub returns-in_err-text-clause-stays : goal.returns-in_err-text-clause-stays
returns-in_err-text-clause-stays g c = passed_other _ _ _ c.from_residual-in_err-text.result c.in_err-text.field-0.0 fault.Memory c.from_residual-in_err-text.ensures.1 c.in_err-text.ensures.memory refl c.boxes.invariant.stays c.in_ok-listed.ensures.stays

pub returns-in_err-text-clause-count : goal.returns-in_err-text-clause-count
returns-in_err-text-clause-count g c = passed_count c.from_residual-in_err-text.result c.in_err-text.field-0.0 _ _ c.from_residual-in_err-text.ensures.1 (subst IsOfAnswering (sym c.in_err-text.ensures.memory) tt) c.boxes.invariant.count

pub returns-in_err-text-clause-fault : goal.returns-in_err-text-clause-fault
returns-in_err-text-clause-fault g c = passed_fault c.from_residual-in_err-text.result c.in_err-text.field-0.0 c.from_residual-in_err-text.ensures.1 (subst IsOfAnswering (sym c.in_err-text.ensures.memory) tt)

pub returns-in_err-send_text-clause-stays : goal.returns-in_err-send_text-clause-stays
returns-in_err-send_text-clause-stays g c = passed_other _ _ _ c.from_residual-in_err-send_text.result c.in_err-send_text.field-0.0 fault.Write c.from_residual-in_err-send_text.ensures.1 c.in_err-send_text.ensures.fault refl c.boxes.invariant.stays c.in_ok-listed.ensures.stays

pub returns-in_err-send_text-clause-count : goal.returns-in_err-send_text-clause-count
returns-in_err-send_text-clause-count g c = passed_write c.from_residual-in_err-send_text.result c.in_err-send_text.field-0.0 _ _ _ c.from_residual-in_err-send_text.ensures.1 c.boxes.invariant.count c.in_err-send_text.ensures.count

pub returns-in_err-send_text-clause-fault : goal.returns-in_err-send_text-clause-fault
returns-in_err-send_text-clause-fault g c = passed_manifest c.from_residual-in_err-send_text.result c.in_err-send_text.field-0.0 c.from_residual-in_err-send_text.ensures.1 (subst IsOfManifest (sym c.in_err-send_text.ensures.fault) tt)

pub returns-clause-stays : goal.returns-clause-stays
returns-clause-stays g c = c.boxes.invariant.stays

pub returns-clause-count : goal.returns-clause-count
returns-clause-count g c = record { err = tt; ok = c.boxes.invariant.count }

pub returns-clause-fault : goal.returns-clause-fault
returns-clause-fault g c = tt
