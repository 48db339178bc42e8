use Rattle.std.proofs.Common.{◌∙◌, ℕ, List, [], Some, None, map, refl, sym, subst}
use Rattle.std.proofs.lemmas.Result.{err_from_is_err_and}
use Rattle.sigtext.specs.Bytes.{bytes_cmp}
use Rattle.boxes.proofs.Lookups.{bytes_same, bytes_total}
use Rattle.lists.proofs.ToldLines.{key_line_told}
use Rattle.wire.proofs.Written.{sends_same}
use Rattle.lists.specs.Asking.{stays_joined, stays_unasked}
use Rattle.boxes.specs.Next.{IsKey, IsNext}
use Rattle.lists.specs.Keys.{IsKeyLine}
use Rattle.lists.proofs.NextFiles.{key_behind}
use Rattle.lists.proofs.Walked.{walk_begins, walk_breaks, walk_ends, walk_moves, walk_stops, Walked}
use Rattle.lists.specs.Lists.{IsOfAnswering, IsOfManifest}
use Rattle.lists.specs.declared.list_fault.ListFault.TheVariants as fault
use Rattle.lists.proofs.Passed.{passed_count, passed_fault, passed_manifest, passed_other, passed_stays, passed_write}
use Rattle.lists.proofs.key_list.send_keys.Goals as goal

pub keys-init : goal.keys-init
keys-init g c = record {
  stays = stays_unasked _;
  count = refl;
  walked = λ s (means, sound, honest).
      subst (λ (a : List ℕ). Walked s.keys (IsKeyLine s) a (g.W.Write.contents c.args.out.now.inner) (g.W.Write.contents c.args.out.now.inner)) (sym c.new-after.ensures.items)
      (walk_begins s.keys (IsKeyLine s) bytes_total bytes_same [] _ (λ k there. key_behind s k sound there));
}

pub returns-in_err-key-clause-sent : goal.returns-in_err-key-clause-sent
returns-in_err-key-clause-sent g c =
    let told = err_from_is_err_and c.from_residual.result c.from_residual.ensures.1 in
    λ s (means, sound, honest).
    let walked = c.keys.invariant.walked s (means, sound, c.next_key.ensures.stays.honest honest) in
    rw told.1 (walk_breaks s.keys (IsKeyLine s) c.keys.after.items _ _ told.0 walked)

pub returns-in_default-clause-sent : goal.returns-in_default-clause-sent
returns-in_default-clause-sent g c = λ s (means, sound, honest).
    let walked = c.keys.invariant.walked s (means, sound, c.next_key.ensures.stays.honest honest) in
    let next = subst (λ (a : List ℕ). IsNext bytes_cmp (IsKey s) a None) c.deref.ensures.value (rw c.in_default.is at c.in_ok-key.ensures.next s (c.keys.invariant.stays.same s means, sound, honest)) in
    walk_ends s.keys (IsKeyLine s) bytes_total bytes_same c.keys.after.items _ _ tt walked next

pub returns-in_err-text-clause-sent : goal.returns-in_err-text-clause-sent
returns-in_err-text-clause-sent g c =
    let told = err_from_is_err_and c.from_residual-in_err-text.result c.from_residual-in_err-text.ensures.1 in
    λ s (means, sound, honest).
    let walked = c.keys.invariant.walked s (means, sound, c.next_key.ensures.stays.honest honest) in
    rw told.1 (walk_breaks s.keys (IsKeyLine s) c.keys.after.items _ _ told.0 walked)

pub returns-clause-sent : goal.returns-clause-sent
returns-clause-sent g c = λ s meant. walk_breaks s.keys (IsKeyLine s) c.keys.after.items _ _ _ (c.keys.invariant.walked s meant)

pub returns-in_err-send_text-clause-sent : goal.returns-in_err-send_text-clause-sent
returns-in_err-send_text-clause-sent g c =
    let told = err_from_is_err_and c.from_residual-in_err-send_text.result c.from_residual-in_err-send_text.ensures.1 in
    λ s (means, sound, honest).
    let walked = c.keys.invariant.walked s (means, sound, c.next_key.ensures.stays.honest honest) in
    let next = subst (λ (a : List ℕ). IsNext bytes_cmp (IsKey s) a (Some c.in-Some.key.id.items)) c.deref.ensures.value (rw c.in-Some.is at c.in_ok-key.ensures.next s (c.keys.invariant.stays.same s means, sound, honest)) in
    let row = rw c.in-Some.is at c.in_ok-key.ensures.row s (c.keys.invariant.stays.same s means, sound, honest) in
    let limits = rw c.in-Some.is at c.in_ok-key.ensures.limits s (c.keys.invariant.stays.same s means, sound, honest) in
    let sent = sends_same c.deref-in-keys.ensures.value c.in_err-send_text.ensures.sent in
    rw told.1 (walk_stops s.keys (IsKeyLine s) bytes_total bytes_same c.keys.after.items c.in-Some.key.id.items c.in_ok-text.text.items _ _ _ tt c.in_err-send_text.field-0.0 told.0 walked next (λ k there. key_line_told s c.in-Some.key.id.items c.in-Some.key.row (map (λ b. b.items) c.in-Some.key.boxes.items) k c.in_ok-text.text.items row limits c.in_ok-text.ensures.line there) sent)

pub keys-preserved : goal.keys-preserved
keys-preserved g c = record {
  stays = stays_joined _ _ _ _ c.keys.invariant.stays c.in_ok-key.ensures.stays;
  count = c.in_ok-send_text.ensures.count.ok ∙ c.keys.invariant.count;
  walked = λ s (means, sound, honest).
      let walked = c.keys.invariant.walked s (means, sound, c.next_key.ensures.stays.honest honest) in
      let next = subst (λ (a : List ℕ). IsNext bytes_cmp (IsKey s) a (Some c.in-Some.key.id.items)) c.deref.ensures.value (rw c.in-Some.is at c.in_ok-key.ensures.next s (c.keys.invariant.stays.same s means, sound, honest)) in
      let row = rw c.in-Some.is at c.in_ok-key.ensures.row s (c.keys.invariant.stays.same s means, sound, honest) in
      let limits = rw c.in-Some.is at c.in_ok-key.ensures.limits s (c.keys.invariant.stays.same s means, sound, honest) in
      let sent = sends_same c.deref-in-keys.ensures.value c.in_ok-send_text.ensures.sent in
      walk_moves s.keys (IsKeyLine s) bytes_total bytes_same c.keys.after.items c.in-Some.key.id.items c.in_ok-text.text.items _ _ _ tt walked next (λ k there. key_line_told s c.in-Some.key.id.items c.in-Some.key.row (map (λ b. b.items) c.in-Some.key.boxes.items) k c.in_ok-text.text.items row limits c.in_ok-text.ensures.line there) sent;
}

pub returns-in_err-key-clause-stays : goal.returns-in_err-key-clause-stays
returns-in_err-key-clause-stays g c = passed_stays _ _ _ c.from_residual.result c.in_err-key.field-0.0 c.from_residual.ensures.1 c.keys.invariant.stays c.in_err-key.ensures.stays

pub returns-in_err-key-clause-count : goal.returns-in_err-key-clause-count
returns-in_err-key-clause-count g c = passed_count c.from_residual.result c.in_err-key.field-0.0 _ _ c.from_residual.ensures.1 c.in_err-key.ensures.fault c.keys.invariant.count

pub returns-in_err-key-clause-fault : goal.returns-in_err-key-clause-fault
returns-in_err-key-clause-fault g c = passed_fault c.from_residual.result c.in_err-key.field-0.0 c.from_residual.ensures.1 c.in_err-key.ensures.fault

pub returns-in_default-clause-stays : goal.returns-in_default-clause-stays
returns-in_default-clause-stays g c = stays_joined _ _ _ _ c.keys.invariant.stays c.in_ok-key.ensures.stays

pub returns-in_default-clause-count : goal.returns-in_default-clause-count
returns-in_default-clause-count g c = record { err = tt; ok = c.keys.invariant.count }

pub returns-in_default-clause-fault : goal.returns-in_default-clause-fault
returns-in_default-clause-fault g c = tt

pub returns-in_err-text-clause-stays : goal.returns-in_err-text-clause-stays
returns-in_err-text-clause-stays g c = passed_other _ _ _ c.from_residual-in_err-text.result c.in_err-text.field-0.0 fault.Memory c.from_residual-in_err-text.ensures.1 c.in_err-text.ensures.memory refl c.keys.invariant.stays c.in_ok-key.ensures.stays

pub returns-in_err-text-clause-count : goal.returns-in_err-text-clause-count
returns-in_err-text-clause-count g c = passed_count c.from_residual-in_err-text.result c.in_err-text.field-0.0 _ _ c.from_residual-in_err-text.ensures.1 (subst IsOfAnswering (sym c.in_err-text.ensures.memory) tt) c.keys.invariant.count

pub returns-in_err-text-clause-fault : goal.returns-in_err-text-clause-fault
returns-in_err-text-clause-fault g c = passed_fault c.from_residual-in_err-text.result c.in_err-text.field-0.0 c.from_residual-in_err-text.ensures.1 (subst IsOfAnswering (sym c.in_err-text.ensures.memory) tt)

pub returns-in_err-send_text-clause-stays : goal.returns-in_err-send_text-clause-stays
returns-in_err-send_text-clause-stays g c = passed_other _ _ _ c.from_residual-in_err-send_text.result c.in_err-send_text.field-0.0 fault.Write c.from_residual-in_err-send_text.ensures.1 c.in_err-send_text.ensures.fault refl c.keys.invariant.stays c.in_ok-key.ensures.stays

pub returns-in_err-send_text-clause-count : goal.returns-in_err-send_text-clause-count
returns-in_err-send_text-clause-count g c = passed_write c.from_residual-in_err-send_text.result c.in_err-send_text.field-0.0 _ _ _ c.from_residual-in_err-send_text.ensures.1 c.keys.invariant.count c.in_err-send_text.ensures.count

pub returns-in_err-send_text-clause-fault : goal.returns-in_err-send_text-clause-fault
returns-in_err-send_text-clause-fault g c = passed_manifest c.from_residual-in_err-send_text.result c.in_err-send_text.field-0.0 c.from_residual-in_err-send_text.ensures.1 (subst IsOfManifest (sym c.in_err-send_text.ensures.fault) tt)

pub returns-clause-stays : goal.returns-clause-stays
returns-clause-stays g c = c.keys.invariant.stays

pub returns-clause-count : goal.returns-clause-count
returns-clause-count g c = record { err = tt; ok = c.keys.invariant.count }

pub returns-clause-fault : goal.returns-clause-fault
returns-clause-fault g c = tt
